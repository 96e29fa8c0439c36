-- A text that is a time in none of the units is none.
use Rattle.std.proofs.Common.{ℕ, List}
use Rattle.apf_commands.specs.declared.patience.Unit.{Unit}
use Rattle.apf_commands.specs.declared.patience.Unit.TheVariants.{Plain, Microseconds, Milliseconds, Seconds, Minutes}
use Rattle.apf_commands.specs.Patience.{IsNoTime, IsNoTimeIn, IsTimeIn}

pub none_in_any : (longest : ℕ) (t : List ℕ) → IsNoTimeIn longest Plain t → IsNoTimeIn longest Microseconds t → IsNoTimeIn longest Milliseconds t → IsNoTimeIn longest Seconds t → IsNoTimeIn longest Minutes t
    → IsNoTime longest t
none_in_any longest t a b c d e n is = go is.0 is.1
  where
    go : (u : Unit) → IsTimeIn longest u t n → ⊥
    go Plain h = a n h
    go Microseconds h = b n h
    go Milliseconds h = c n h
    go Seconds h = d n h
    go Minutes h = e n h
