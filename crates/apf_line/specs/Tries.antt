-- A request that tried to take its seats, and found none.
use Rattle.std.specs.Prelude.{◌≡◌, ◌⊎◌, ℕ, List, ◌++◌}
use Rattle.apf_gate.specs.declared.answers.TryTake.TheVariants as tried
use Rattle.apf_gate.specs.declared.record.Entry.{Entry}
use Rattle.apf_gate.specs.declared.record.PassRecord.{PassRecord}
use Rattle.apf_gate.specs.PassCalls.{TriesToTake}

-- it loaded the level word, and found that others wait, or that it does not fit
abbrev pub FindsNoSeats : PassRecord → PassRecord → Type 0
FindsNoSeats pass pass' = TriesToTake pass tried.Waiters pass' ⊎ TriesToTake pass tried.NoRoom pass'

-- its Pass knew of these steps when it tried to take its seats, and found none. It knows of that load among the later ones
pub record FoundNoSeatsSince (known : List Entry) (r : ℕ) (known' : List Entry) : Type 0 where
  pub before : PassRecord
  pub after : PassRecord
  pub number : after.number ≡ r
  pub since : (later : List Entry) × (later ++ known ≡ before.knows.trace)
  pub finds : FindsNoSeats before after
  pub goes_on : (later : List Entry) × (later ++ after.knows.trace ≡ known')
