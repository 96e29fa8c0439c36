-- The order of places, by two numbers.
use Rattle.std.proofs.Common.{◌≡◌, ℕ, Bool, true, false, refl}
use Rattle.std.specs.Prelude.{cond, nat_lt, ◌==◌, ◌&&◌, ◌||◌}
use Rattle.std.specs.Ordering.{nat_cmp, ordering_then, is_lt}
use Rattle.std.specs.declared.cmp.Ordering.TheVariants.{Less, Equal, Greater}

by_tests : (p q r s : Bool) → is_lt (ordering_then (cond p Less (cond q Equal Greater)) (cond r Less (cond s Equal Greater))) ≡ (p || (q && r))
by_tests true q r s = refl
by_tests false true true s = refl
by_tests false true false true = refl
by_tests false true false false = refl
by_tests false false r s = refl

-- the order by two numbers
pub pair_order : (a b c d : ℕ) → is_lt (ordering_then (nat_cmp a b) (nat_cmp c d)) ≡ (nat_lt a b || ((a == b) && nat_lt c d))
pair_order a b c d = by_tests (nat_lt a b) (a == b) (nat_lt c d) (c == d)
