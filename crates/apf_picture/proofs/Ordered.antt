-- The order of standings, by three numbers.
use Rattle.std.proofs.Common.{◌≡◌, ℕ, Bool, true, false, refl}
use Rattle.std.specs.Prelude.{cond, nat_lt, ◌==◌, ◌&&◌, ◌||◌}
use Rattle.std.specs.Ordering.{nat_cmp, ordering_then, is_lt}
use Rattle.std.specs.declared.cmp.Ordering.TheVariants.{Less, Equal, Greater}

by_tests : (p q r s t u : Bool) → is_lt (ordering_then (ordering_then (cond p Less (cond q Equal Greater)) (cond r Less (cond s Equal Greater))) (cond t Less (cond u Equal Greater))) ≡ (p || (q && (r || (s && t))))
by_tests true q r s t u = refl
by_tests false true true s t u = refl
by_tests false true false true true u = refl
by_tests false true false true false true = refl
by_tests false true false true false false = refl
by_tests false true false false t u = refl
by_tests false false r s t u = refl

-- the order by three numbers
pub three_order : (a b c d e f : ℕ) → is_lt (ordering_then (ordering_then (nat_cmp a b) (nat_cmp c d)) (nat_cmp e f)) ≡ (nat_lt a b || ((a == b) && (nat_lt c d || ((c == d) && nat_lt e f))))
three_order a b c d e f = by_tests (nat_lt a b) (a == b) (nat_lt c d) (c == d) (nat_lt e f) (e == f)
