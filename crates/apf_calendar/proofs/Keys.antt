-- The numbers of what is due have its order.
use Rattle.std.proofs.Common.{◌≡◌, ℕ, ◌+◌, ◌*◌, ◌^◌, ◌<◌, ◌≤◌, false, refl, arith, nat_cmp, is_lt}
use Rattle.std.specs.Ordering.{ordering_then}
use Rattle.std.proofs.lemmas.Bool.Decides.{nat_tests}
use Rattle.apf_least.specs.Least.{no_number}
use Rattle.apf_times.specs.declared.due.Due.{Due}
use Rattle.apf_times.specs.Dues.{is_before, turn}
use Rattle.apf_calendar.specs.Kept.{key}

-- by time, then by turn, then by line
abbrev lesser : ℕ → ℕ → ℕ → ℕ → ℕ → ℕ → Type 0
lesser a t l b u m = is_lt (ordering_then (nat_cmp a b) (ordering_then (nat_cmp t u) (nat_cmp l m))) ≡ false

not_lesser : (a t l b u m : ℕ) → t ≤ 1 → u ≤ 1 → l < 2 ^ 64 → m < 2 ^ 64 → (2 * b + u) * 2 ^ 64 + m ≤ (2 * a + t) * 2 ^ 64 + l → lesser a t l b u m
not_lesser a t l b u m h i j k below = grind (arith, nat_tests)

pub key_is : (d : Due) → key d ≡ (2 * d.at + turn d.kind) * 2 ^ 64 + d.request
unfolding key
key_is d = refl

-- what has the least number comes before none
pub least_is_first : (d e : Due) → turn d.kind ≤ 1 → turn e.kind ≤ 1 → d.request < 2 ^ 64 → e.request < 2 ^ 64 → key d ≤ key e → is_before e d ≡ false
least_is_first d e h i j k below =
    let a = key_is d in
    let b = key_is e in
    not_lesser e.at (turn e.kind) e.request d.at (turn d.kind) d.request i h k j (omega arith)

-- each is below that of nothing
pub key_low : (d : Due) → d.at ≤ 2 * 10 ^ 14 → turn d.kind ≤ 1 → d.request < 2 ^ 64 → key d < no_number
key_low d low one few = let a = key_is d in omega arith
