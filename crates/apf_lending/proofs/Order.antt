-- The order of fractions.
use Rattle.std.proofs.Common.{◌≡◌, ℕ, ◌+◌, ◌*◌, ◌<◌, ◌≤◌, ◌⊎◌, ◌∙◌, inl, inr, List, length, All, take, get_or, arith, sym}
use Rattle.std.proofs.Math.Nat.{mul_right_comm, mul-le-mul_right, le_of_mul-le-mul_right}
use Rattle.std.proofs.lemmas.List.{get_or_default}
use Rattle.std.proofs.lemmas.List.Elements.{All-more, All-weaker}
use Rattle.apf_lending.specs.declared.fraction.Fraction.{Fraction}
use Rattle.apf_lending.specs.Breaks.{IsUpTo, IsOneOf}

-- a / b is at most c / d, and that at most e / f
pub chain : (a b c d e f : ℕ) → 1 ≤ d → a * d ≤ c * b → c * f ≤ e * d → a * f ≤ e * b
chain a b c d e f some one two =
    let first : a * d * f ≤ c * b * f = mul-le-mul_right f one in
    let second : c * f * b ≤ e * d * b = mul-le-mul_right b two in
    let left : a * f * d ≤ e * b * d =
    omega (arith, first, second, mul_right_comm a d f, mul_right_comm c b f, mul_right_comm e d b) in
    le_of_mul-le-mul_right left (omega arith)

pub up_to_up_to : (a b c : Fraction) → 1 ≤ b.under → IsUpTo a b → IsUpTo b c → IsUpTo a c
up_to_up_to a b c some one two = chain a.over a.under b.over b.under c.over c.under some one two

-- a step of a loop over fractions that keeps the greatest
pub greatest_step : (breaks : List Fraction) (i : ℕ) (d old new : Fraction) → i < length breaks → 1 ≤ old.under → All (λ b. IsUpTo b old) (take i breaks)
    → IsUpTo old new → IsUpTo (get_or breaks i d) new → All (λ b. IsUpTo b new) (take (i + 1) breaks)
greatest_step breaks i d old new within some before up at =
    All-more (λ b. IsUpTo b new) breaks i d within
    (All-weaker (λ b. IsUpTo b old) (λ b. IsUpTo b new) (λ b h. up_to_up_to b old new some h up) (take i breaks) before) at

-- what is not less is at least
pub same_up_to : (a : Fraction) → IsUpTo a a
same_up_to a = omega arith

-- a step of a loop over fractions that keeps the least of those that pass a test
pub least_step : (P : Fraction → Type 0) (breaks : List Fraction) (i : ℕ) (d old new : Fraction) → i < length breaks → 1 ≤ old.under
    → All (λ b. P b → IsUpTo old b) (take i breaks) → IsUpTo new old → (P (get_or breaks i d) → IsUpTo new (get_or breaks i d))
    → All (λ b. P b → IsUpTo new b) (take (i + 1) breaks)
least_step P breaks i d old new within some before up at =
    All-more (λ b. P b → IsUpTo new b) breaks i d within
    (All-weaker (λ b. P b → IsUpTo old b) (λ b. P b → IsUpTo new b) (λ b h p. up_to_up_to new old b some up (h p)) (take i breaks) before) at

-- a step of a loop over fractions that keeps the greatest of those that pass a test
pub below_step : (P : Fraction → Type 0) (breaks : List Fraction) (i : ℕ) (d old new : Fraction) → i < length breaks → 1 ≤ old.under
    → All (λ b. P b → IsUpTo b old) (take i breaks) → IsUpTo old new → (P (get_or breaks i d) → IsUpTo (get_or breaks i d) new)
    → All (λ b. P b → IsUpTo b new) (take (i + 1) breaks)
below_step P breaks i d old new within some before up at =
    All-more (λ b. P b → IsUpTo b new) breaks i d within
    (All-weaker (λ b. P b → IsUpTo b old) (λ b. P b → IsUpTo b new) (λ b h p. up_to_up_to b old new some (h p) up) (take i breaks) before) at

-- one of the two is 0 or one of these, where the first is
pub one_step : (breaks : List Fraction) (i : ℕ) (d old new : Fraction) → i < length breaks → IsOneOf old breaks → (new ≡ old) ⊎ (new ≡ get_or breaks i d)
    → IsOneOf new breaks
one_step breaks i d old new within one (inl same) = rw same one
one_step breaks i d old new within one (inr at) = inr (i, within, get_or_default breaks i new d within ∙ sym at)
