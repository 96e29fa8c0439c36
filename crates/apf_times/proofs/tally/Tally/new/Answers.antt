-- None has any place.
use Rattle.std.proofs.Common.{◌≡◌, ◌≤◌, ℕ, All, refl, subst, sym, arith, rules}
use Rattle.std.proofs.lemmas.List.Elements.{All-replicate}
use Rattle.apf_times.proofs.tally.Tally.new.Goals as goal

pub invariant_of-result : goal.invariant_of-result
invariant_of-result g c =
    (omega (arith, c.in_ok-vec.ensures.len, c.in_ok-vec.field-0.ok.0), subst (All (λ (n : ℕ). n ≤ 0)) (sym (c.in_ok-vec.ensures.items_if_clones_equal (λ y e. search rules))) (All-replicate (λ (n : ℕ). n ≤ 0) 5302 0 (omega arith)))

pub returns : goal.returns
returns g c =
    let none = subst (All (λ (n : ℕ). n ≡ 0)) (sym (c.in_ok-vec.ensures.items_if_clones_equal (λ y e. search rules))) (All-replicate (λ (n : ℕ). n ≡ 0) 5302 0 refl) in
    let long = c.in_ok-vec.ensures.len in
    record { none = record { total = refl; by_place = λ place l. none place 0 (omega arith); in_range = tt } }
