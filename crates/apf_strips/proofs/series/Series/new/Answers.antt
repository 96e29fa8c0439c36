-- Each bin of none has nothing.
use Rattle.std.proofs.Common.{◌≡◌, ℕ, [], All, refl, subst, sym, arith, rules}
use Rattle.std.proofs.lemmas.List.Elements.{All-replicate}
use Rattle.apf_strips.proofs.series.Series.new.Goals as goal

pub invariant_of-result : goal.invariant_of-result
invariant_of-result c =
    let none = subst (All (λ (n : ℕ). n ≡ 0)) (sym (c.in_ok-vec.ensures.items_if_clones_equal (λ y e. search rules))) (All-replicate (λ (n : ℕ). n ≡ 0) 400 0 refl) in
    record {
      count = omega (arith, c.in_ok-vec.ensures.len, c.in_ok-vec.field-0.ok.0);
      few = omega arith;
      fits = omega arith;
      spans = [];
      are = record { bins = λ bin l. none bin 0 (omega (arith, c.in_ok-vec.ensures.len, c.in_ok-vec.field-0.ok.0)); total = refl; inside = tt; in_order = tt };
    }
