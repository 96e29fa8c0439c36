-- The greater of two gaps is one of them.
use Rattle.std.proofs.Common.{◌≡◌, ◌-◌, inl, inr, length, slice_index, below_more, sym, arith}
use Rattle.std.specs.Prelude.{max}
use Rattle.std.proofs.Math.ListN.{get_or-eq_default}
use Rattle.std.proofs.lemmas.Bool.{cases_lt}
use Rattle.apf_bound.proofs.judged.gap.Goals as goal

pub loop-place-init : goal.loop-place-init
loop-place-init c = record {
  at = (length c.args.more.now, (let none = get_or-eq_default c.args.more.now 0 {n = length c.args.more.now} (omega arith) in omega arith));
  most = λ q low. absurd (omega arith);
}

pub loop-place-preserved : goal.loop-place-preserved
loop-place-preserved c =
    let place = c.loop-place.place in let gap = c.loop-place.gap in
    let more = c.args.more.now in let less = c.args.less.now in
    let here : slice_index more place - slice_index less place ≡ c.saturating_sub.result = sym c.saturating_sub.ensures in
    let is : c.max-gap.result ≡ max c.saturating_sub.result gap = c.max-gap.ensures in
    record {
      at = elim (cases_lt gap c.saturating_sub.result) [
        | inl new ↦ (place, (omega arith))
        | inr old ↦ (c.loop-place.invariant.at.0, (let before = c.loop-place.invariant.at.1 in omega arith))
      ];
      most = below_more _ _ (λ q low. (let before = c.loop-place.invariant.most q low in omega arith)) (omega arith);
    }
