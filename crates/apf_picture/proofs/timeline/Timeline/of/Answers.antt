-- The changes of the spans, in the order of their times.
use Rattle.std.proofs.Common.{List, ◌∙◌, ap, subst}
use Rattle.std.specs.Prelude.{map, IsPermutation}
use Rattle.apf_picture.specs.declared.totals.Change.{Change}
use Rattle.apf_picture.specs.Changes.{beginning_of, end_of}
use Rattle.apf_picture.proofs.Counts.{timeline_same}
use Rattle.apf_picture.proofs.timeline.Timeline.of.Goals as goal

pub invariant_of-result : goal.invariant_of-result
invariant_of-result c =
    let begun = c.in_ok-begun.begun in
    let ended = c.in_ok-ended.ended in
    timeline_same c.args.spans.items begun ended
    (subst (λ (cs : List Change). IsPermutation cs begun) (c.in_ok-beginnings.ensures.beginnings ∙ ap (map beginning_of) c.as_slice.ensures.value) c.in_ok-begun.ensures)
    (subst (λ (cs : List Change). IsPermutation cs ended) (c.in_ok-ends.ensures.ends ∙ ap (map end_of) c.as_slice-2.ensures.value) c.in_ok-ended.ensures)
