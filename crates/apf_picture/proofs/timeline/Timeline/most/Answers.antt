-- The most at the beginnings is the most of all.
use Rattle.std.proofs.Common.{◌≡◌, ℕ, ◌+◌, ◌<◌, max, List, length, get_or, drop, ◌∙◌, ap, subst, arith}
use Rattle.apf_picture.specs.declared.span.Span.{Span}
use Rattle.std.proofs.lemmas.Grind.{common_steps}
use Rattle.apf_picture.specs.Columns.{IsMost}
use Rattle.apf_picture.specs.Spans.{held}
use Rattle.apf_picture.proofs.Peaks.{most_from, most_is, most_drop}
use Rattle.apf_picture.proofs.timeline.Timeline.most.Goals as goal

pub loop-span-preserved : goal.loop-span-preserved
loop-span-preserved c =
    let spans = c.args.self.now in
    let n = c.loop-span.span-index in
    let none : Span = record { from = 0; to = 0; amount = 0 } in
    let same = c.deref-span-items.ensures.value ∙ c.self.view_is in
    let within = subst (λ (ss : List Span). n < length ss) same c.loop-span-test.true in
    let more = most_drop spans spans n none within in
    let here = c.at.ensures ∙ ap (λ (ss : List Span). held spans (get_or ss n none).from) same in
    let rest = most_from spans (drop (n + 1) spans) in
    let all : max c.max-most.result rest ≡ most_from spans spans = omega (arith, more, here, c.max-most.ensures, c.loop-span.invariant) in
    all

pub returns : goal.returns
returns c =
    let spans = c.args.self.now in
    let e : most_from spans spans ≡ c.loop-span.most = grind (arith, common_steps, c.loop-span.invariant) in
    subst (λ (n : ℕ). IsMost (held spans) n) e (most_is spans)
