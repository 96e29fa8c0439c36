-- The spans have the waits of the queue.
use Rattle.std.proofs.Common.{List, ◌∙◌, ap, subst}
use Rattle.apf_picture.specs.declared.span.Span.{Span}
use Rattle.apf_picture.specs.Columns.{IsMost}
use Rattle.apf_picture.specs.Spans.{held, columns_of}
use Rattle.apf_picture.proofs.Peaks.{columns_of_waits, most_of_waits}
use Rattle.apf_picture.proofs.columns.queue_strip.Goals as goal

pub returns-clause-strip : goal.returns-clause-strip
returns-clause-strip c =
    let spans = c.in_ok-timeline.ensures ∙ c.in_ok-spans.ensures.spans in
    record {
      lengths = c.in_ok-lengths.ensures ∙ ap (λ (spans : List Span). columns_of (held spans) c.args.end) spans ∙ columns_of_waits c.args.lives.now c.args.end c.args.queue;
      most = most_of_waits c.args.lives.now c.args.queue c.most.result (subst (λ (spans : List Span). IsMost (held spans) c.most.result) spans c.most.ensures);
    }
