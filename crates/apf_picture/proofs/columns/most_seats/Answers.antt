-- The spans have the seats of all rows.
use Rattle.std.proofs.Common.{List, ◌∙◌, subst}
use Rattle.apf_picture.specs.declared.span.Span.{Span}
use Rattle.apf_picture.specs.Columns.{IsMost}
use Rattle.apf_picture.specs.Ranks.{own_rows}
use Rattle.apf_picture.specs.Spans.{held}
use Rattle.apf_picture.proofs.Peaks.{most_of_seats}
use Rattle.apf_picture.proofs.columns.most_seats.Goals as goal

pub returns : goal.returns
returns c = most_of_seats c.args.lives.now own_rows c.most-2.result (subst (λ (spans : List Span). IsMost (held spans) c.most-2.result) (c.in_ok-of.ensures ∙ c.in_ok-spans.ensures.spans) c.most-2.ensures)
