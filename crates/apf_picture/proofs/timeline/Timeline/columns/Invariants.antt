-- The columns so far.
use Rattle.std.proofs.Common.{◌≡◌}
use Rattle.std.specs.Prelude.{map}
use Rattle.std.specs.List.{range_with_len}
use Rattle.apf_picture.specs.Columns.{time_of}
use Rattle.apf_picture.specs.Spans.{held}
use Rattle.apf_picture.proofs.timeline.Timeline.columns.Given as goal

abbrev pub invariant-loop-column : goal.invariant-loop-column
invariant-loop-column l = l.values.items ≡ map (λ column. held l.self (time_of l.end column)) (range_with_len 0 l.column)
