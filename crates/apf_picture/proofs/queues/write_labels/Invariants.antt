-- The numbers of the queues so far were written.
use Rattle.std.specs.Prelude.{map}
use Rattle.std.specs.List.{flat_map, range_with_len}
use Rattle.std.specs.Io.KnownBytes.{Appends}
use Rattle.apf_picture.specs.Columns.{queue_in}
use Rattle.apf_picture.specs.Strips.{queue_label}
use Rattle.apf_picture.proofs.queues.write_labels.Given as goal

abbrev pub invariant-loop-place : goal.invariant-loop-place
invariant-loop-place g l = Appends (g.W.Write.contents l.initial.out) (g.W.Write.contents l.out) (flat_map (queue_label (map queue_in l.strips) l.each) (range_with_len 0 l.place))
