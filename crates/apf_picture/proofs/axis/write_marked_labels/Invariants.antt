-- The times of the marks so far were written.
use Rattle.std.proofs.Common.{ℕ, ◌+◌, ◌*◌}
use Rattle.std.specs.List.{flat_map, range_with_len}
use Rattle.apf_picture.specs.Parts.{mark_label}
use Rattle.std.specs.Io.KnownBytes.{Appends}
use Rattle.apf_picture.proofs.axis.write_marked_labels.Given as goal

abbrev pub invariant-loop-mark : goal.invariant-loop-mark
invariant-loop-mark g l = Appends (g.W.Write.contents l.initial.out) (g.W.Write.contents l.out) (flat_map (λ (mark : ℕ). mark_label l.unit l.from l.end l.step (l.first + mark * l.step)) (range_with_len 0 l.mark))
