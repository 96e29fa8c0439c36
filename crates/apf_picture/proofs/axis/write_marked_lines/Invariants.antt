-- The lines of the marks so far were written.
use Rattle.std.proofs.Common.{ℕ, ◌+◌, ◌*◌}
use Rattle.std.specs.List.{flat_map, range_with_len}
use Rattle.apf_picture.specs.Parts.{mark_line}
use Rattle.std.specs.Io.KnownBytes.{Appends}
use Rattle.apf_picture.proofs.axis.write_marked_lines.Given as goal

abbrev pub invariant-loop-mark : goal.invariant-loop-mark
invariant-loop-mark g l = Appends (g.W.Write.contents l.initial.out) (g.W.Write.contents l.out) (flat_map (λ (mark : ℕ). mark_line l.end l.depth (l.first + mark * l.step)) (range_with_len 0 l.mark))
