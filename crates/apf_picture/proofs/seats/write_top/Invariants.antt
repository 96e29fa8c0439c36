-- The columns so far were written.
use Rattle.std.specs.List.{flat_map, range_with_len}
use Rattle.apf_picture.specs.Parts.{column_text}
use Rattle.std.specs.Io.KnownBytes.{Appends}
use Rattle.apf_picture.proofs.seats.write_top.Given as goal

abbrev pub invariant-loop-column : goal.invariant-loop-column
invariant-loop-column g l = Appends (g.W.Write.contents l.initial.out) (g.W.Write.contents l.out) (flat_map (column_text l.tops l.most) (range_with_len 0 l.column))
