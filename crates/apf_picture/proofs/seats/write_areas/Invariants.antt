-- The areas so far were written.
use Rattle.std.proofs.Common.{take}
use Rattle.apf_picture.specs.Parts.{areas_text}
use Rattle.std.specs.Io.KnownBytes.{Appends}
use Rattle.apf_picture.proofs.seats.write_areas.Given as goal

abbrev pub invariant-loop-area : goal.invariant-loop-area
invariant-loop-area g l = Appends (g.W.Write.contents l.initial.out) (g.W.Write.contents l.out) (areas_text (take l.area-index l.areas) l.most)
