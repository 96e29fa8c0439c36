-- The characters so far were written.
use Rattle.std.proofs.Common.{take}
use Rattle.apf_picture.specs.Names.{escaped}
use Rattle.std.specs.Io.KnownBytes.{Appends}
use Rattle.apf_picture.proofs.names.write_text.Given as goal

abbrev pub invariant-loop-character : goal.invariant-loop-character
invariant-loop-character g l = Appends (g.W.Write.contents l.initial.out) (g.W.Write.contents l.out) (escaped (take l.character-index l.text))
