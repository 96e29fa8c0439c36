-- The sentences of the rows so far were written.
use Rattle.std.proofs.Common.{take}
use Rattle.std.specs.Io.KnownBytes.{Appends}
use Rattle.apf_picture.specs.Heads.{sentences}
use Rattle.apf_picture.proofs.head.write_sentences.Given as goal

abbrev pub invariant-loop-row : goal.invariant-loop-row
invariant-loop-row g l = Appends (g.W.Write.contents l.initial.out) (g.W.Write.contents l.out) (sentences (take l.row-index l.rows))
