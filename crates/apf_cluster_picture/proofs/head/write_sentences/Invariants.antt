-- The sentences of the levels so far were written.
use Rattle.std.proofs.Common.{take}
use Rattle.std.specs.Io.KnownBytes.{Appends}
use Rattle.apf_cluster_picture.specs.Heads.{sentences}
use Rattle.apf_cluster_picture.proofs.head.write_sentences.Given as goal

abbrev pub invariant-loop-level : goal.invariant-loop-level
invariant-loop-level g l = Appends (g.W.Write.contents l.initial.out) (g.W.Write.contents l.out) (sentences (take l.level-index l.levels))
