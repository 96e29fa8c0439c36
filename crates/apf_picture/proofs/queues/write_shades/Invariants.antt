-- The shades so far were written.
use Rattle.std.specs.Io.KnownBytes.{Appends}
use Rattle.apf_picture.specs.Strips.{shades_text}
use Rattle.apf_picture.proofs.queues.write_shades.Given as goal

abbrev pub invariant-loop-place : goal.invariant-loop-place
invariant-loop-place g l = Appends (g.W.Write.contents l.initial.out) (g.W.Write.contents l.out) (shades_text l.strips l.longest l.place)
