-- The shades so far were written.
use Rattle.std.specs.Io.KnownBytes.{Appends}
use Rattle.apf_picture.specs.Strips.{scale_shades}
use Rattle.apf_picture.proofs.queues.write_scale_shades.Given as goal

abbrev pub invariant-loop-place : goal.invariant-loop-place
invariant-loop-place g l = Appends (g.W.Write.contents l.initial.out) (g.W.Write.contents l.out) (scale_shades l.place)
