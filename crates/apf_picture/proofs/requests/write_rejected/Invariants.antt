-- The ticks so far were written.
use Rattle.std.proofs.Common.{take}
use Rattle.apf_picture.specs.Bars.{rejected_text}
use Rattle.std.specs.Io.KnownBytes.{Appends}
use Rattle.apf_picture.proofs.requests.write_rejected.Given as goal

abbrev pub invariant-loop-life : goal.invariant-loop-life
invariant-loop-life g l = Appends (g.W.Write.contents l.initial.out) (g.W.Write.contents l.out) (rejected_text (take l.life-index l.lives) l.end)
