-- The strips so far were written.
use Rattle.std.proofs.Common.{take}
use Rattle.apf_picture.specs.Strips.{all_runs}
use Rattle.std.specs.Io.KnownBytes.{Appends}
use Rattle.apf_picture.proofs.queues.write_all_runs.Given as goal

abbrev pub invariant-loop-strip : goal.invariant-loop-strip
invariant-loop-strip g l = Appends (g.W.Write.contents l.initial.out) (g.W.Write.contents l.out) (all_runs (take l.strip-index l.strips) l.longest l.wanted)
