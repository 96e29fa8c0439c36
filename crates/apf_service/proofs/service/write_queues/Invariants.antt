-- The lines of the queues so far were written.
use Rattle.std.proofs.Common.{take}
use Rattle.std.specs.List.{flat_map}
use Rattle.std.specs.Io.KnownBytes.{Appends}
use Rattle.apf_service.specs.Lines.{given_text}
use Rattle.apf_service.proofs.service.write_queues.Given as goal

abbrev pub invariant-loop-given : goal.invariant-loop-given
invariant-loop-given g l = Appends (g.W.Write.contents l.initial.out) (g.W.Write.contents l.out) (flat_map given_text (take l.given-index l.queues))
