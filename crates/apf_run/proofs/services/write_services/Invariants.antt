-- The text of the queues so far was written.
use Rattle.std.proofs.Common.{take}
use Rattle.std.specs.Io.KnownBytes.{Appends}
use Rattle.apf_run.specs.Services.{services_text}
use Rattle.apf_run.proofs.services.write_services.Given as goal

abbrev pub invariant-loop-service : goal.invariant-loop-service
invariant-loop-service g l = Appends (g.W.Write.contents l.initial.out) (g.W.Write.contents l.out) (services_text (take l.service-index l.services))
