-- The requests so far were written.
use Rattle.std.proofs.Common.{take}
use Rattle.std.specs.Io.KnownBytes.{Appends}
use Rattle.apf_flows.specs.Requests.{further_text}
use Rattle.apf_flows.proofs.requests.write_further.Given as goal

abbrev pub invariant-loop-request : goal.invariant-loop-request
invariant-loop-request g l = Appends (g.W.Write.contents l.initial.out) (g.W.Write.contents l.out) (further_text (take l.request-index l.requests))
