-- The lines so far were found, and none has a fault.
use Rattle.std.proofs.Common.{[]}
use Rattle.apf_cluster_text.specs.LogLines.{HasRead}
use Rattle.apf_cluster_text.proofs.Judging.{HasMatched}
use Rattle.apf_cluster_text.proofs.events.write_log.Given as goal

abbrev pub invariant-lines : goal.invariant-lines
invariant-lines g l = HasRead [] [] (g.R.Read.remaining l.initial.input) l.initial.log → HasMatched (g.R.Read.remaining l.initial.input) (g.R.Read.remaining l.input) l.log
