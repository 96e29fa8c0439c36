-- This many lines are before the one that is sought.
use Rattle.std.proofs.Common.{◌≡◌, ◌-◌, length}
use Rattle.apf_traces.specs.TraceFile.{lines_of}
use Rattle.apf_explain.specs.TraceLines.{nth_line}
use Rattle.apf_explain.proofs.lines.numbered.Given as goal

abbrev pub invariant-loop-rest : goal.invariant-loop-rest
invariant-loop-rest l = nth_line l.earlier (lines_of l.rest) ≡ nth_line (l.number - 1) (lines_of l.bytes)

abbrev pub decreases-loop-rest : goal.decreases-loop-rest
decreases-loop-rest l = length l.rest
