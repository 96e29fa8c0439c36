-- More bytes were read, and no line was found.
use Rattle.std.proofs.Common.{ℕ, List, ◌++◌}
use Rattle.std.specs.Io.KnownBytes.{Consumes}
use Rattle.apf_traces.specs.TraceFile.{Line}
use Rattle.apf_cluster_text.specs.LogLines.{HasRead}
use Rattle.apf_cluster_text.proofs.log_lines.LogLines.next.Given as goal

abbrev pub invariant-turns : goal.invariant-turns
invariant-turns g l = (bytes : List ℕ) (before : List Line) → HasRead bytes before (g.R.Read.remaining l.initial.input) l.initial.self
    → (more : List ℕ) × Consumes (g.R.Read.remaining l.initial.input) (g.R.Read.remaining l.input) more × HasRead (bytes ++ more) before (g.R.Read.remaining l.input) l.self
