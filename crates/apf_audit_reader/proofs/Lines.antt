-- A line that an LF ends.
use Rattle.std.proofs.Common.{ℕ, List, true}
use Rattle.apf_traces.specs.TraceFile.{Line}

abbrev pub ended : List ℕ → Line
ended bytes = record { bytes = bytes; is_ended = true }
