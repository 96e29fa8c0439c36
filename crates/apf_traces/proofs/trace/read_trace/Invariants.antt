use Rattle.std.proofs.Common.{◌≡◌, ◌≤◌, ◌+◌, All, length, map, vec_len}
use Rattle.apf_files.specs.FirstFault.{with_front}
use Rattle.apf_traces.specs.TraceValue.{entry, IsRequestInRange, IsNamed}
use Rattle.apf_traces.specs.TraceFile.{trace_of, trace_from, lines_of, max_lines}
use Rattle.apf_traces.proofs.trace.read_trace.Given as goal

abbrev pub invariant-loop-rest : goal.invariant-loop-rest
invariant-loop-rest l = record {
  so_far : with_front (map entry l.requests.items) (trace_from l.line (lines_of l.rest)) ≡ trace_of l.bytes;
  few : l.line ≤ max_lines + 1;
  count : vec_len l.requests + 1 ≡ l.line;
  ranges : All IsRequestInRange l.requests.items;
  named : All IsNamed l.requests.items;
  within : length l.rest ≤ length l.bytes;
}

abbrev pub decreases-loop-rest : goal.decreases-loop-rest
decreases-loop-rest l = length l.rest
