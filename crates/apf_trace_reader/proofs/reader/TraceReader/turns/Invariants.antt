use Rattle.std.proofs.Common.{◌≡◌, ℕ, List, ◌++◌}
use Rattle.std.specs.Io.KnownBytes.{Consumes}
use Rattle.apf_times.specs.declared.window.Arrival.{Arrival}
use Rattle.apf_traces.specs.declared.request.TraceRequest.{TraceRequest}
use Rattle.apf_trace_reader.specs.Reading.{HasRead}
use Rattle.apf_trace_reader.proofs.reader.TraceReader.turns.Given as goal

abbrev pub invariant-turns : goal.invariant-turns
invariant-turns g l = record {
  goes : (bytes : List ℕ) (told : List (Arrival TraceRequest)) → HasRead bytes told (g.R.Read.remaining l.initial.input) l.initial.self
      → (more : List ℕ) × Consumes (g.R.Read.remaining l.initial.input) (g.R.Read.remaining l.input) more × HasRead (bytes ++ more) told (g.R.Read.remaining l.input) l.self;
  last : l.self.window.last ≡ l.initial.self.window.last;
  size : l.self.window.size ≡ l.initial.self.window.size;
}
