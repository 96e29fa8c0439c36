-- What was due so far was done.
use Rattle.std.proofs.Common.{◌≤◌, []}
use Rattle.apf_stream.specs.Measures.{left}
use Rattle.apf_stream.specs.Runs.{HasRun}
use Rattle.apf_stream.specs.States.{state_of}
use Rattle.apf_stream.specs.Ties.{AreTied}
use Rattle.apf_stream.proofs.stream.Stream.advance.Given as goal

abbrev pub invariant-loop : goal.invariant-loop
invariant-loop l = record {
  tied : AreTied (state_of l.self);
  run : HasRun [] (state_of l.fn.self) l.fn.ends.items (state_of l.self) l.ends.items;
  in_time : l.fn.self.calendar.time ≤ l.by → l.self.calendar.time ≤ l.by;
}

abbrev pub decreases-loop : goal.decreases-loop
decreases-loop l = left l.self.calendar.slots
