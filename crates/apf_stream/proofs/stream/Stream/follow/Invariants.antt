-- The events so far were heard.
use Rattle.std.proofs.Common.{◌≡◌, ◌≤◌, []}
use Rattle.apf_stream.specs.Measures.{left}
use Rattle.apf_stream.specs.Runs.{HasRun}
use Rattle.apf_stream.specs.States.{state_of}
use Rattle.apf_stream.specs.Ties.{AreTied}
use Rattle.apf_stream.proofs.stream.Stream.follow.Given as goal

abbrev pub invariant-loop-place : goal.invariant-loop-place
invariant-loop-place l = record {
  tied : AreTied (state_of l.self);
  run : HasRun [] (state_of l.fn.self) l.fn.ends.items (state_of l.self) l.ends.items;
  no_more : left l.self.calendar.slots ≤ left l.fn.self.calendar.slots;
  time : l.self.calendar.time ≡ l.fn.self.calendar.time;
}
