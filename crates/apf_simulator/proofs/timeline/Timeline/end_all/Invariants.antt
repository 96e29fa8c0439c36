-- The calls of those so far were added.
use Rattle.std.proofs.Common.{◌≡◌, ◌++◌, take}
use Rattle.std.specs.List.{flat_map}
use Rattle.apf_simulator.specs.Calls.{end_call}
use Rattle.apf_simulator.proofs.timeline.Timeline.end_all.Given as goal

abbrev pub invariant-loop-ended : goal.invariant-loop-ended
invariant-loop-ended l = l.self.calls.items ≡ l.initial.self.calls.items ++ flat_map end_call (take l.ended-index l.ends)
