-- Each that was told can be counted, by the laws of streams.
use Rattle.std.proofs.Common.{◌≤◌, List, [], map, Contains, sym, subst, arith}
use Rattle.std.specs.List.{AllByRecursion}
use Rattle.apf_stream.specs.declared.asked.Asked.{Asked}
use Rattle.apf_stream.specs.declared.ended.Ended.{Ended}
use Rattle.apf_stream.specs.Runs.{IsOverBy}
use Rattle.apf_stream.specs.States.{State, state_of}
use Rattle.apf_simulator.specs.Lanes.{asked_by}
use Rattle.apf_simulator.proofs.Countable.{are_counted}
use Rattle.apf_simulator.proofs.counting.are_countable.Goals as goal

pub returns : goal.returns
returns c =
    let t = c.requires in
    let s : State = state_of c.args.stream.now in
    let ends = c.args._ends.now in
    let r = t.run in
    let came = subst (λ (l : List Ended). AllByRecursion (λ e. Contains (map asked_by t.came) e.hold.asked) l) (sym r.told_are)
    (subst (λ (l : List Asked). AllByRecursion (λ e. Contains l e.hold.asked) r.told) r.came_are (c.every_told_request_came.ensures.told [] r.deeds t.opening s r.told r.run t.tied t.nobody)) in
    let over = subst (λ (l : List Ended). AllByRecursion (IsOverBy s.slots.time) l) (sym r.told_are) (c.every_end_is_in_time.ensures.over r.deeds t.opening s r.told r.run) in
    let low : s.slots.time ≤ 200000000000000 = let a = c.time-time.ensures.low in let b = c.time-time.ensures.time in omega arith in
    are_counted t.came c.args._rows.now s.slots.time t.told ends low t.asked (λ x has. c.every_flow_is_met.ensures t.came c.args._rows.now x t.met has) came over
