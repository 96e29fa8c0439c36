-- Each that was told last is one of those that came, by the laws of streams.
use Rattle.std.proofs.Common.{List, [], map, Contains, sym, subst}
use Rattle.std.specs.List.{AllByRecursion}
use Rattle.apf_stream.specs.declared.asked.Asked.{Asked}
use Rattle.apf_stream.specs.declared.ended.Ended.{Ended}
use Rattle.apf_stream.specs.Runs.{IsOverBy}
use Rattle.apf_stream.specs.States.{State}
use Rattle.apf_simulator.specs.Lanes.{asked_by}
use Rattle.apf_cluster.proofs.Counted.{can_count}
use Rattle.apf_cluster.proofs.late.are_countable.Goals as goal

pub returns : goal.returns
returns c =
    let a = c.requires.ahead in
    let t = a.lane in
    let s : State = c.args._lane.now.state in
    let r = t.run in
    let came = subst (λ (l : List Ended). AllByRecursion (λ (e : Ended). Contains (map asked_by a.came) e.hold.asked) l) (sym r.told_are)
    (subst (λ (l : List Asked). AllByRecursion (λ (e : Ended). Contains l e.hold.asked) r.told) r.came_are (c.every_told_request_came.ensures.told [] r.deeds a.opening s r.told r.run t.tied t.nobody)) in
    let over = subst (λ (l : List Ended). AllByRecursion (IsOverBy s.slots.time) l) (sym r.told_are) (c.every_end_is_in_time.ensures.over r.deeds a.opening s r.told r.run) in
    can_count c.args._late.now a.came a.told c.args._lane.now.ends s.slots.time c.requires.low t.asked (λ cs v x met has. c.every_flow_is_met.ensures cs v x met has) a.counted came over
