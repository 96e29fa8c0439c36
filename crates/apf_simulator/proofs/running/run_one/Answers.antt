-- The whole trace ran.
use Rattle.std.proofs.Common.{None, ◌∙◌, subst}
use Rattle.apf_simulator.specs.Feeds.{HaveGone}
use Rattle.apf_simulator.specs.Lanes.{LaneView}
use Rattle.apf_simulator.specs.Turns.{Begins}
use Rattle.apf_simulator.proofs.Whole.{heard_all}
use Rattle.apf_simulator.proofs.running.run_one.Goals as goal

pub returns : goal.returns
returns g c = λ before read heard.
    let was = g.R.Read.remaining c.args.input.now in
    let left = g.R.Read.remaining c.run_lane.new.input in
    let o = c.in_ok-lane.ensures in
    let ran = c.in_ok-lane-3.ensures in
    let end = c.in_ok-lane-3.lane in
    heard_all c.args.config.now c.in_ok-lane.opening.slots c.args.terms.patience c.args.terms.by c.in_ok-lane.opening.by c.in_ok-lane.first c.args.reader.now.window.size was left c.in_ok-lane.lane end c.run_lane.new.reader (λ turns. g.L.Listener.heard before (g.W.Write.contents c.run_lane.new.out) turns c.run_lane.new.listener)
    o.opened o.nobody (o.charge read) (o.slots read) ran.over (ran.size ∙ o.size)
    (subst (λ (l : LaneView). HaveGone was left None c.run_lane.new.reader l None end None (λ turns. g.L.Listener.heard before (g.W.Write.contents c.run_lane.new.out) turns c.run_lane.new.listener × Begins c.in_ok-lane.first turns None)) c.in_ok-lane-2.ensures (ran.gone was before (o.fed read) heard))
