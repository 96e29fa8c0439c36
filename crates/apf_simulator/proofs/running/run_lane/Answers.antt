-- The lane went on.
use Rattle.std.proofs.Common.{None, sym, subst}
use Rattle.apf_simulator.specs.Feeds.{IsOver}
use Rattle.apf_simulator.specs.Turns.{Begins}
use Rattle.apf_simulator.proofs.Handed.{gone_alone, over_one}
use Rattle.apf_simulator.proofs.running.run_lane.Goals as goal

pub returns-clause-over : goal.returns-clause-over
returns-clause-over g c = subst IsOver (sym c.into_one.ensures) (over_one c.run.new.lanes.one c.run.new.lanes.other c.in_ok-run.ensures.over)

pub returns-clause-gone : goal.returns-clause-gone
returns-clause-gone g c = λ was before fed heard.
    gone_alone was (g.R.Read.remaining c.run.new.input) None c.run.new.reader c.args.lane c.run.new.lanes.one c.into_one.result c.run.new.lanes.other (λ turns. g.L.Listener.heard before (g.W.Write.contents c.run.new.out) turns c.run.new.listener × Begins c.args.first turns None)
    c.into_one.ensures (c.in_ok-run.ensures.gone was before fed heard)
