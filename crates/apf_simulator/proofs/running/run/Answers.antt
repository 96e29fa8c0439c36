-- Nobody comes any more.
use Rattle.std.proofs.Common.{None}
use Rattle.apf_simulator.specs.Turns.{Begins}
use Rattle.apf_simulator.proofs.Going.{begins_last}
use Rattle.apf_simulator.proofs.Handed.{gone_last}
use Rattle.apf_simulator.proofs.running.run.Goals as goal

pub returns-clause-gone : goal.returns-clause-gone
returns-clause-gone g c = λ was before fed heard.
    gone_last was (g.R.Read.remaining c.feed_all.new.input) c.feed_all.new.reader c.args.lanes.now.one c.args.lanes.now.other c.feed_all.new.lanes.one c.feed_all.new.lanes.other c.finish.new.self.one c.finish.new.self.other
    (λ turns. g.L.Listener.heard before (g.W.Write.contents c.feed_all.new.out) turns c.feed_all.new.listener × Begins c.args.first turns None) (λ turns. g.L.Listener.heard before (g.W.Write.contents c.hear.new.out) turns c.hear.new.self × Begins c.args.first turns None)
    c.in_ok-finish.ensures.goes
    (λ turns h. (c.in_ok-hear.ensures before turns h.0, begins_last c.args.first turns _ h.1))
    (c.in_ok-feed_all.ensures.gone was before fed heard)
