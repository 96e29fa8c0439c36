-- One more came, or nobody does any more.
use Rattle.std.proofs.Common.{Option, Some, ◌∙◌, subst}
use Rattle.apf_simulator.specs.Feeds.{HaveGone}
use Rattle.apf_simulator.specs.Turns.{Begins}
use Rattle.apf_simulator.proofs.Going.{begins_on}
use Rattle.apf_simulator.proofs.Handed.{Came, gone_on}
use Rattle.apf_simulator.proofs.feeding.feed_all.Goals as goal

pub returns-in-None-clause-gone : goal.returns-in-None-clause-gone
returns-in-None-clause-gone g c = λ was before fed heard.
    subst (λ (n : Option Came). HaveGone was (g.R.Read.remaining c.requests.input) n c.requests.reader c.args.lanes.now.one c.args.lanes.now.other c.requests.lanes.one c.requests.lanes.other (λ turns. g.L.Listener.heard before (g.W.Write.contents c.requests.out) turns c.requests.listener × Begins c.args.first turns n))
    c.in-None.is (c.requests.invariant.gone was before fed heard)

pub requests-preserved : goal.requests-preserved
requests-preserved g c =
    let e = c.in_ok-next-in-Some.ensures in
    let i = c.requests.invariant in
    record {
      handed_out = e.handed_out;
      ahead = e.ahead;
      lived = e.lived;
      gone = λ was before fed heard.
          gone_on was (g.R.Read.remaining c.requests.input) (g.R.Read.remaining c.turn.new.input) c.in-Some.came c.in_ok-next-in-Some.next c.requests.reader c.turn.new.reader c.args.lanes.now.one c.args.lanes.now.other c.requests.lanes.one c.requests.lanes.other c.turn.new.lanes.one c.turn.new.lanes.other
          (λ turns. g.L.Listener.heard before (g.W.Write.contents c.requests.out) turns c.requests.listener × Begins c.args.first turns (Some c.in-Some.came)) (λ turns. g.L.Listener.heard before (g.W.Write.contents c.turn.new.out) turns c.turn.new.listener × Begins c.args.first turns c.in_ok-next-in-Some.next)
          (λ turns ends. e.fed was turns ends) e.goes (λ turns h. (e.heard before turns h.0, begins_on c.args.first turns c.in-Some.came _ c.in_ok-next-in-Some.next h.1))
          (subst (λ (n : Option Came). HaveGone was (g.R.Read.remaining c.requests.input) n c.requests.reader c.args.lanes.now.one c.args.lanes.now.other c.requests.lanes.one c.requests.lanes.other (λ turns. g.L.Listener.heard before (g.W.Write.contents c.requests.out) turns c.requests.listener × Begins c.args.first turns n)) c.in-Some.is (i.gone was before fed heard));
      size = e.size ∙ i.size;
    }
