-- The history after a Dispatch.
use Rattle.std.proofs.Common.{sym, subst}
use Rattle.apf_queue.specs.View.{IsChosen, HasTime}
use Rattle.apf_book.specs.Life.{LifeState, IsLifeOf}
use Rattle.apf_book.proofs.Opened.{opened}
use Rattle.apf_book.proofs.Fewer.{fewer_dispatched}
use Rattle.apf_book.proofs.LifeNexts.{life_dispatches}
use Rattle.apf_book.proofs.life.LifeLedger.dispatch.Goals as goal

pub dispatch-requires-clause-chosen : goal.dispatch-requires-clause-chosen
dispatch-requires-clause-chosen g c = subst (λ (x : LifeState). IsChosen x.queues c.args.chosen) (sym c.self.view_is) c.requires.chosen

pub dispatch-requires-clause-time : goal.dispatch-requires-clause-time
dispatch-requires-clause-time g c = subst (λ (x : LifeState). HasTime x.queues c.args.chosen.queue) (sym c.self.view_is) c.requires.time

pub returns-clause-dispatches : goal.returns-clause-dispatches
returns-clause-dispatches g c v is =
    let was = subst (λ (x : LifeState). IsLifeOf v x) (sym c.self.view_is) is in
    let chosen = subst (λ (x : LifeState). IsChosen x.queues c.args.chosen) (sym c.self.view_is) c.requires.chosen in
    rw (← c.self.view_is, c.keep.ensures, c.from.ensures) (life_dispatches v _ was (opened c.legal_histories_are_in_order.ensures) c.args.chosen c.dispatch.new.self chosen c.dispatch.ensures)

pub returns-clause-fewer : goal.returns-clause-fewer
returns-clause-fewer g c =
    let chosen = subst (λ (x : LifeState). IsChosen x.queues c.args.chosen) (sym c.self.view_is) c.requires.chosen in
    rw (← c.self.view_is) (fewer_dispatched c.self.inside.queues c.dispatch.new.self c.args.chosen.queue c.args.chosen.request c.dispatch.ensures.queues chosen.is_head.is_first)
