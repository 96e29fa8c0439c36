-- The choice by the queues is that by the history.
use Rattle.std.proofs.Common.{subst}
use Rattle.std.specs.Prelude.{MatchOption}
use Rattle.apf_queue.specs.View.{NothingWaits, IsChosen}
use Rattle.apf_book.specs.Life.{LifeState}
use Rattle.apf_book.proofs.Opened.{opened}
use Rattle.apf_book.proofs.LifeNexts.{life_chosen, life_has_time}
use Rattle.apf_book.proofs.life.LifeLedger.choose.Goals as goal

pub returns-clause-next : goal.returns-clause-next
returns-clause-next g c v is =
    life_chosen v c.args.self.now is c.choose.result
    (subst (λ (x : LifeState). MatchOption c.choose.result (NothingWaits x.queues) (IsChosen x.queues)) c.self.view_is c.choose.ensures)

pub returns-clause-time : goal.returns-clause-time
returns-clause-time g c v q is = life_has_time v c.args.self.now is (opened c.legal_histories_are_in_order.ensures) q
