-- The history after a Full.
use Rattle.apf_book.proofs.Opened.{opened, stands}
use Rattle.apf_book.proofs.LifeNexts.{life_refuses}
use Rattle.apf_book.proofs.life.LifeLedger.refuse.Goals as goal

pub returns : goal.returns
returns g c v hand cost is comes low =
    life_refuses (opened c.legal_histories_are_in_order.ensures) (stands c.settled_logs_stand.ensures) v c.args.self.now is c.args.request hand c.args.queue cost comes low c.requires.full
