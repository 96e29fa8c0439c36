-- Empty queues of slots.
use Rattle.std.proofs.Common.{rules}
use Rattle.apf_book.proofs.LifeOpening.{life_opens}
use Rattle.apf_book.proofs.life.LifeLedger.new.Goals as goal

pub returns-clause-opening : goal.returns-clause-opening
returns-clause-opening g c v o =
    life_opens v _ _ _ c.args.queues c.args.length_limit c.args.slots c.args.hand c.args.known c.places.result c.in_ok-new.ensures.opening c.in_ok-new.ensures.numbers (c.in_ok-vec.ensures.items_if_clones_equal (λ y e. e)) (c.in_ok-vec-2.ensures.items_if_clones_equal (λ y e. search rules)) o
