-- Who is struck waited, and every history has its Strike.
use Rattle.std.proofs.Common.{◌≡◌, inl, sym, subst}
use Rattle.apf_gate.specs.declared.record.Service.TheVariants.{Waiting}
use Rattle.apf_gate.specs.Records.{service}
use Rattle.apf_book.specs.LifeBook.{LifeBookView, IsLifeKept}
use Rattle.apf_book.proofs.Opened.{opened}
use Rattle.apf_book.proofs.LifeKeeping.{life_waits}
use Rattle.apf_book.proofs.life_book.LifeBook.strike.Goals as goal

pub strike_seen-requires-clause-has_slot : goal.strike_seen-requires-clause-has_slot
strike_seen-requires-clause-has_slot g c =
    let stands = c.if-not-waits.ensures c.self.invariant.view c.self.invariant.kept.of_life in
    inl (subst (λ (b : LifeBookView). service b.desk.desk c.args.request.number ≡ Waiting) c.self.view_is (life_waits (opened c.legal_histories_are_in_order.ensures) c.self.invariant.view _ c.self.invariant.kept stands.0 c.args.request.number stands.1))

pub returns-then-not-waits-clause-answer : goal.returns-then-not-waits-clause-answer
returns-then-not-waits-clause-answer g c v is =
    let kept = (subst (λ (b : LifeBookView). IsLifeKept v b) (sym c.self.view_is) is) in
    (is, λ told q member. c.if-not-waits.ensures v kept.of_life q member)
