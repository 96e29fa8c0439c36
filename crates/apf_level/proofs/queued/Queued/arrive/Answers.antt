use Rattle.std.proofs.Common.{rules, ℕ, refl, sym, subst, arith}
use Rattle.std.specs.Prelude.{Contains}
use Rattle.apf_history.specs.declared.events.Event.{Event}
use Rattle.apf_history.specs.declared.events.Event.TheVariants.{Enter}
use Rattle.apf_book.specs.LedgerView.{LedgerView}
use Rattle.apf_level.specs.Arrivals.{Appended}
use Rattle.apf_level.proofs.Appending.{appended}
use Rattle.apf_level.proofs.Entered.{never}
use Rattle.apf_level.proofs.queued.Queued.arrive.Goals as goal

pub returns-in-Queued-clause-stands : goal.returns-in-Queued-clause-stands
returns-in-Queued-clause-stands g c =
    let e : Event = Enter c.args.pass.now.pass.number c.in-Queued.queue in (
      c.in-Queued.ensures.after.entered.1 (c.in-Queued.queue, subst (λ (v : LedgerView). Contains v.history e) (sym c.in-Queued.ensures.answer.log) (0, omega arith, refl)),
      subst (λ (n : ℕ). Appended g.K.Naming.level (Enter n c.in-Queued.queue)) (sym c.in-Queued.ensures.same_request.number)
          (appended g.K.Naming.level e c.args.self.now.book.ledger c.arrive-arrived.new.self.ledger c.serve.new.book.ledger c.serve.result c.args.self.now.tied.ledger c.in-Queued.ensures.answer.log c.serve.ensures.answer.log c.serve.ensures.same.kept.of_log),
    )

pub returns-in-Closed-clause-stands : goal.returns-in-Closed-clause-stands
returns-in-Closed-clause-stands g c = (
  c.in-Closed.ensures.answer.told.1,
  search rules,
  search rules,
  never c.args.self.now.book.ledger.history c.args.pass.now.pass.number c.arrive-arrived.new.pass.pass.entered (c.in-Closed.ensures.after.first c.requires.not_handed)
      (λ is. subst (λ (v : LedgerView). (q : ℕ) × Contains v.history (Enter c.args.pass.now.pass.number q)) c.in-Closed.ensures.answer.log (c.in-Closed.ensures.after.entered.0 is)),
)

pub returns-in-Cancelled-clause-stands : goal.returns-in-Cancelled-clause-stands
returns-in-Cancelled-clause-stands g c = (
  c.in-Cancelled.ensures.answer.told.1,
  search rules,
  search rules,
  never c.args.self.now.book.ledger.history c.args.pass.now.pass.number c.arrive-arrived.new.pass.pass.entered (c.in-Cancelled.ensures.after.first c.requires.not_handed)
      (λ is. subst (λ (v : LedgerView). (q : ℕ) × Contains v.history (Enter c.args.pass.now.pass.number q)) c.in-Cancelled.ensures.answer.log (c.in-Cancelled.ensures.after.entered.0 is)),
)
