-- The Desk hears, and the log stays.
use Rattle.std.proofs.Common.{rules, subst}
use Rattle.apf_book.specs.BookView.{BookView}
use Rattle.apf_book.specs.LedgerView.{LedgerView}
use Rattle.apf_book.specs.BookCalls.{Hears}
use Rattle.apf_book.specs.Batch.{ledger_with, life_of}
use Rattle.apf_book.specs.LifeBook.{IsLifeKept}
use Rattle.apf_book.proofs.Opened.{opened, unsettled}
use Rattle.apf_book.proofs.Batches.{quiet, quiet_logged, same_book}
use Rattle.apf_book.proofs.book.Book.hear.Given as given
use Rattle.apf_book.proofs.book.Book.hear.Goals as goal

abbrev before : (g : given.Over) → goal.After-hear g → LedgerView
before g c = ledger_with c.self.inside.book c.self.inside.dealer c.self.inside.costs.items c.self.inside.hashes.items c.self.inside.log.items

kept : (g : given.Over) (c : goal.After-hear g) → IsLifeKept (life_of (before g c)) c.hear.new.self
kept g c = c.hear.ensures.answer.history (life_of (before g c)) c.self.invariant.kept

pub invariant_of-self : goal.invariant_of-self
invariant_of-self g c =
    quiet (opened c.legal_histories_are_in_order.ensures) c.self.inside.book c.self.inside.dealer c.self.inside.costs.items c.self.inside.hashes.items c.self.inside.log.items c.self.inside.arrived.items _ c.self.invariant c.hear.new.self c.hear.ensures.same (kept g c)

pub returns : goal.returns
returns g c = record {
  same = same_book (unsettled c.unsettled_logs_are_fair.ensures) c.args.self.now c.self.inside.book c.hear.new.self (before g c) _ c.self.inside.arrived.items _ c.self.view_is c.hear.ensures.same (invariant_of-self g c);
  same_request = search rules;
  answer = subst (λ (k : BookView). Hears k c.args.pass.now (record { desk = c.hear.new.self.desk; ledger = ledger_with c.hear.new.self c.self.inside.dealer c.self.inside.costs.items c.self.inside.hashes.items c.self.inside.log.items }) c.hear.new.pass) c.self.view_is (record {
    ledger = quiet_logged (opened c.legal_histories_are_in_order.ensures) c.self.inside.book c.self.inside.dealer c.self.inside.costs.items c.self.inside.hashes.items c.self.inside.log.items c.self.inside.arrived.items _ c.self.invariant c.hear.new.self c.hear.ensures.same (kept g c);
    answer = c.hear.ensures.answer.answer;
  });
  after = record { state = c.hear.ensures.answer.state; told = c.hear.ensures.answer.told; told_pass = c.hear.ensures.answer.told_pass };
}
