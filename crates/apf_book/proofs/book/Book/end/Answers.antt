-- What is given up agreed.
use Rattle.std.proofs.Common.{subst}
use Rattle.apf_book.specs.BookView.{BookView, IsKept}
use Rattle.apf_book.specs.Batch.{ledger_with}
use Rattle.apf_book.proofs.Opened.{unsettled}
use Rattle.apf_book.proofs.Batches.{is_kept}
use Rattle.apf_book.proofs.book.Book.end.Goals as goal

pub returns-clause-kept : goal.returns-clause-kept
returns-clause-kept g c =
    subst (λ (b : BookView). IsKept b.desk.desk b.ledger) c.self.view_is (is_kept (unsettled c.unsettled_logs_are_fair.ensures) (ledger_with c.self.inside.book c.self.inside.dealer c.self.inside.costs.items c.self.inside.hashes.items c.self.inside.log.items) c.self.inside.book c.self.inside.arrived.items _ c.self.invariant)
