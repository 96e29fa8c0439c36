use Rattle.std.proofs.Common.{sym, subst}
use Rattle.apf_words.specs.declared.decision.Decision.{Decision}
use Rattle.apf_times.specs.Waits.{AreKept}
use Rattle.apf_rows.specs.Accounts.{before, executed_wait}
use Rattle.apf_rows.proofs.account.note.Goals as goal

pub returns-in_ok-add-in-Execute-clause-kept : goal.returns-in_ok-add-in-Execute-clause-kept
returns-in_ok-add-in-Execute-clause-kept c others kept =
    subst (λ (d : Decision). AreKept (before (executed_wait d c.args.wait) others) c.add.new.self) (sym c.in-Execute.is) (c.in_ok-add-in-Execute.ensures.kept others kept)
