-- The law of every fair history gives the bound.
use Rattle.apf_book.proofs.Opened.{balanced}
use Rattle.apf_book.proofs.Stretches.{answers_differ}
use Rattle.apf_book.proofs.stretch.balance.Goals as goal

pub returns-clause-balanced : goal.returns-clause-balanced
returns-clause-balanced c = answers_differ (balanced c.fair_histories_are_balanced.ensures) c.args.log.now c.args.widths.now c.args.from c.args.to c.args.a c.args.b c.requires.in_order c.requires.in_log _ c.services.result c.services.ensures
