-- The laws, closed.
use Rattle.apf_book.specs.Histories.{LegalLaws}
use Rattle.apf_book.proofs.histories.legal_histories_are_in_order.Goals as goal

pub returns : goal.returns
unfolding LegalLaws
returns c = let law = c.every_legal_history_is_in_order.ensures in record { beginnings = law.beginnings; order = law.order; statuses = law.statuses; numbers = law.numbers; follows = law.follows }
