-- The clause is a lemma.
use Rattle.apf_book.proofs.LifeStrikes.{asked_known}
use Rattle.apf_book.proofs.life.a_batch_is_known.Goals as goal

pub returns : goal.returns
returns c = asked_known
