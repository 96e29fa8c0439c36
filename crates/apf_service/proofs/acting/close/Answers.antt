-- No slot changed.
use Rattle.apf_service.proofs.Keeps.{tallied_stays}
use Rattle.apf_service.proofs.acting.close.Goals as goal

pub returns-clause-tallied : goal.returns-clause-tallied
returns-clause-tallied c = tallied_stays c.args.level.now c.close.new.self c.args.notes.now.tally c.close.ensures.same c.close.ensures.slots c.requires.tallied
