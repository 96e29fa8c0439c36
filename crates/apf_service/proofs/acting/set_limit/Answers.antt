-- No slot changed.
use Rattle.apf_service.proofs.Keeps.{tallied_stays}
use Rattle.apf_service.proofs.acting.set_limit.Goals as goal

pub returns-clause-tallied : goal.returns-clause-tallied
returns-clause-tallied c = tallied_stays c.args.level.now c.set_limit-was.new.self c.args.notes.now.tally c.set_limit-was.ensures.same c.set_limit-was.ensures.slots c.requires.tallied
