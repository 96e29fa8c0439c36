use Rattle.apf_level.proofs.LifeAsks.{on_of}
use Rattle.apf_level.proofs.life.level.Level.give_back.Goals as goal

pub returns-clause-goes_on : goal.returns-clause-goes_on
returns-clause-goes_on g c = on_of c.args.pass.now.pass.knows c.release.new.pass.pass.knows c.release.ensures.same.more
