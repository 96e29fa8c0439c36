use Rattle.std.proofs.Common.{refl, []}
use Rattle.apf_line.specs.Levels.{nothing_yet}
use Rattle.apf_level.proofs.LifeHistories.{opened}
use Rattle.apf_level.proofs.life.locked.Locked.stats.Goals as goal

pub returns-in-None-clause-of_level : goal.returns-in-None-clause-of_level
returns-in-None-clause-of_level g c = record {
  view = nothing_yet g.K.Naming.level;
  trace = [];
  of_level = (opened c.every_level_has_histories.ensures).nothing g.K.Naming.level [];
  stats_are = λ few. record { entered = refl; dispatched = refl; struck = refl; full = refl };
}
