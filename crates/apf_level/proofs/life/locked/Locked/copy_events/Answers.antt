use Rattle.std.proofs.Common.{◌≡◌, ℕ, ◌-◌, [], refl, arith}
use Rattle.std.specs.Prelude.{max, min}
use Rattle.apf_line.specs.Levels.{nothing_yet}
use Rattle.apf_level.proofs.LifeHistories.{opened}
use Rattle.apf_level.proofs.life.locked.Locked.copy_events.Goals as goal

most : (from less : ℕ) → from ≡ max from (0 - less)
most from less = omega arith

least : (from room : ℕ) → 0 ≡ min (0 - from) room
least from room = omega arith

pub returns-in-None-clause-of_level : goal.returns-in-None-clause-of_level
returns-in-None-clause-of_level g c = record {
  view = nothing_yet g.K.Naming.level;
  trace = [];
  of_level = (opened c.every_level_has_histories.ensures).nothing g.K.Naming.level [];
  copies = λ few. record { start = most _ _; count_is = least _ _; copied = refl; rest = refl; room = refl };
}
