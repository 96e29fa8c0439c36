use Rattle.std.proofs.Common.{refl}
use Rattle.std.specs.Prelude.{reverse}
use Rattle.apf_level.specs.Levels.{logged_as}
use Rattle.apf_level.proofs.laws.every_reported_wait_is_bounded.Goals as goal

pub returns : goal.returns
returns c = λ k level decision log passes stations ended. c.every_dispatched_wait_is_bounded.ensures (logged_as k (reverse log)) log ended.of_log refl
