-- The reader's pass is split off the writer's.
use Rattle.std.proofs.Common.{rules}
use Rattle.apf_stats.proofs.Steps.{forks}
use Rattle.apf_stats.proofs.board.open.Goals as goal

pub split_pass-reader-requires : goal.split_pass-reader-requires
split_pass-reader-requires c = (search rules, (search rules, (search rules, forks _ _ (search rules))))
