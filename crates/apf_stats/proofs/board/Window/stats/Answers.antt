-- A reading keeps the rule.
use Rattle.std.proofs.Common.{rules}
use Rattle.apf_stats.proofs.Steps.{reads}
use Rattle.apf_stats.proofs.board.Window.stats.Goals as goal

pub load_as-requires : goal.load_as-requires
load_as-requires g c = (search rules, (search rules, (search rules, reads _ _)))
