-- Each call goes down one level.
use Rattle.std.proofs.Common.{◌-◌, ◌*◌}
use Rattle.apf_least.proofs.tree.+first_under.Given as goal

abbrev pub decreases-first_under : goal.decreases-first_under
decreases-first_under l = 2 * l.leaves - l.node
