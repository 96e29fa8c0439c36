use Rattle.apf_changes.proofs.Ordered.{ordered_after}
use Rattle.apf_changes.proofs.laws.every_change_keeps_the_order.Goals as goal

pub returns : goal.returns
returns c change before after is are = ordered_after change before after is are
