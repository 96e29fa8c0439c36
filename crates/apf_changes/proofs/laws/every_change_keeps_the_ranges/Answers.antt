use Rattle.apf_changes.proofs.Ranges.{in_range_after}
use Rattle.apf_changes.proofs.laws.every_change_keeps_the_ranges.Goals as goal

pub returns : goal.returns
returns c change before after is are = in_range_after change before after is are
