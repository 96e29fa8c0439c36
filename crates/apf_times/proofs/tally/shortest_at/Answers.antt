-- The number of a place.
use Rattle.apf_times.proofs.Digits.{shortened_back}
use Rattle.apf_times.proofs.tally.shortest_at.Goals as goal

pub returns : goal.returns
returns c wait l at = shortened_back wait c.saturating_sub-behind.result c.args.place l at c.saturating_sub-behind.ensures
