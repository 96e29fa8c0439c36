use Rattle.apf_rows.proofs.Areas.{are_areas}
use Rattle.apf_rows.proofs.laws.every_sum_is_an_area.Goals as goal

pub returns : goal.returns
returns c = are_areas
