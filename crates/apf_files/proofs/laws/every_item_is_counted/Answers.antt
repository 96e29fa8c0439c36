use Rattle.apf_files.proofs.RequestItems.{items_count-items_view}
use Rattle.apf_files.proofs.laws.every_item_is_counted.Goals as goal

pub returns : goal.returns
returns c = items_count-items_view
