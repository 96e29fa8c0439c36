use Rattle.apf_rows.proofs.Columns.{adds_up}
use Rattle.apf_rows.proofs.laws.every_table_adds_up.Goals as goal

pub returns : goal.returns
returns c = adds_up
