-- Of a line that is not there no column is known.
use Rattle.std.proofs.Common.{[], rules}
use Rattle.apf_explain.proofs.lines.write_not_json.Goals as goal

pub returns-in_ok-write_column-in-None-clause-line : goal.returns-in_ok-write_column-in-None-clause-line
returns-in_ok-write_column-in-None-clause-line g c = rw c.in-None.is (0, ([], tt, search rules))
