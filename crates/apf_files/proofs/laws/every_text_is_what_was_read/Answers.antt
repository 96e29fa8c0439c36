use Rattle.apf_files.proofs.Values.{value_of-read, value_of-none}
use Rattle.apf_files.proofs.laws.every_text_is_what_was_read.Goals as goal

pub returns : goal.returns
returns c = record { read = value_of-read; none = value_of-none }
