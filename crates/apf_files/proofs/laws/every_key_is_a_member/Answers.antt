use Rattle.apf_files.proofs.Keys.{list_all-keys_of}
use Rattle.apf_files.proofs.laws.every_key_is_a_member.Goals as goal

pub returns : goal.returns
returns c = list_all-keys_of
