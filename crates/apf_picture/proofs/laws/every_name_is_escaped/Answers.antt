use Rattle.apf_picture.proofs.Escapes.{is_xml_text}
use Rattle.apf_picture.proofs.laws.every_name_is_escaped.Goals as goal

pub returns : goal.returns
returns c = is_xml_text
