use Rattle.apf_words.proofs.ClosedBit.{closes}
use Rattle.apf_words.proofs.level_word.LevelWord.to_close.Goals as goal

pub returns : goal.returns
returns c = closes
