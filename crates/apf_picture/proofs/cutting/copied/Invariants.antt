-- The characters so far.
use Rattle.std.proofs.Common.{◌≡◌, take}
use Rattle.apf_picture.proofs.cutting.copied.Given as goal

abbrev pub invariant-loop-character : goal.invariant-loop-character
invariant-loop-character l = l.copy.items ≡ take l.character-index l.text
