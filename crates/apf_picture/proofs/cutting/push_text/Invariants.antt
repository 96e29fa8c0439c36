-- The characters so far were added.
use Rattle.std.proofs.Common.{◌≡◌, ◌++◌, map, take}
use Rattle.apf_picture.specs.Names.{visible_of}
use Rattle.apf_picture.proofs.cutting.push_text.Given as goal

abbrev pub invariant-loop-character : goal.invariant-loop-character
invariant-loop-character l = l.out.items ≡ l.initial.out.items ++ map visible_of (take l.character-index l.text)
