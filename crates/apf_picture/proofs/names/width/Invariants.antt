-- The columns of the characters so far.
use Rattle.std.proofs.Common.{◌≡◌, ◌*◌, ◌≤◌, take}
use Rattle.apf_picture.specs.Names.{width_of}
use Rattle.apf_picture.proofs.names.width.Given as goal

abbrev pub invariant-loop-character : goal.invariant-loop-character
invariant-loop-character l = record {
  width : l.width ≡ width_of (take l.character-index l.name);
  few : l.width ≤ 2 * l.character-index;
}
