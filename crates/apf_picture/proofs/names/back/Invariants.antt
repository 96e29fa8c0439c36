-- There is no room for more than what is left.
use Rattle.std.proofs.Common.{◌≡◌, drop}
use Rattle.apf_picture.specs.Names.{width_of, back_of}
use Rattle.apf_picture.proofs.names.back.Given as goal

abbrev pub invariant-loop-place : goal.invariant-loop-place
invariant-loop-place l = record {
  width : l.left ≡ width_of (drop l.place l.name);
  back : back_of l.room (drop l.place l.name) ≡ back_of l.room l.name;
}
