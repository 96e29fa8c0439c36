-- Those of the requests so far.
use Rattle.std.proofs.Common.{◌≡◌, ◌≤◌, take, length}
use Rattle.apf_picture.specs.Rows.{members_of}
use Rattle.apf_picture.proofs.row.members.Given as goal

abbrev pub invariant-loop-life : goal.invariant-loop-life
invariant-loop-life l = record {
  members : l.members.items ≡ members_of (take l.life-index l.lives) l.row;
  few : length l.members.items ≤ l.life-index;
}
