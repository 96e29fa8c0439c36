-- There is room for the characters so far, and for as much of what is left.
use Rattle.std.proofs.Common.{◌≡◌, ◌++◌, take, drop}
use Rattle.apf_picture.specs.Names.{front_of}
use Rattle.apf_picture.proofs.names.front.Given as goal

abbrev pub invariant-loop-place : goal.invariant-loop-place
invariant-loop-place l = take l.place l.name ++ front_of l.left (drop l.place l.name) ≡ front_of l.room l.name
