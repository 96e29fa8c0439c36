-- Those so far passed the place, and the others are as they were.
use Rattle.std.proofs.Common.{◌≡◌, drop, map, take}
use Rattle.apf_hands.specs.Holders.{behind, lists_of}
use Rattle.apf_hands.proofs.sharers.pass.Given as goal

abbrev pub invariant-loop-rest : goal.invariant-loop-rest
invariant-loop-rest l =
    (lists_of (take l.rest-index l.rests) ≡ map (behind l.place) (lists_of (take l.rest-index l.initial.rests))) × (drop l.rest-index l.rests ≡ drop l.rest-index l.initial.rests)
