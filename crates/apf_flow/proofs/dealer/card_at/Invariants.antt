use Rattle.std.proofs.Common.{◌≡◌, drop}
use Rattle.apf_flow.proofs.FirstPlace.{first_place}
use Rattle.apf_flow.proofs.dealer.card_at.Given as goal

abbrev pub invariant-loop-j : goal.invariant-loop-j
invariant-loop-j l = l.card ≡ first_place (drop l.j l.places) l.place
