-- The first requests so far have their hands.
use Rattle.std.proofs.Common.{◌≡◌, All, take}
use Rattle.apf_hands.specs.Dealing.{IsDealt}
use Rattle.apf_hands.specs.Dealt.{flows_of}
use Rattle.apf_hands.specs.Hands.{flows_in}
use Rattle.apf_hands.proofs.dealt.deal_all.Given as goal

abbrev pub invariant-loop-first : goal.invariant-loop-first
invariant-loop-first l = record {
  flows : flows_of l.all.items ≡ flows_in l.dealer (take l.first-index l.firsts);
  each : All (IsDealt l.dealer) l.all.items;
}
