-- The flows are distinct.
use Rattle.std.proofs.Common.{map, sym, subst}
use Rattle.std.specs.Prelude.{nat_eq}
use Rattle.std.specs.List.{IsDistinct}
use Rattle.apf_hands.specs.Firsts.{MeetingView, hash_of}
use Rattle.apf_hands.proofs.firsts.Meeting.into_firsts.Goals as goal

pub returns-clause-distinct : goal.returns-clause-distinct
returns-clause-distinct c =
    subst (λ (v : MeetingView). IsDistinct nat_eq (map hash_of v.firsts)) c.self.view_is (subst (IsDistinct nat_eq) (sym c.self.invariant.hashes) c.self.invariant.distinct)
