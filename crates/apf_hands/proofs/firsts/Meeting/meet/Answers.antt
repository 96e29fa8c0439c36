-- A request came of a flow that is known, or of a new one.
use Rattle.std.proofs.Common.{◌≡◌, ℕ, false, List, [], ◌∷◌, ◌++◌, map, sym, ap, ◌∙◌, subst}
use Rattle.std.specs.Prelude.{nat_eq}
use Rattle.std.specs.List.{list_any}
use Rattle.std.proofs.lemmas.List.Quantifiers.{position-Some}
use Rattle.apf_hands.specs.Firsts.{AreFirst, MeetingView, hash_of}
use Rattle.apf_hands.proofs.Meeting.{begun, meeting_kept, meeting_met}
use Rattle.apf_hands.proofs.firsts.Meeting.meet.Goals as goal

pub invariant_of-self : goal.invariant_of-self
invariant_of-self c =
    let flows = c.self.inside.flows.keys in
    let there = position-Some (nat_eq (hash_of c.args.came)) flows c.in-Some.place 0 (sym c.in-Some.ensures.index) in
    meeting_kept flows c.self.inside.firsts.items c.args.came c.in-Some.place c.index_mut.result.now c.lower.new.first c.self.invariant there.0 there.1 c.index_mut.ensures.value c.lower.ensures

pub returns-in-Some : goal.returns-in-Some
returns-in-Some c = λ before met.
    let flows = c.self.inside.flows.keys in
    let there = position-Some (nat_eq (hash_of c.args.came)) flows c.in-Some.place 0 (sym c.in-Some.ensures.index) in
    meeting_met before flows c.self.inside.firsts.items c.args.came c.in-Some.place c.index_mut.result.now c.lower.new.first c.self.invariant there.0 there.1 c.index_mut.ensures.value c.lower.ensures
    (subst (λ (v : MeetingView). AreFirst before v.firsts) (sym c.self.view_is) met)

pub returns-in_ok-begin-in-None : goal.returns-in_ok-begin-in-None
returns-in_ok-begin-in-None c = λ before met.
    let came = c.args.came in
    let none : list_any (nat_eq (hash_of came)) (map hash_of c.self.inside.firsts.items) ≡ false =
    ap (λ (l : List ℕ). list_any (nat_eq (hash_of came)) l) c.self.invariant.hashes ∙ sym c.in-None.ensures.found in
    subst (AreFirst (before ++ came ∷ [])) (sym c.in_ok-begin-in-None.ensures)
    (subst (λ (v : MeetingView). AreFirst (before ++ came ∷ []) (v.firsts ++ came ∷ [])) c.self.view_is
    (begun before c.self.inside.firsts.items came none (subst (λ (v : MeetingView). AreFirst before v.firsts) (sym c.self.view_is) met)))
