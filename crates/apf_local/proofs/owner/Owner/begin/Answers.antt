-- The slot's next request takes its seats.
use Rattle.std.proofs.Common.{rules, ◌≡◌, List, set, sym, ap, ◌∙◌, subst}
use Rattle.std.specs.Prelude.{slice_get, Some}
use Rattle.apf_gate.specs.Tokens.{PassToken}
use Rattle.apf_local.specs.Owners.{IsFresh}
use Rattle.apf_local.proofs.Places.{set_again}
use Rattle.apf_local.proofs.Slots.{owner_then, get_same}
use Rattle.apf_local.proofs.owner.Owner.begin.Goals as goal

pub take_seats-requires-clause-fresh : goal.take_seats-requires-clause-fresh
take_seats-requires-clause-fresh c = λ t at.
    let renews = c.renew.ensures.renews (search rules) in
    let is : t ≡ renews.after = get_same c.args.self.now.passes c.args.slot renews.after t (subst (λ (ts : List PassToken). slice_get ts c.args.slot ≡ Some t) renews.now at) in
    subst (IsFresh c.args.ask) (sym is) renews.does.is

pub returns-clause-same : goal.returns-clause-same
returns-clause-same c = owner_then c.args.self.now c.renew.new.self c.take_seats.new.self c.renew.ensures.same c.take_seats.ensures.same

pub returns-clause-begins : goal.returns-clause-begins
returns-clause-begins c =
    let renews = c.renew.ensures.renews (search rules) in
    let takes = c.take_seats.ensures.takes in
    let same : takes.before ≡ renews.after = get_same c.args.self.now.passes c.args.slot renews.after takes.before (subst (λ (ts : List PassToken). slice_get ts c.args.slot ≡ Some takes.before) renews.now takes.was) in
    record {
      before = renews.before;
      after = takes.after;
      was = renews.was;
      now = takes.now ∙ (ap (λ (ts : List PassToken). set ts c.args.slot takes.after) renews.now ∙ set_again c.args.self.now.passes c.args.slot renews.after takes.after);
      does = record {
        number = takes.does.number ∙ (ap (λ (t : PassToken). t.pass.number) same ∙ renews.does.number);
        is = takes.does.is;
      };
    }
