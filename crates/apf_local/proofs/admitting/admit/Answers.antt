-- The slot's next request, over its beginning and its arrival.
use Rattle.std.proofs.Common.{rules, ◌≡◌, List, set, Some, sym, ap, ◌∙◌, subst}
use Rattle.std.specs.Prelude.{slice_get}
use Rattle.apf_gate.specs.Tokens.{PassToken}
use Rattle.apf_local.specs.Owners.{IsFresh}
use Rattle.apf_local.proofs.Places.{set_again}
use Rattle.apf_local.proofs.Slots.{owner_then, get_same}
use Rattle.apf_local.proofs.admitting.admit.Goals as goal

pub come-requires-clause-fresh : goal.come-requires-clause-fresh
come-requires-clause-fresh c = λ t at.
    let renews = c.renew.ensures.renews (search rules) in
    let is : t ≡ renews.after = get_same c.args.owner.now.passes c.args.slot renews.after t (subst (λ (ts : List PassToken). slice_get ts c.args.slot ≡ Some t) renews.now at) in
    subst (IsFresh c.args.ask) (sym is) renews.does.is

pub returns-clause-same : goal.returns-clause-same
returns-clause-same c = owner_then c.args.owner.now c.renew.new.self c.come.new.owner c.renew.ensures.same c.come.ensures.same

pub returns-clause-admits : goal.returns-clause-admits
returns-clause-admits c =
    let i = c.args.slot in
    let ps = c.args.owner.now.passes in
    let renews = c.renew.ensures.renews (search rules) in
    let stands = c.come.ensures.stands in
    let same : stands.before ≡ renews.after = get_same ps i renews.after stands.before (subst (λ (xs : List PassToken). slice_get xs i ≡ Some stands.before) renews.now stands.was) in
    record {
      before = renews.before;
      after = stands.after;
      was = renews.was;
      now = stands.now ∙ (ap (λ (xs : List PassToken). set xs i stands.after) renews.now ∙ set_again ps i renews.after stands.after);
      does = record {
        number = stands.does.number ∙ (ap (λ (t : PassToken). t.pass.number) same ∙ renews.does.number);
        is = stands.does.is;
        tried = stands.does.tried;
        came = stands.does.came;
        history = λ v kept. stands.does.history v (c.renew.ensures.history v kept);
      };
    }
