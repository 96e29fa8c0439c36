-- The slot's request hears what the Desk knows.
use Rattle.std.proofs.Common.{rules, ◌≡◌, refl, sym, ◌∙◌, subst}
use Rattle.std.proofs.lemmas.List.{length-set}
use Rattle.apf_gate.specs.Tokens.{PassToken, pass_gate}
use Rattle.apf_book.specs.LifeBook.{LifeBookView}
use Rattle.apf_local.specs.Owners.{OwnerView, StaysFresh}
use Rattle.apf_local.proofs.Places.{was, moved, same_owner, heard}
use Rattle.apf_local.proofs.Hearing.{hears_trace, asked_then}
use Rattle.apf_local.proofs.Slots.{get_same}
use Rattle.apf_local.proofs.owner.Owner.hear.Goals as goal

pub invariant_of-self : goal.invariant_of-self
invariant_of-self c =
    let o : OwnerView = record { gate = c.self.inside.gate; response = c.self.inside.response; book = c.self.inside.book; passes = c.self.inside.passes.items; stations = c.self.inside.stations.items } in
    let own : pass_gate c.index_mut.result.now ≡ c.self.inside.gate = (search rules) in
    heard o c.self.invariant c.args.slot c.hear.new.pass c.hear.new.self _ (c.hear.ensures.same_request.pass ∙ own) c.hear.ensures.same c.hear.ensures.follows refl

pub returns-clause-same : goal.returns-clause-same
returns-clause-same c =
    let o : OwnerView = record { gate = c.self.inside.gate; response = c.self.inside.response; book = c.self.inside.book; passes = c.self.inside.passes.items; stations = c.self.inside.stations.items } in
    same_owner o c.args.self.now c.self.view_is c.hear.new.self c.hear.ensures.same _ (length-set c.self.inside.passes.items c.args.slot c.hear.new.pass) _ refl

pub returns-clause-hears : goal.returns-clause-hears
returns-clause-hears c =
    let o : OwnerView = record { gate = c.self.inside.gate; response = c.self.inside.response; book = c.self.inside.book; passes = c.self.inside.passes.items; stations = c.self.inside.stations.items } in
    let b0 : LifeBookView = c.self.inside.book in
    let b1 : LifeBookView = c.hear.new.self in
    let p : PassToken = c.index_mut.result.now in
    let h1 : PassToken = c.hear.new.pass in
    let same1 = c.hear.ensures.same_request in
    let fresh = c.requires.fresh p (was o c.args.self.now c.args.slot p c.self.view_is c.requires.is_slot c.index_mut.ensures.value) in
    moved o c.args.self.now c.args.slot p h1 _ (StaysFresh c.args.ask) c.self.view_is c.requires.is_slot c.index_mut.ensures.value refl (record {
      number = same1.number;
      is = record {
        fresh = c.hear.ensures.answer.state ∙ fresh.fresh;
        asked = asked_then p.pass.knows.trace h1.pass.knows.trace p.pass.number h1.pass.number (record { hash = c.args.ask.hash; cost = c.args.ask.cost }) (hears_trace b0 b1 p h1 same1 c.hear.ensures.answer) same1.number fresh.asked;
      };
    })

pub returns-clause-heard : goal.returns-clause-heard
returns-clause-heard c = λ t at.
    let is : t ≡ c.hear.new.pass = get_same _ c.args.slot c.hear.new.pass t at in
    subst (λ (x : PassToken). x.pass.knows.trace ≡ c.hear.new.self.desk.desk.knows.trace) (sym is) c.hear.ensures.follows
