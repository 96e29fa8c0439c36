-- The slot goes on to its next request.
use Rattle.std.proofs.Common.{rules, ◌≡◌, List, length, refl, sym, ap, ◌∙◌, subst}
use Rattle.std.proofs.lemmas.List.{length-set}
use Rattle.std.specs.Prelude.{Option, Some}
use Rattle.apf_gate.specs.Tokens.{PassToken, pass_gate}
use Rattle.apf_book.specs.BookResults.{SameRequest}
use Rattle.apf_book.specs.LifeBook.{LifeBookView}
use Rattle.apf_book.specs.LifeCalls.{HearsLife}
use Rattle.apf_local.specs.Owners.{OwnerView, Renews, IsUsedUp}
use Rattle.apf_local.proofs.Places.{set_again, was, moved, same_owner, heard}
use Rattle.apf_local.proofs.Hearing.{hears_trace, asked_then}
use Rattle.apf_local.proofs.Slots.{get_same}
use Rattle.apf_local.proofs.owner.Owner.renew.Goals as goal

some_is : (a b : PassToken) → ◌≡◌ {A = Option PassToken} (Some a) (Some b) → a ≡ b
some_is a b is = cc

pub returns-in-Spent-clause-used_up : goal.returns-in-Spent-clause-used_up
returns-in-Spent-clause-used_up c = λ spent t at.
    let o : OwnerView = record { gate = c.self.inside.gate; response = c.self.inside.response; book = c.self.inside.book; passes = c.self.inside.passes.items; stations = c.self.inside.stations.items } in
    let p : PassToken = c.index_mut.result.now in
    let here = was o c.args.self.now c.args.slot p c.self.view_is c.requires.is_slot c.index_mut.ensures.value in
    let used : IsUsedUp o.gate c.args.ask.width p = c.renew.ensures.spent_only.0 (search rules) in
    subst (λ (x : PassToken). IsUsedUp c.args.self.now.gate c.args.ask.width x) (some_is p t (sym here ∙ at)) (subst (λ (x : OwnerView). IsUsedUp x.gate c.args.ask.width p) c.self.view_is used)

pub invariant_of-self-2 : goal.invariant_of-self-2
invariant_of-self-2 c =
    let o : OwnerView = record { gate = c.self.inside.gate; response = c.self.inside.response; book = c.self.inside.book; passes = c.self.inside.passes.items; stations = c.self.inside.stations.items } in
    let own : pass_gate c.index_mut-2.result.now ≡ c.self.inside.gate = (search rules) in
    heard o c.self.invariant c.args.slot c.hear.new.pass c.hear.new.self _ (c.hear.ensures.same_request.pass ∙ own) c.hear.ensures.same c.hear.ensures.follows
    (set_again c.self.inside.passes.items c.args.slot c.renew.new.pass c.hear.new.pass)

pub returns-clause-same : goal.returns-clause-same
returns-clause-same c =
    let o : OwnerView = record { gate = c.self.inside.gate; response = c.self.inside.response; book = c.self.inside.book; passes = c.self.inside.passes.items; stations = c.self.inside.stations.items } in
    let ps : List PassToken = c.self.inside.passes.items in
    same_owner o c.args.self.now c.self.view_is c.hear.new.self c.hear.ensures.same _
    (ap (λ (xs : List PassToken). length xs) (set_again ps c.args.slot c.renew.new.pass c.hear.new.pass) ∙ length-set ps c.args.slot c.hear.new.pass) _ refl

pub returns-clause-renews : goal.returns-clause-renews
returns-clause-renews c = λ done.
    let o : OwnerView = record { gate = c.self.inside.gate; response = c.self.inside.response; book = c.self.inside.book; passes = c.self.inside.passes.items; stations = c.self.inside.stations.items } in
    let b0 : LifeBookView = c.self.inside.book in
    let b1 : LifeBookView = c.hear.new.self in
    let r0 : PassToken = c.renew.new.pass in
    let h1 : PassToken = c.hear.new.pass in
    let e1 : c.index_mut-2.result.now ≡ r0 = (search rules) in
    let same1 : SameRequest r0 h1 = subst (λ (t : PassToken). SameRequest t h1) e1 c.hear.ensures.same_request in
    let hears1 : HearsLife b0 r0 b1 h1 = subst (λ (t : PassToken). HearsLife b0 t b1 h1) e1 c.hear.ensures.answer in
    let renews = c.in-Began.ensures.answer c.in-Began._decision refl in
    let asked = c.in-Began.ensures.asks c.in-Began._decision refl in
    moved o c.args.self.now c.args.slot c.index_mut.result.now h1 _ (Renews c.args.ask) c.self.view_is c.requires.is_slot c.index_mut.ensures.value (set_again c.self.inside.passes.items c.args.slot r0 h1) (record {
      number = same1.number ∙ ap (λ p. p.number) renews.2;
      is = record {
        fresh = hears1.state ∙ ap (λ p. p.state) renews.2;
        asked = asked_then r0.pass.knows.trace h1.pass.knows.trace r0.pass.number h1.pass.number (record { hash = c.args.ask.hash; cost = c.args.ask.cost }) (hears_trace b0 b1 r0 h1 same1 hears1) same1.number asked;
      };
    })

pub returns-clause-heard : goal.returns-clause-heard
returns-clause-heard c = λ done t at.
    let is : t ≡ c.hear.new.pass = get_same _ c.args.slot c.hear.new.pass t at in
    subst (λ (x : PassToken). x.pass.knows.trace ≡ c.hear.new.self.desk.desk.knows.trace) (sym is) c.hear.ensures.follows
