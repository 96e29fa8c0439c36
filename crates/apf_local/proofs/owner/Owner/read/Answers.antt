-- What a request that waited read.
use Rattle.std.proofs.Common.{rules, ◌≡◌, List, ℕ, length, refl, sym, ap, ◌∙◌, subst}
use Rattle.std.proofs.lemmas.List.{length-set}
use Rattle.std.specs.Prelude.{Option, Some}
use Rattle.apf_gate.specs.declared.record.Actor.TheVariants.{OfPass}
use Rattle.apf_gate.specs.Tokens.{GateId, PassToken, pass_gate}
use Rattle.apf_gate.specs.PassResults.{SamePass, AfterTold}
use Rattle.apf_gate.specs.PassSteps.{PassLoadsDecision}
use Rattle.apf_book.specs.BookResults.{SameRequest}
use Rattle.apf_book.specs.LifeBook.{LifeBookView}
use Rattle.apf_book.specs.LifeCalls.{HearsLife}
use Rattle.apf_local.specs.Worlds.{IsDecidedIn}
use Rattle.apf_local.specs.Owners.{OwnerView, Reads}
use Rattle.apf_local.proofs.Knowing.{book_then}
use Rattle.apf_local.proofs.Places.{set_thrice, was, moved, same_owner}
use Rattle.apf_local.proofs.Hearing.{hears_trace}
use Rattle.apf_local.proofs.Told.{hears_in_line, read_is}
use Rattle.apf_local.proofs.Worlds.{decided_more, decided_same, undecided_before}
use Rattle.apf_local.proofs.owner.Owner.read.Goals as goal

some_is : (a b : PassToken) → ◌≡◌ {A = Option PassToken} (Some a) (Some b) → a ≡ b
some_is a b is = cc

pub returns-clause-same : goal.returns-clause-same
returns-clause-same c =
    let o : OwnerView = record { gate = c.self.inside.gate; response = c.self.inside.response; book = c.self.inside.book; passes = c.self.inside.passes.items; stations = c.self.inside.stations.items } in
    let ps : List PassToken = c.self.inside.passes.items in
    same_owner o c.args.self.now c.self.view_is c.hear-2.new.self (book_then c.self.inside.book c.hear.new.self c.hear-2.new.self c.hear.ensures.same c.hear-2.ensures.same) _
    (ap (λ (xs : List PassToken). length xs) (set_thrice ps c.args.slot c.hear.new.pass c.told-found.new.pass c.hear-2.new.pass) ∙ length-set ps c.args.slot c.hear-2.new.pass) _ refl

pub returns-clause-reads : goal.returns-clause-reads
returns-clause-reads c =
    let o : OwnerView = record { gate = c.self.inside.gate; response = c.self.inside.response; book = c.self.inside.book; passes = c.self.inside.passes.items; stations = c.self.inside.stations.items } in
    let b0 : LifeBookView = c.self.inside.book in
    let b1 : LifeBookView = c.hear.new.self in
    let b2 : LifeBookView = c.hear-2.new.self in
    let p : PassToken = c.index_mut.result.now in
    let h1 : PassToken = c.hear.new.pass in
    let r : PassToken = c.told-found.new.pass in
    let h2 : PassToken = c.hear-2.new.pass in
    let found = c.told-found.result in
    let e1 : c.index_mut-2.result.now ≡ h1 = (search rules) in
    let e2 : c.index_mut-3.result.now ≡ r = (search rules) in
    let same1 : SameRequest p h1 = c.hear.ensures.same_request in
    let hears1 : HearsLife b0 p b1 h1 = c.hear.ensures.answer in
    let told : SamePass h1 r = subst (λ (t : PassToken). SamePass t r) e1 c.told-found.ensures.same in
    let loads : PassLoadsDecision h1.pass found r.pass = subst (λ (t : PassToken). PassLoadsDecision t.pass found r.pass) e1 c.told-found.ensures.answer in
    let after : AfterTold h1.pass found r.pass = subst (λ (t : PassToken). AfterTold t.pass found r.pass) e1 c.told-found.ensures.after in
    let same2 : SameRequest r h2 = subst (λ (t : PassToken). SameRequest t h2) e2 c.hear-2.ensures.same_request in
    let hears2 : HearsLife b1 r b2 h2 = subst (λ (t : PassToken). HearsLife b1 t b2 h2) e2 c.hear-2.ensures.answer in
    let waits = c.requires.waits p (was o c.args.self.now c.args.slot p c.self.view_is c.requires.is_slot c.index_mut.ensures.value) in
    moved o c.args.self.now c.args.slot p h2 _ (Reads found) c.self.view_is c.requires.is_slot c.index_mut.ensures.value (set_thrice c.self.inside.passes.items c.args.slot h1 r h2) (record {
      number = same2.number ∙ (told.number ∙ same1.number);
      is = read_is b1 b2 h1 r h2 same2 hears2 (hears_in_line b0 b1 p h1 same1 hears1 waits) told found loads after;
      heard = h1.pass;
      hears = hears_trace b0 b1 p h1 same1 hears1;
      between = r.pass;
      loads = loads;
      goes_on = hears_trace b1 b2 r h2 same2 hears2;
    })

pub returns-clause-decided : goal.returns-clause-decided
returns-clause-decided c = λ t at decided none.
    let o : OwnerView = record { gate = c.self.inside.gate; response = c.self.inside.response; book = c.self.inside.book; passes = c.self.inside.passes.items; stations = c.self.inside.stations.items } in
    let b0 : LifeBookView = c.self.inside.book in
    let b1 : LifeBookView = c.hear.new.self in
    let p : PassToken = c.index_mut.result.now in
    let h1 : PassToken = c.hear.new.pass in
    let r : PassToken = c.told-found.new.pass in
    let found = c.told-found.result in
    let e1 : c.index_mut-2.result.now ≡ h1 = (search rules) in
    let own : pass_gate p ≡ c.self.inside.gate = (search rules) in
    let is = some_is p t (sym (was o c.args.self.now c.args.slot p c.self.view_is c.requires.is_slot c.index_mut.ensures.value) ∙ at) in
    let number : t.pass.number ≡ h1.pass.number = ap (λ (x : PassToken). x.pass.number) (sym is) ∙ sym c.hear.ensures.same_request.number in
    let here : IsDecidedIn b0 h1.pass.number = subst (λ (n : ℕ). IsDecidedIn b0 n) number (subst (λ (x : OwnerView). IsDecidedIn x.book t.pass.number) (sym c.self.view_is) decided) in
    let then : IsDecidedIn b1 h1.pass.number = decided_more b0.desk.desk.knows b1.desk.desk.knows c.hear.ensures.same.more h1.pass.number here in
    let shape : h1.pass.knows.shape ≡ b1.desk.desk.knows.shape = ap (λ (g : GateId). g.shape) (c.hear.ensures.same_request.pass ∙ (own ∙ sym (c.hear.ensures.same.gate ∙ c.self.invariant.desk))) in
    let known = decided_same b1.desk.desk.knows h1.pass.knows h1.pass.number shape c.hear.ensures.follows then in
    let loads : PassLoadsDecision h1.pass found r.pass = subst (λ (x : PassToken). PassLoadsDecision x.pass found r.pass) e1 c.told-found.ensures.answer in
    undecided_before (OfPass h1.pass.number) h1.pass.knows loads.0 h1.pass.number found found _ loads.1 none known
