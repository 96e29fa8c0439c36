-- The seats went back by one step, once the Pass had heard that they stand.
use Rattle.std.proofs.Common.{rules, ◌≡◌, inl, inr, List, length, refl, sym, ap, ◌∙◌, subst}
use Rattle.std.proofs.lemmas.List.{length-set}
use Rattle.std.specs.Prelude.{◌==◌, not, Option, Some}
use Rattle.apf_words.specs.Level.{Level}
use Rattle.apf_words.specs.declared.decision.Decision.TheVariants.{Execute}
use Rattle.apf_gate.specs.PassCalls.{MayRelease}
use Rattle.apf_gate.specs.PassResults.{AfterRelease}
use Rattle.apf_gate.specs.PassSteps.{PassSubtractsLevel}
use Rattle.apf_gate.specs.Records.{told_own}
use Rattle.apf_gate.specs.Tokens.{GateId, PassToken, pass_gate}
use Rattle.apf_book.specs.BookResults.{SameRequest}
use Rattle.apf_book.specs.LifeBook.{LifeBookView, IsLifeKept}
use Rattle.apf_book.specs.LifeCalls.{HearsLife}
use Rattle.apf_line.specs.Tokens.{IsRunning}
use Rattle.apf_local.specs.Owners.{OwnerView, GivesBack}
use Rattle.apf_local.proofs.Knowing.{book_then}
use Rattle.apf_local.proofs.Places.{set_thrice, was, moved, same_owner}
use Rattle.apf_local.proofs.Hearing.{hears_trace, hears_told, hears_running}
use Rattle.apf_local.proofs.Begun.{over_is_done}
use Rattle.apf_local.proofs.Seats.{held_now}
use Rattle.apf_local.proofs.owner.Owner.give_back.Goals as goal

some_is : (a b : PassToken) → ◌≡◌ {A = Option PassToken} (Some a) (Some b) → a ≡ b
some_is a b is = cc

pub release-waiting-requires-clause-stands : goal.release-waiting-requires-clause-stands
release-waiting-requires-clause-stands c =
    let b0 : LifeBookView = c.self.inside.book in
    let b1 : LifeBookView = c.hear.new.self in
    let p : PassToken = c.index_mut.result.now in
    let h1 : PassToken = c.hear.new.pass in
    let e1 : c.index_mut-2.result.now ≡ h1 = (search rules) in
    let runs : IsRunning p = c.requires.runs p (was (record { gate = c.self.inside.gate; response = c.self.inside.response; book = c.self.inside.book; passes = c.self.inside.passes.items; stations = c.self.inside.stations.items }) c.args.self.now c.args.slot p c.self.view_is c.requires.is_slot c.index_mut.ensures.value) in
    let still : IsRunning h1 = hears_running b0 b1 p h1 c.hear.ensures.same_request c.hear.ensures.answer runs.state runs.told in
    let may : MayRelease h1.pass = record {
      stands = elim still.state [
        | inl took ↦ inl (took, (λ none. let z = sym still.told ∙ none in cc))
        | inr in_line ↦ inr (in_line, still.told)
      ];
    } in
    subst (λ (t : PassToken). MayRelease t.pass) (sym e1) may

pub returns-clause-same : goal.returns-clause-same
returns-clause-same c =
    let o : OwnerView = record { gate = c.self.inside.gate; response = c.self.inside.response; book = c.self.inside.book; passes = c.self.inside.passes.items; stations = c.self.inside.stations.items } in
    let ps : List PassToken = c.self.inside.passes.items in
    same_owner o c.args.self.now c.self.view_is c.hear-2.new.self (book_then c.self.inside.book c.hear.new.self c.hear-2.new.self c.hear.ensures.same c.hear-2.ensures.same) _
    (ap (λ (xs : List PassToken). length xs) (set_thrice ps c.args.slot c.hear.new.pass c.release-waiting.new.pass c.hear-2.new.pass) ∙ length-set ps c.args.slot c.hear-2.new.pass) _ refl

pub returns-clause-gives : goal.returns-clause-gives
returns-clause-gives c =
    let o : OwnerView = record { gate = c.self.inside.gate; response = c.self.inside.response; book = c.self.inside.book; passes = c.self.inside.passes.items; stations = c.self.inside.stations.items } in
    let b0 : LifeBookView = c.self.inside.book in
    let b1 : LifeBookView = c.hear.new.self in
    let b2 : LifeBookView = c.hear-2.new.self in
    let p : PassToken = c.index_mut.result.now in
    let h1 : PassToken = c.hear.new.pass in
    let r : PassToken = c.release-waiting.new.pass in
    let h2 : PassToken = c.hear-2.new.pass in
    let e1 : c.index_mut-2.result.now ≡ h1 = (search rules) in
    let e2 : c.index_mut-3.result.now ≡ r = (search rules) in
    let same1 : SameRequest p h1 = c.hear.ensures.same_request in
    let hears1 : HearsLife b0 p b1 h1 = c.hear.ensures.answer in
    let same2 : SameRequest r h2 = subst (λ (t : PassToken). SameRequest t h2) e2 c.hear-2.ensures.same_request in
    let hears2 : HearsLife b1 r b2 h2 = subst (λ (t : PassToken). HearsLife b1 t b2 h2) e2 c.hear-2.ensures.answer in
    let runs = c.requires.runs p (was o c.args.self.now c.args.slot p c.self.view_is c.requires.is_slot c.index_mut.ensures.value) in
    let after : AfterRelease h1.pass r.pass = subst (λ (t : PassToken). AfterRelease t.pass r.pass) e1 c.release-waiting.ensures.after in
    let told : told_own h2.pass ≡ Some Execute = hears_told b1 b2 r h2 same2 hears2 Execute (after.told ∙ hears_told b0 b1 p h1 same1 hears1 Execute runs.told) in
    let answer = subst (λ (t : PassToken). (level : Level) × PassSubtractsLevel t.pass level r.pass × (c.release-waiting.result ≡ not (level.waiters == 0))) e1 c.release-waiting.ensures.answer in
    moved o c.args.self.now c.args.slot p h2 _ (GivesBack c.release-waiting.result) c.self.view_is c.requires.is_slot c.index_mut.ensures.value (set_thrice c.self.inside.passes.items c.args.slot h1 r h2) (record {
      number = same2.number ∙ (subst (λ (t : PassToken). r.pass.number ≡ t.pass.number) e1 c.release-waiting.ensures.same.number ∙ same1.number);
      is = over_is_done h2 Execute (hears2.state ∙ after.state) told;
      told = told;
      heard = h1.pass;
      hears = hears_trace b0 b1 p h1 same1 hears1;
      level = answer.0;
      between = r.pass;
      gives_back = answer.1;
      goes_on = hears_trace b1 b2 r h2 same2 hears2;
      finds = answer.2;
    })

pub returns-clause-held : goal.returns-clause-held
returns-clause-held c = λ t at v is.
    let o : OwnerView = record { gate = c.self.inside.gate; response = c.self.inside.response; book = c.self.inside.book; passes = c.self.inside.passes.items; stations = c.self.inside.stations.items } in
    let b0 : LifeBookView = c.self.inside.book in
    let b1 : LifeBookView = c.hear.new.self in
    let b2 : LifeBookView = c.hear-2.new.self in
    let p : PassToken = c.index_mut.result.now in
    let h1 : PassToken = c.hear.new.pass in
    let there = was o c.args.self.now c.args.slot p c.self.view_is c.requires.is_slot c.index_mut.ensures.value in
    let runs : IsRunning p = c.requires.runs p there in
    let still : IsRunning h1 = hears_running b0 b1 p h1 c.hear.ensures.same_request c.hear.ensures.answer runs.state runs.told in
    let kept : IsLifeKept v b0 = subst (λ (x : OwnerView). IsLifeKept v x.book) (sym c.self.view_is) is in
    let number : h1.pass.number ≡ t.pass.number = c.hear.ensures.same_request.number ∙ ap (λ (x : PassToken). x.pass.number) (some_is p t (sym there ∙ at)) in
    let own : pass_gate p ≡ c.self.inside.gate = (search rules) in
    let shape : h1.pass.knows.shape ≡ c.self.inside.gate.shape = ap (λ (g : GateId). g.shape) (c.hear.ensures.same_request.pass ∙ own) in
    held_now v b1 b2 c.self.inside.gate.shape h1 t.pass.number still number shape c.hear.ensures.follows (c.hear.ensures.answer.history v kept) c.hear-2.ensures.same.more
