-- A request leaves the line.
use Rattle.std.proofs.Common.{rules, ◌≡◌, List, length, refl, sym, ap, ◌∙◌, subst}
use Rattle.std.proofs.lemmas.List.{length-set}
use Rattle.apf_gate.specs.Tokens.{PassToken}
use Rattle.apf_book.specs.LifeBook.{LifeBookView, IsLifeKept}
use Rattle.apf_local.specs.Owners.{OwnerView, Leaves}
use Rattle.apf_local.proofs.Knowing.{book_then}
use Rattle.apf_local.proofs.Places.{set_again, was, moved, same_owner}
use Rattle.apf_gate.specs.declared.record.Entry.{Entry}
use Rattle.apf_local.proofs.Hearing.{GoesOnFrom, goes_on_then, goes_on_more, hears_trace}
use Rattle.apf_local.proofs.Told.{left_is_done, strikes_one}
use Rattle.apf_local.proofs.owner.Owner.withdraw.Goals as goal

pub returns-clause-same : goal.returns-clause-same
returns-clause-same c =
    let o : OwnerView = record { gate = c.self.inside.gate; response = c.self.inside.response; book = c.self.inside.book; passes = c.self.inside.passes.items; stations = c.self.inside.stations.items } in
    let ps : List PassToken = c.self.inside.passes.items in
    same_owner o c.args.self.now c.self.view_is c.withdraw.new.self (book_then c.self.inside.book c.hear.new.self c.withdraw.new.self c.hear.ensures.same c.withdraw.ensures.same) _
    (ap (λ (xs : List PassToken). length xs) (set_again ps c.args.slot c.hear.new.pass c.withdraw.new.pass) ∙ length-set ps c.args.slot c.withdraw.new.pass) _ refl

pub returns-clause-leaves : goal.returns-clause-leaves
returns-clause-leaves c =
    let o : OwnerView = record { gate = c.self.inside.gate; response = c.self.inside.response; book = c.self.inside.book; passes = c.self.inside.passes.items; stations = c.self.inside.stations.items } in
    let b0 : LifeBookView = c.self.inside.book in
    let p : PassToken = c.index_mut.result.now in
    let h : PassToken = c.hear.new.pass in
    let l : PassToken = c.withdraw.new.pass in
    let e1 : c.index_mut-2.result.now ≡ h = (search rules) in
    let off = c.requires.told p (was o c.args.self.now c.args.slot p c.self.view_is c.requires.is_slot c.index_mut.ensures.value) in
    let number : l.pass.number ≡ p.pass.number = c.withdraw.ensures.same_request.number ∙ (ap (λ (t : PassToken). t.pass.number) e1 ∙ c.hear.ensures.same_request.number) in
    let state = c.withdraw.ensures.state ∙ (ap (λ (t : PassToken). t.pass.state) e1 ∙ (c.hear.ensures.answer.state ∙ off.in_line.state)) in
    let told = c.withdraw.ensures.told in
    moved o c.args.self.now c.args.slot p l _ Leaves c.self.view_is c.requires.is_slot c.index_mut.ensures.value (set_again c.self.inside.passes.items c.args.slot h l) (record {
      number = number;
      is = left_is_done l state c.withdraw.ensures.left told;
      told = told;
      goes_on = goes_on_then p.pass.knows.trace h.pass.knows.trace l.pass.knows.trace (hears_trace b0 c.hear.new.self p h c.hear.ensures.same_request c.hear.ensures.answer)
          (subst (λ (es : List Entry). GoesOnFrom es l.pass.knows.trace) (sym c.hear.ensures.follows) (subst (λ (es : List Entry). GoesOnFrom c.hear.new.self.desk.desk.knows.trace es) (sym c.withdraw.ensures.follows) (goes_on_more c.hear.new.self.desk.desk.knows c.withdraw.new.self.desk.desk.knows c.withdraw.ensures.same.more)));
    })

pub returns-clause-history : goal.returns-clause-history
returns-clause-history c = λ v is.
    let kept = subst (λ (x : OwnerView). IsLifeKept v x.book) (sym c.self.view_is) is in
    let heard = c.hear.ensures.answer.history v kept in
    (_, strikes_one v c.hear.new.self c.withdraw.new.self _ c.withdraw.result (c.withdraw.ensures.answer v heard))
