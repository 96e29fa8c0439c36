-- Who is withdrawn waits no more, and its Pass heard that it left.
use Rattle.std.proofs.Common.{◌≡◌, ◌≢◌, ℕ, Option, Some, None, true, sym, ap, ◌∙◌, subst}
use Rattle.apf_words.specs.declared.decision.Decision.{Decision}
use Rattle.apf_words.specs.declared.decision.Decision.TheVariants.{Cancelled}
use Rattle.apf_gate.specs.Records.{told_own, told_of, service}
use Rattle.apf_gate.specs.Requests.{has_entered}
use Rattle.apf_gate.specs.Steps.{Both}
use Rattle.apf_book.specs.LifeBook.{StrikesLife}
use Rattle.apf_book.proofs.Opened.{opened}
use Rattle.apf_book.proofs.LifeTurning.{same_book_then, strikes_heard, out_by_then, left_by_then}
use Rattle.apf_book.proofs.life_book.LifeBook.withdraw.Given.{Over}
use Rattle.apf_book.proofs.life_book.LifeBook.withdraw.Goals as goal

some : (x : Option Decision) → x ≡ Some Cancelled → x ≢ None
some x is none = let bad : ◌≡◌ {A = Option Decision} (Some Cancelled) None = sym is ∙ none in cc

number_is : (g : Over) (c : goal.After-hear-2 g) → c.ticket.result.number ≡ c.args.pass.now.pass.number
number_is g c = c.ticket.ensures.number ∙ c.hear.ensures.same_request.number

pub returns-clause-same : goal.returns-clause-same
returns-clause-same g c =
    same_book_then c.args.self.now c.strike-struck.new.self c.hear-2.new.self (same_book_then c.args.self.now c.hear.new.self c.strike-struck.new.self c.hear.ensures.same c.strike-struck.ensures.same) c.hear-2.ensures.same

pub returns-clause-answer : goal.returns-clause-answer
returns-clause-answer g c v is =
    strikes_heard v c.args.self.now c.hear.new.self c.strike-struck.new.self c.hear-2.new.self c.args.pass.now.pass.number c.strike-struck.result c.hear.ensures.same.more
    (subst (λ (r : ℕ). StrikesLife v c.hear.new.self r c.strike-struck.result c.strike-struck.new.self) (number_is g c) (c.strike-struck.ensures.answer v (c.hear.ensures.answer.history v is)))
    c.hear-2.ensures.answer.history

pub returns-clause-left : goal.returns-clause-left
returns-clause-left g c =
    let r : ℕ = c.hear.new.pass.pass.number in
    let first = c.hear.ensures.answer in
    let told : told_own c.hear.new.pass.pass ≡ Some Cancelled = first.told_pass (some (told_own c.args.pass.now.pass) c.requires.cancelled) ∙ c.requires.cancelled in
    let knows : told_of c.hear.new.self.desk.desk.knows.told r ≢ None =
    some (told_of c.hear.new.self.desk.desk.knows.told r) (ap (told_of c.hear.new.self.desk.desk.knows.told) c.hear.ensures.same_request.number ∙ (first.told (some (told_own c.args.pass.now.pass) c.requires.cancelled) ∙ c.requires.cancelled)) in
    let struck = subst (λ (i : ℕ). StrikesLife c.has_a_history.ensures.view c.hear.new.self i c.strike-struck.result c.strike-struck.new.self) c.ticket.ensures.number (c.strike-struck.ensures.answer c.has_a_history.ensures.view c.has_a_history.ensures.kept) in
    let out = out_by_then (opened c.legal_histories_are_in_order.ensures) c.has_a_history.ensures.view c.hear.new.self c.strike-struck.new.self r c.strike-struck.result struck knows in
    let second = c.hear-2.ensures.answer.answer in
    let was : c.hear.new.pass.pass.entered ≡ true = ap (λ (b : Both). b.pass.entered) first.answer.1.5 ∙ c.requires.entered in
    let entered : has_entered (service c.strike-struck.new.self.desk.desk r) ≡ true = sym second.1.3.tied.entered ∙ was in
    c.hear-2.ensures.answer.left
    (left_by_then (opened c.legal_histories_are_in_order.ensures) out.view c.strike-struck.new.self out.kept r second.0 entered second.1.2 (second.1.4 (some (told_own c.hear.new.pass.pass) told) ∙ told) out.out)
