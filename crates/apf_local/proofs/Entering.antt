-- Where a request is after it arrived in the line.
use Rattle.std.proofs.Common.{◌≡◌, ◌≢◌, inl, inr, ℕ, Bool, true, false, List, [], ◌∷◌, ◌++◌, Some, None, refl, sym, ◌∙◌, subst}
use Rattle.apf_words.specs.declared.decision.Decision.{Decision}
use Rattle.apf_words.specs.declared.decision.Decision.TheVariants.{Execute, QueueFull, Closed, Cancelled}
use Rattle.apf_model.specs.declared.response.Response.TheVariants.{Queue}
use Rattle.apf_gate.specs.declared.record.Actor.{Actor}
use Rattle.apf_gate.specs.declared.record.Entry.{Entry}
use Rattle.apf_gate.specs.declared.record.State.TheVariants as states
use Rattle.apf_gate.specs.Records.{told_own}
use Rattle.apf_gate.specs.Tokens.{PassToken}
use Rattle.apf_gate.specs.Traces.{NoneOf}
use Rattle.apf_book.specs.declared.arrived.Arrived.{Arrived}
use Rattle.apf_book.specs.declared.arrived.Arrived.TheVariants as arrived
use Rattle.apf_book.specs.LifeBook.{LifeBookView}
use Rattle.apf_book.specs.LifeCalls.{AfterLifeArrival, AnswersLifeArrival}
use Rattle.apf_line.specs.Tokens.{IsDone}
use Rattle.apf_local.specs.Owners.{IsEntered}
use Rattle.apf_local.proofs.Hearing.{GoesOnFrom}

-- a Pass in line that never entered, and was told another decision than execute
pub refused_is_done : (p : PassToken) (d : Decision) → p.pass.state ≡ states.InLine → p.pass.entered ≡ false → told_own p.pass ≡ Some d → d ≢ Execute → IsDone p
refused_is_done p d in_line entered told other =
    let is_told : told_own p.pass ≢ None = (λ none. let z = sym told ∙ none in cc) in
    record {
      back = inr (is_told, record { back = inr ((λ took. let z = sym in_line ∙ took in cc), is_told, (λ e. other (let z = sym told ∙ e in cc))) });
      may = inr (is_told, inr (in_line, inl entered));
    }

not_true : (b : Bool) → (b ≡ true → ⊥) → b ≡ false
not_true false never = refl
not_true true never = absurd (never refl)

module _ (b b' : LifeBookView) (hand : List ℕ) (cost : ℕ) (p p' : PassToken) where
  pub entered : (a : Arrived) → AnswersLifeArrival b p hand cost a b' p' → AfterLifeArrival b p a p' → p'.pass.knows.shape.response ≡ Queue → IsEntered a p'
  entered (arrived.Queued q) answers after queues = record { state = after.in_line; entered = after.entered.1 tt; queues = queues }
  entered (arrived.Full q) answers after queues = (refused_is_done p' QueueFull after.in_line (not_true p'.pass.entered after.entered.0) answers.told.1 (λ e. cc), answers.told.1)
  entered arrived.Closed answers after queues = (refused_is_done p' Closed after.in_line (not_true p'.pass.entered after.entered.0) answers.told.1 (λ e. cc), answers.told.1)
  entered arrived.Cancelled answers after queues = (refused_is_done p' Cancelled after.in_line (not_true p'.pass.entered after.entered.0) answers.told.1 (λ e. cc), answers.told.1)
  entered arrived.Again answers after queues = answers.first refl

none_of_end : (who : Actor) (xs ys : List Entry) → NoneOf who (xs ++ ys) → NoneOf who ys
none_of_end who [] ys none = none
none_of_end who (x ∷ xs) ys none = none_of_end who xs ys none.1

-- a step stays in each trace that goes on from it
pub step_stays : (who : Actor) (e : Entry) (es trace : List Entry) → e.by ≡ who → GoesOnFrom (e ∷ es) trace → (NoneOf who trace → ⊥)
step_stays who e es trace by more none = (none_of_end who more.0 (e ∷ es) (subst (NoneOf who) (sym more.1) none)).0 by
