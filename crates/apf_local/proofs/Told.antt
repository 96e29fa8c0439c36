-- Where a request is that waited, after it read its decision or left.
use Rattle.std.proofs.Common.{◌≡◌, ◌≢◌, inl, inr, ℕ, Bool, true, false, Option, Some, None, refl, sym, ap, ◌∙◌}
use Rattle.apf_words.specs.declared.decision.Decision.{Decision}
use Rattle.apf_words.specs.declared.decision.Decision.TheVariants.{Execute, QueueFull, Closed, Cancelled, ConcurrencyLimit}
use Rattle.apf_gate.specs.declared.record.State.TheVariants as states
use Rattle.apf_gate.specs.PassResults.{SamePass, AfterTold}
use Rattle.apf_gate.specs.PassSteps.{PassLoadsDecision}
use Rattle.apf_gate.specs.Records.{told_own}
use Rattle.apf_gate.specs.Steps.{Both}
use Rattle.apf_gate.specs.Tokens.{GateId, PassToken}
use Rattle.apf_book.specs.BookResults.{SameRequest}
use Rattle.apf_book.specs.Life.{LifeView}
use Rattle.apf_book.specs.LifeBook.{LifeBookView, StrikesLife}
use Rattle.apf_book.specs.LifeCalls.{HearsLife}
use Rattle.apf_line.specs.Tokens.{IsDone, IsInLine}
use Rattle.apf_local.specs.declared.answer.Place.TheVariants as places
use Rattle.apf_local.specs.Owners.{IsRead, StrikesOne}
use Rattle.apf_local.specs.Tries.{place_by}
use Rattle.apf_local.proofs.Hearing.{hears_running, hears_told}

-- a Pass in line that heard that it left, cancelled
pub left_is_done : (p : PassToken) → p.pass.state ≡ states.InLine → p.pass.left ≡ true → told_own p.pass ≡ Some Cancelled → IsDone p
left_is_done p in_line left told =
    let is_told : told_own p.pass ≢ None = (λ none. let z = sym told ∙ none in cc) in
    record {
      back = inr (is_told, record { back = inr ((λ took. let z = sym in_line ∙ took in cc), is_told, (λ e. let z = sym told ∙ e in cc)) });
      may = inr (is_told, inr (in_line, inr left));
    }

pub strikes_one : (v : LifeView) (b b' : LifeBookView) (r : ℕ) (struck : Bool) → StrikesLife v b r struck b' → StrikesOne r v b'
strikes_one v b b' r true strikes = inr (strikes.0, strikes.2)
strikes_one v b b' r false strikes = inl strikes.0

-- a Pass in line that is heard is in line still
pub hears_in_line : (b b' : LifeBookView) (p p' : PassToken) → SameRequest p p' → HearsLife b p b' p' → IsInLine p → IsInLine p'
hears_in_line b b' p p' same hears waits = record {
  state = hears.state ∙ waits.state;
  entered = ap (λ (x : Both). x.pass.entered) hears.answer.1.5 ∙ waits.entered;
  queues = ap (λ (g : GateId). g.shape.response) same.pass ∙ waits.queues;
}

module _ (b b' : LifeBookView) (p r h : PassToken) (same : SameRequest r h) (hears : HearsLife b r b' h) (waits : IsInLine p) (told : SamePass p r) where
  still_in_line : (found : Option Decision) → PassLoadsDecision p.pass found r.pass → AfterTold p.pass found r.pass → IsInLine h
  still_in_line found loads after = record {
    state = hears.state ∙ (after.state ∙ waits.state);
    entered = ap (λ (x : Both). x.pass.entered) hears.answer.1.5 ∙ (ap (λ (x : _). x.entered) loads.5 ∙ waits.entered);
    queues = ap (λ (g : GateId). g.shape.response) (same.pass ∙ told.gate) ∙ waits.queues;
  }

  pub read_is : (found : Option Decision) → PassLoadsDecision p.pass found r.pass → AfterTold p.pass found r.pass → IsRead found h
  read_is None loads after = still_in_line None loads after
  read_is (Some Execute) loads after = hears_running b b' r h same hears (inr (after.state ∙ waits.state)) (after.told (λ e. cc))
  read_is (Some QueueFull) loads after = (still_in_line (Some QueueFull) loads after, hears_told b b' r h same hears QueueFull (after.told (λ e. cc)))
  read_is (Some Closed) loads after = (still_in_line (Some Closed) loads after, hears_told b b' r h same hears Closed (after.told (λ e. cc)))
  read_is (Some Cancelled) loads after = (still_in_line (Some Cancelled) loads after, hears_told b b' r h same hears Cancelled (after.told (λ e. cc)))
  read_is (Some ConcurrencyLimit) loads after = (still_in_line (Some ConcurrencyLimit) loads after, hears_told b b' r h same hears ConcurrencyLimit (after.told (λ e. cc)))

-- who was told another decision than execute is at no place
pub free_by : (d : Decision) → d ≢ Execute → places.Free ≡ place_by (Some d)
free_by Execute not = absurd (not refl)
free_by QueueFull not = refl
free_by Closed not = refl
free_by Cancelled not = refl
free_by ConcurrencyLimit not = refl
