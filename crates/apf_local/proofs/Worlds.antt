-- What no step takes back: that a request came, and that it is decided.
use Rattle.std.proofs.Common.{◌≡◌, ◌≢◌, ℕ, inl, inr, List, [], ◌∷◌, ◌++◌, Option, Some, None, refl, sym, ap, ◌∙◌, subst, eq-eqb, ne_eqb}
use Rattle.std.specs.Prelude.{if◌then◌else◌}
use Rattle.std.proofs.lemmas.Bool.{cases_eq}
use Rattle.apf_words.specs.declared.decision.Decision.{Decision}
use Rattle.apf_words.specs.declared.decision.Decision.TheVariants.{Execute, QueueFull, Closed, Cancelled, ConcurrencyLimit}
use Rattle.apf_history.specs.declared.events.Status.{Status}
use Rattle.apf_history.specs.declared.events.Status.TheVariants as status_is
use Rattle.apf_model.specs.declared.moves.Move.{Move}
use Rattle.apf_model.specs.declared.moves.Move.TheVariants.{Take, Enter, Grant, Leave, Decide, Release, Close, SetLimit, See}
use Rattle.apf_model.specs.declared.moves.Stage.{Stage}
use Rattle.apf_model.specs.declared.moves.Stage.TheVariants.{Away, Waits}
use Rattle.apf_model.specs.World.{World, put, after}
use Rattle.apf_model.specs.Schedule.{world}
use Rattle.apf_gate.specs.declared.answers.Cancel.{Cancel}
use Rattle.apf_gate.specs.declared.answers.Cancel.TheVariants as cancels
use Rattle.apf_gate.specs.declared.record.Actor.{Actor}
use Rattle.apf_gate.specs.declared.record.Actor.TheVariants.{OfPass, OfDesk, OfStation}
use Rattle.apf_gate.specs.declared.record.Entry.{Entry}
use Rattle.apf_gate.specs.declared.record.Knowledge.{Knowledge}
use Rattle.apf_gate.specs.declared.record.Shape.{Shape}
use Rattle.apf_gate.specs.declared.record.StationRecord.{StationRecord}
use Rattle.apf_gate.specs.Records.{KnowsMore}
use Rattle.apf_gate.specs.StationCalls.{TriesToCancel}
use Rattle.apf_gate.specs.Steps.{SawDecision}
use Rattle.apf_gate.specs.Traces.{opening_of, moves, move_before, world_of}
use Rattle.apf_book.specs.Said.{said_of, sayings}
use Rattle.apf_book.specs.LifeBook.{LifeBookView}
use Rattle.apf_local.specs.Worlds.{IsDecidedIn}

put_some : {A : Type 0} (f : ℕ → Option A) (j : ℕ) (a : A) (r : ℕ) → f r ≢ None → put f j (Some a) r ≢ None
put_some f j a r is none = elim (cases_eq r j) [
  | inl e ↦ (let z = sym (ap (λ b. if b then Some a else f r) (eq-eqb r j e)) ∙ none in cc)
  | inr ne ↦ is (sym (ap (λ b. if b then Some a else f r) (ne_eqb r j ne)) ∙ none)
]

put_at : (f : ℕ → Stage) (j : ℕ) (s : Stage) (r : ℕ) → r ≡ j → put f j s r ≡ s
put_at f j s r same = ap (λ b. if b then s else f r) (eq-eqb r j same)

put_stage : (f : ℕ → Stage) (j : ℕ) (s : Stage) (r : ℕ) → s ≢ Away → f r ≢ Away → put f j s r ≢ Away
put_stage f j s r new is away = elim (cases_eq r j) [
  | inl e ↦ new (sym (ap (λ b. if b then s else f r) (eq-eqb r j e)) ∙ away)
  | inr ne ↦ is (sym (ap (λ b. if b then s else f r) (ne_eqb r j ne)) ∙ away)
]

decided_after : (m : Move) (w : World) (r : ℕ) → w.decision r ≢ None → (after m w).decision r ≢ None
decided_after (Take j) w r is = is
decided_after (Enter j) w r is = is
decided_after (Grant j) w r is = is
decided_after (Leave j) w r is = is
decided_after (Decide j d) w r is = put_some w.decision j d r is
decided_after (Release j) w r is = is
decided_after Close w r is = is
decided_after (SetLimit n) w r is = is
decided_after (See j) w r is = is

came_after : (m : Move) (w : World) (r : ℕ) → w.stage r ≢ Away → (after m w).stage r ≢ Away
came_after (Take j) w r is = put_stage w.stage j _ r (λ e. cc) is
came_after (Enter j) w r is = put_stage w.stage j _ r (λ e. cc) is
came_after (Grant j) w r is = put_stage w.stage j _ r (λ e. cc) is
came_after (Leave j) w r is = put_stage w.stage j _ r (λ e. cc) is
came_after (Decide j d) w r is = is
came_after (Release j) w r is = put_stage w.stage j _ r (λ e. cc) is
came_after Close w r is = is
came_after (SetLimit n) w r is = is
came_after (See j) w r is = is

module _ (shape : Shape) (r : ℕ) where
  decided_step : (step : Option Move) (trace : List Entry) → (world_of shape trace).decision r ≢ None → (world (opening_of shape) (move_before step (moves trace))).decision r ≢ None
  decided_step None trace is = is
  decided_step (Some m) trace is = decided_after m (world_of shape trace) r is

  came_step : (step : Option Move) (trace : List Entry) → (world_of shape trace).stage r ≢ Away → (world (opening_of shape) (move_before step (moves trace))).stage r ≢ Away
  came_step None trace is = is
  came_step (Some m) trace is = came_after m (world_of shape trace) r is

  pub decided_on : (newer older : List Entry) → (world_of shape older).decision r ≢ None → (world_of shape (newer ++ older)).decision r ≢ None
  decided_on [] older is = is
  decided_on (e ∷ newer) older is = decided_step e.step (newer ++ older) (decided_on newer older is)

  pub came_on : (newer older : List Entry) → (world_of shape older).stage r ≢ Away → (world_of shape (newer ++ older)).stage r ≢ Away
  came_on [] older is = is
  came_on (e ∷ newer) older is = came_step e.step (newer ++ older) (came_on newer older is)

  abbrev first_of : List (ℕ × Status) → ℕ
  first_of [] = 0
  first_of (x ∷ xs) = x.0

  abbrev status_of : List (ℕ × Status) → Status
  status_of [] = status_is.Away
  status_of (x ∷ xs) = x.1

  -- a step of the Desk that says something else than that a request waits
  module _ (rest : List (ℕ × Status)) (trace : List Entry) (before : sayings trace ≡ (r, status_is.Waits) ∷ rest → (world_of shape trace).stage r ≢ Away) where
    came_by : (who : Actor) (step : Option Move) → said_of who step ++ sayings trace ≡ (r, status_is.Waits) ∷ rest → (world (opening_of shape) (move_before step (moves trace))).stage r ≢ Away
    came_by (OfPass j) step said = came_step step trace (before said)
    came_by (OfStation k) step said = came_step step trace (before said)
    came_by OfDesk None said = before said
    came_by OfDesk (Some (Take j)) said = came_step (Some (Take j)) trace (before said)
    came_by OfDesk (Some (Enter j)) said = λ away.
        let same : j ≡ r = ap first_of said in
        let z : Waits ≡ Away = sym (put_at (world_of shape trace).stage j Waits r (sym same)) ∙ away in
        (cc)
    came_by OfDesk (Some (Grant j)) said = came_step (Some (Grant j)) trace (before said)
    came_by OfDesk (Some (Leave j)) said = absurd (let z : status_is.Struck ≡ status_is.Waits = ap status_of said in cc)
    came_by OfDesk (Some (Decide j Execute)) said = absurd (let z : status_is.Dispatched ≡ status_is.Waits = ap status_of said in cc)
    came_by OfDesk (Some (Decide j QueueFull)) said = absurd (let z : status_is.Full ≡ status_is.Waits = ap status_of said in cc)
    came_by OfDesk (Some (Decide j Closed)) said = before said
    came_by OfDesk (Some (Decide j Cancelled)) said = before said
    came_by OfDesk (Some (Decide j ConcurrencyLimit)) said = before said
    came_by OfDesk (Some (Release j)) said = absurd (let z : status_is.Struck ≡ status_is.Waits = ap status_of said in cc)
    came_by OfDesk (Some Close) said = before said
    came_by OfDesk (Some (SetLimit n)) said = before said
    came_by OfDesk (Some (See j)) said = before said

  -- a request that the Desk's newest step let enter came
  pub said_came : (trace : List Entry) (rest : List (ℕ × Status)) → sayings trace ≡ (r, status_is.Waits) ∷ rest → (world_of shape trace).stage r ≢ Away
  said_came [] rest said = absurd (let z = said in cc)
  said_came (e ∷ trace) rest said = came_by rest trace (said_came trace rest) e.by e.step said

-- a token that knows more knows it still
module _ (k k' : Knowledge) (more : KnowsMore k k') (r : ℕ) where
  pub decided_more : (world_of k.shape k.trace).decision r ≢ None → (world_of k'.shape k'.trace).decision r ≢ None
  decided_more is = subst (λ (s : Shape). (world_of s k'.trace).decision r ≢ None) (sym more.shape) (subst (λ (es : List Entry). (world_of k.shape es).decision r ≢ None) (sym more.trace.1) (decided_on k.shape r more.trace.0 k.trace is))

  pub came_more : (world_of k.shape k.trace).stage r ≢ Away → (world_of k'.shape k'.trace).stage r ≢ Away
  came_more is = subst (λ (s : Shape). (world_of s k'.trace).stage r ≢ Away) (sym more.shape) (subst (λ (es : List Entry). (world_of k.shape es).stage r ≢ Away) (sym more.trace.1) (came_on k.shape r more.trace.0 k.trace is))

-- tokens of one gate that saw the same steps
pub decided_same : (k k' : Knowledge) (r : ℕ) → k'.shape ≡ k.shape → k'.trace ≡ k.trace → (world_of k.shape k.trace).decision r ≢ None → (world_of k'.shape k'.trace).decision r ≢ None
decided_same k k' r shape trace is = subst (λ (s : Shape). (world_of s k'.trace).decision r ≢ None) (sym shape) (subst (λ (es : List Entry). (world_of k.shape es).decision r ≢ None) (sym trace) is)

pub came_same : (k k' : Knowledge) (r : ℕ) → k'.shape ≡ k.shape → k'.trace ≡ k.trace → (world_of k.shape k.trace).stage r ≢ Away → (world_of k'.shape k'.trace).stage r ≢ Away
came_same k k' r shape trace is = subst (λ (s : Shape). (world_of s k'.trace).stage r ≢ Away) (sym shape) (subst (λ (es : List Entry). (world_of k.shape es).stage r ≢ Away) (sym trace) is)

-- what a Station knows the Desk knows that heard it
pub told_desk : (b : LifeBookView) (s s' : StationRecord) (r : ℕ) → KnowsMore s.knows s'.knows → b.desk.desk.knows.shape ≡ s'.knows.shape → s'.knows.trace ≡ b.desk.desk.knows.trace → (world_of s.knows.shape s.knows.trace).decision r ≢ None → IsDecidedIn b r
told_desk b s s' r more shape follows is = decided_same s'.knows b.desk.desk.knows r shape (sym follows) (decided_more s.knows s'.knows more r is)

-- a load that finds no decision: there was none before
pub undecided_before : (who : Actor) (known known' : Knowledge) (r : ℕ) (found left : Option Decision) (own : Option Move) → SawDecision who known r found left own known' → found ≡ None → (world_of known.shape known.trace).decision r ≢ None → ⊥
undecided_before who known known' r found left own saw none is = decided_on known.shape r saw.between known.trace is (saw.found_is ∙ none)

some_not_none : {A : Type 0} (x : Option A) (a : A) → x ≡ Some a → x ≢ None
some_not_none x a is none = let z = sym is ∙ none in cc

-- after a cancel that answers a decision the request is decided by the steps that the Station knows
pub cancel_decides : (s s' : StationRecord) (r : ℕ) (d : Decision) → TriesToCancel s r (cancels.Is d) s' → (world_of s'.knows.shape s'.knows.trace).decision r ≢ None
cancel_decides s s' r d (inl wrote) =
    let saw = wrote.0.1 in
    subst (λ (x : StationRecord). (world_of x.knows.shape x.knows.trace).decision r ≢ None) (sym wrote.0.2)
    (subst (λ (k : Knowledge). (world_of k.shape k.trace).decision r ≢ None) (sym saw.is_after)
    (some_not_none _ Cancelled (ap (λ b. if b then Some Cancelled else (world_of s.knows.shape (saw.between ++ s.knows.trace)).decision r) (eq-eqb r r refl))))
cancel_decides s s' r d (inr found) =
    let saw = found.1 in
    subst (λ (x : StationRecord). (world_of x.knows.shape x.knows.trace).decision r ≢ None) (sym found.2)
    (subst (λ (k : Knowledge). (world_of k.shape k.trace).decision r ≢ None) (sym saw.is_after)
    (some_not_none _ d saw.found_is))

-- and whatever it answers, if the request had come
pub cancel_ends : (s s' : StationRecord) (r : ℕ) (answer : Cancel) → TriesToCancel s r answer s' → (world_of s.knows.shape s.knows.trace).stage r ≢ Away → (world_of s'.knows.shape s'.knows.trace).decision r ≢ None
cancel_ends s s' r (cancels.Is d) cancels came = cancel_decides s s' r d cancels
cancel_ends s s' r cancels.Other finds came =
    let saw = finds.1 in
    subst (λ (x : StationRecord). (world_of x.knows.shape x.knows.trace).decision r ≢ None) (sym finds.2)
    (subst (λ (k : Knowledge). (world_of k.shape k.trace).decision r ≢ None) (sym saw.is_after)
    (elim saw.is_over [
      | inl decided ↦ decided
      | inr away ↦ absurd (came_on s.knows.shape r saw.between s.knows.trace came away)
    ]))
