-- What each step of the Desk did, by its record.
use Rattle.std.proofs.Common.{◌≡◌, ◌≢◌, ℕ, inl, inr, List, ◌∷◌, Option, Some, None, refl, sym, ap, ◌∙◌, subst}
use Rattle.apf_words.specs.Level.{Level}
use Rattle.apf_words.specs.declared.decision.Decision.{Decision}
use Rattle.apf_words.specs.declared.decision.Decision.TheVariants.{Execute, QueueFull, Closed, Cancelled, ConcurrencyLimit}
use Rattle.apf_history.specs.declared.events.Status.{Status}
use Rattle.apf_history.specs.declared.events.Status.TheVariants as status_is
use Rattle.apf_gate.specs.declared.record.Service.{Service}
use Rattle.apf_gate.specs.declared.record.Service.TheVariants.{NotHanded, Handed, RefusedFull, RefusedClosed, Waiting, Held, Settled, Left}
use Rattle.apf_gate.specs.declared.record.DeskRecord.{DeskRecord}
use Rattle.apf_gate.specs.declared.answers.TryEnter.{TryEnter}
use Rattle.apf_gate.specs.declared.answers.TryEnter.TheVariants as entered
use Rattle.apf_gate.specs.Records.{service, service_of, KnowsMore}
use Rattle.apf_gate.specs.Steps.{Both}
use Rattle.apf_gate.specs.JoinedSteps.{handed_over, joined_service, refusing, JoinedLoadsLevel, JoinedExchangesLevel}
use Rattle.apf_gate.specs.DeskCalls.{MayRefuse, TriesToEnter, RefusesTo}
use Rattle.apf_book.specs.BookView.{logged}
use Rattle.apf_book.specs.Moves.{Moves, LastTold}
use Rattle.apf_book.proofs.Puts.{put_here, put_else}
use Rattle.apf_book.proofs.Knowing.{more_same, more_then}

-- steps that did nothing with a request
pub moves_same : (desk desk' : DeskRecord) (r : ℕ) → desk'.services ≡ desk.services → KnowsMore desk.knows desk'.knows → Moves desk r (logged (service desk r)) desk'
moves_same desk desk' r same more = record {
  more = more;
  here = ap (λ (xs : List (ℕ × Service)). logged (service_of xs r)) same;
  others = λ j ne. ap (λ (xs : List (ℕ × Service)). service_of xs j) same;
}

-- steps that did this with r
pub moves_to : (desk desk' : DeskRecord) (r : ℕ) (x : Service) → desk'.services ≡ (r, x) ∷ desk.services → KnowsMore desk.knows desk'.knows → Moves desk r (logged x) desk'
moves_to desk desk' r x is more = record {
  more = more;
  here = ap (λ (xs : List (ℕ × Service)). logged (service_of xs r)) is ∙ ap logged (put_here (service_of desk.services) r x);
  others = λ j ne. ap (λ (xs : List (ℕ × Service)). service_of xs j) is ∙ put_else (service_of desk.services) r x j ne;
}

pub moves_then : (a b c : DeskRecord) (r : ℕ) (says says' : Option Status) → Moves a r says b → Moves b r says' c → Moves a r says' c
moves_then a b c r says says' first then = record {
  more = more_then a.knows b.knows c.knows first.more then.more;
  here = then.here;
  others = λ j ne. then.others j ne ∙ first.others j ne;
}

pub moves_says : (a b : DeskRecord) (r : ℕ) (says says' : Option Status) → says ≡ says' → Moves a r says b → Moves a r says' b
moves_says a b r says says' is moves = subst (λ (x : Option Status). Moves a r x b) is moves

-- the log says nothing new of a request that is handed over
over_logged : (x : Service) → logged (handed_over x) ≡ logged x
over_logged NotHanded = refl
over_logged Handed = refl
over_logged RefusedFull = refl
over_logged RefusedClosed = refl
over_logged Waiting = refl
over_logged Held = refl
over_logged Settled = refl
over_logged Left = refl

hands : (both both' : Both) (level : Level) → JoinedLoadsLevel both level both' → Moves both.desk both.pass.number (logged (joined_service both)) both'.desk
hands both both' level loads =
    moves_says both.desk both'.desk both.pass.number (logged (handed_over (joined_service both))) (logged (joined_service both)) (over_logged (joined_service both))
    (moves_to both.desk both'.desk both.pass.number (handed_over (joined_service both)) (ap (λ (b : Both). b.desk.services) loads.3)
    (subst (λ (b : Both). KnowsMore both.desk.knows b.desk.knows) (sym loads.3) loads.1.more))

enters : (both both' : Both) (level : Level) → JoinedExchangesLevel both level both' → Moves both.desk both.pass.number (Some status_is.Waits) both'.desk
enters both both' level exchanges =
    moves_to both.desk both'.desk both.pass.number Waiting (ap (λ (b : Both). b.desk.services) exchanges.3)
    (subst (λ (b : Both). KnowsMore both.desk.knows b.desk.knows) (sym exchanges.3) exchanges.1.more)

-- what the log is to say of a request after a try to enter it
abbrev pub after_try : TryEnter → Option Status
after_try entered.Entered = Some status_is.Waits
after_try entered.Closed = Some status_is.Away
after_try entered.Raced = Some status_is.Away

-- one load, and one more step of the same Pass
module _ (both between both' : Both) (level : Level) (loads : JoinedLoadsLevel both level between) (says : Option Status) where
  same_pass : between.pass.number ≡ both.pass.number
  same_pass = ap (λ (b : Both). b.pass.number) loads.3

  pub hands_then : Moves between.desk between.pass.number says both'.desk → Moves both.desk both.pass.number says both'.desk
  hands_then then = moves_then both.desk between.desk both'.desk both.pass.number (logged (joined_service both)) says (hands both between level loads)
      (subst (λ (r : ℕ). Moves between.desk r says both'.desk) same_pass then)

-- the log says of the request between two loads what it said before
still_away : (both between : Both) (level : Level) → JoinedLoadsLevel both level between → logged (joined_service both) ≡ Some status_is.Away → logged (joined_service between) ≡ Some status_is.Away
still_away both between level loads away =
    ap (λ (r : ℕ). logged (service between.desk r)) (ap (λ (b : Both). b.pass.number) loads.3) ∙ ((hands both between level loads).here ∙ away)

pub moves_to_enter : (both both' : Both) (answer : TryEnter) → TriesToEnter both answer both' → logged (joined_service both) ≡ Some status_is.Away → Moves both.desk both.pass.number (after_try answer) both'.desk
moves_to_enter both both' entered.Entered tries away = hands_then both tries.2.0 both' tries.0 tries.2.1 (Some status_is.Waits) (enters tries.2.0 both' tries.0 tries.2.2)
moves_to_enter both both' entered.Closed tries away = moves_says both.desk both'.desk both.pass.number _ _ away (hands both both' tries.0 tries.1)
moves_to_enter both both' entered.Raced tries away =
    hands_then both tries.4.0 both' tries.0 tries.4.1 (Some status_is.Away)
    (moves_says tries.4.0.desk both'.desk tries.4.0.pass.number _ _ (still_away both tries.4.0 tries.0 tries.4.1 away) (hands tries.4.0 both' tries.1 tries.4.2))

-- a refusal, whatever was answered
pub moves_to_refuse : (both both' : Both) (decision answer : Decision) → RefusesTo both decision answer both' → Moves both.desk both.pass.number (logged (service both'.desk both.pass.number)) both'.desk
moves_to_refuse both both' decision answer (inl wrote) = record {
  more = subst (λ (b : Both). KnowsMore both.desk.knows b.desk.knows) (sym wrote.0.3) wrote.0.1.more;
  here = refl;
  others = (moves_to both.desk both'.desk both.pass.number (refusing decision) (ap (λ (b : Both). b.desk.services) wrote.0.3) (subst (λ (b : Both). KnowsMore both.desk.knows b.desk.knows) (sym wrote.0.3) wrote.0.1.more)).others;
}
moves_to_refuse both both' decision answer (inr missed) = record {
  more = subst (λ (b : Both). KnowsMore both.desk.knows b.desk.knows) (sym missed.4) missed.1.more;
  here = refl;
  others = (moves_to both.desk both'.desk both.pass.number (handed_over (joined_service both)) (ap (λ (b : Both). b.desk.services) missed.4) (subst (λ (b : Both). KnowsMore both.desk.knows b.desk.knows) (sym missed.4) missed.1.more)).others;
}

-- its last step was told the answer
pub refuse_tells : (both both' : Both) (decision answer : Decision) → RefusesTo both decision answer both' → LastTold both.desk.knows both.pass.number answer both'.desk.knows
refuse_tells both both' decision answer (inl wrote) =
    subst (λ (d : Decision). LastTold both.desk.knows both.pass.number d both'.desk.knows) (sym wrote.1)
    (subst (λ (b : Both). LastTold both.desk.knows both.pass.number decision b.desk.knows) (sym wrote.0.3)
    (record { before = both.desk.knows; more = more_same both.desk.knows; found = None; own = _; step = wrote.0.1 }))
refuse_tells both both' decision answer (inr missed) =
    subst (λ (b : Both). LastTold both.desk.knows both.pass.number answer b.desk.knows) (sym missed.4)
    (record { before = both.desk.knows; more = more_same both.desk.knows; found = Some answer; own = None; step = missed.1 })

-- of a request that is refused, and not as full, the log says nothing new
pub refuse_spares : (both both' : Both) (decision : Decision) → MayRefuse both.desk decision → RefusesTo both decision Cancelled both' → logged (joined_service both) ≡ Some status_is.Away → logged (service both'.desk both.pass.number) ≡ Some status_is.Away
refuse_spares both both' Execute may (inl wrote) away = absurd may
refuse_spares both both' QueueFull may (inl wrote) away = absurd (let e = wrote.1 in cc)
refuse_spares both both' Closed may (inl wrote) away = absurd (let e = wrote.1 in cc)
refuse_spares both both' Cancelled may (inl wrote) away = absurd may
refuse_spares both both' ConcurrencyLimit may (inl wrote) away = absurd may
refuse_spares both both' decision may (inr missed) away =
    (moves_to both.desk both'.desk both.pass.number (handed_over (joined_service both)) (ap (λ (b : Both). b.desk.services) missed.4) (subst (λ (b : Both). KnowsMore both.desk.knows b.desk.knows) (sym missed.4) missed.1.more)).here
    ∙ (over_logged (joined_service both) ∙ away)
