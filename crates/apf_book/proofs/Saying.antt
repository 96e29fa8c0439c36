-- What the Desk's steps say, by their records.
use Rattle.std.proofs.Common.{◌≡◌, ◌≢◌, ℕ, ◌++◌, inl, inr, List, [], ◌∷◌, Option, Some, None, refl, sym, ap, ◌∙◌, subst}
use Rattle.apf_words.specs.Level.{Level}
use Rattle.apf_words.specs.declared.decision.Decision.{Decision}
use Rattle.apf_words.specs.declared.decision.Decision.TheVariants.{Execute, QueueFull, Closed, Cancelled, ConcurrencyLimit}
use Rattle.apf_history.specs.declared.events.Status.{Status}
use Rattle.apf_history.specs.declared.events.Status.TheVariants as status_is
use Rattle.apf_model.specs.declared.moves.Move.{Move}
use Rattle.apf_model.specs.declared.moves.Move.TheVariants.{Enter, Grant, Leave, Decide, Release}
use Rattle.apf_gate.specs.declared.record.Actor.{Actor}
use Rattle.apf_gate.specs.declared.record.Actor.TheVariants.{OfPass, OfDesk, OfStation}
use Rattle.apf_gate.specs.declared.record.Entry.{Entry}
use Rattle.apf_gate.specs.declared.record.Knowledge.{Knowledge}
use Rattle.apf_gate.specs.declared.record.PassRecord.{PassRecord}
use Rattle.apf_gate.specs.declared.record.DeskRecord.{DeskRecord}
use Rattle.apf_gate.specs.declared.record.Service.{Service}
use Rattle.apf_gate.specs.declared.record.Service.TheVariants.{NotHanded, Handed, RefusedFull, RefusedClosed, Waiting, Held, Settled, Left}
use Rattle.apf_gate.specs.declared.answers.TryEnter.{TryEnter}
use Rattle.apf_gate.specs.declared.answers.TryEnter.TheVariants as entered
use Rattle.apf_gate.specs.declared.answers.TryGrant.TheVariants as granted
use Rattle.apf_gate.specs.Traces.{NoneOf}
use Rattle.apf_gate.specs.Steps.{Both, SawLevel, SawDecision}
use Rattle.apf_gate.specs.DeskSteps.{DeskMayFind, DeskLoadsLevel, DeskLoadsDecision, DeskSubtractsWaiter, DeskSubtractsSeats}
use Rattle.apf_gate.specs.StationJoined.{StationAndDesk, StationAndDeskLoadLevel}
use Rattle.apf_gate.specs.JoinedSteps.{joined_service, handed_over, JoinedLoadsLevel, JoinedExchangesLevel, JoinedLoadsDecision}
use Rattle.apf_gate.specs.DeskCalls.{MayRefuse, TriesToEnter, TriesToGrant, SettlesTo, RefusesTo}
use Rattle.apf_book.specs.BookView.{logged}
use Rattle.apf_book.specs.Said.{said_by, said_of, sayings, Says}

others_say : (who : Actor) (step : Option Move) → who ≢ OfDesk → said_of who step ≡ []
others_say (OfPass r) step ne = refl
others_say OfDesk step ne = absurd (ne refl)
others_say (OfStation k) step ne = refl

pub none_say : (between rest : List Entry) → NoneOf OfDesk between → sayings (between ++ rest) ≡ sayings rest
none_say [] rest none = refl
none_say (e ∷ between) rest none = ap (λ (xs : List (ℕ × Status)). xs ++ sayings (between ++ rest)) (others_say e.by e.step none.0) ∙ none_say between rest none.1

pub level_says : (known known' : Knowledge) (level : Level) (own : Option Move) → SawLevel OfDesk known level own known' → Says (said_by own) known known'
level_says known known' level own saw = record { is = ap (λ (k : Knowledge). sayings k.trace) saw.is_after ∙ ap (λ (xs : List (ℕ × Status)). said_by own ++ xs) (none_say saw.between known.trace saw.of_others) }

pub decision_says : (known known' : Knowledge) (r : ℕ) (found left : Option Decision) (own : Option Move) → SawDecision OfDesk known r found left own known' → Says (said_by own) known known'
decision_says known known' r found left own saw = record { is = ap (λ (k : Knowledge). sayings k.trace) saw.is_after ∙ ap (λ (xs : List (ℕ × Status)). said_by own ++ xs) (none_say saw.between known.trace saw.of_others) }

-- steps that say nothing before others, and after them
pub quiet_then : (new : List (ℕ × Status)) (a b c : Knowledge) → Says [] a b → Says new b c → Says new a c
quiet_then new a b c first then = record { is = then.is ∙ ap (λ (xs : List (ℕ × Status)). new ++ xs) first.is }

-- the Desk's own steps
pub loads_level : (desk desk' : DeskRecord) (level : Level) → DeskLoadsLevel desk level desk' → Says [] desk.knows desk'.knows
loads_level desk desk' level loads = subst (λ (d : DeskRecord). Says [] desk.knows d.knows) (sym loads.3) (level_says desk.knows loads.0 level None loads.1)

pub loads_decision : (desk desk' : DeskRecord) (r : ℕ) (found : Option Decision) → DeskLoadsDecision r desk found desk' → Says [] desk.knows desk'.knows
loads_decision desk desk' r found loads = subst (λ (d : DeskRecord). Says [] desk.knows d.knows) (sym loads.3) (decision_says desk.knows loads.0 r found found None loads.1)

pub leaves : (desk desk' : DeskRecord) (r : ℕ) (level : Level) → DeskSubtractsWaiter r desk level desk' → Says ((r, status_is.Struck) ∷ []) desk.knows desk'.knows
leaves desk desk' r level step = subst (λ (d : DeskRecord). Says ((r, status_is.Struck) ∷ []) desk.knows d.knows) (sym step.2) (level_says desk.knows step.0 level (Some (Leave r)) step.1)

pub gives_back : (desk desk' : DeskRecord) (r : ℕ) (level : Level) → DeskSubtractsSeats r desk level desk' → Says ((r, status_is.Struck) ∷ []) desk.knows desk'.knows
gives_back desk desk' r level step = subst (λ (d : DeskRecord). Says ((r, status_is.Struck) ∷ []) desk.knows d.knows) (sym step.2) (level_says desk.knows step.0 level (Some (Release r)) step.1)

pub grants : (desk desk' : DeskRecord) (r : ℕ) → TriesToGrant desk r granted.Granted desk' → Says [] desk.knows desk'.knows
grants desk desk' r tries =
    let ex = tries.2.2 in
    quiet_then [] desk.knows tries.2.0.knows desk'.knows (loads_level desk tries.2.0 tries.0 tries.2.1)
    (subst (λ (d : DeskRecord). Says [] tries.2.0.knows d.knows) (sym ex.2) (level_says tries.2.0.knows ex.0 tries.0 (Some (Grant r)) ex.1))

pub grants_no_room : (desk desk' : DeskRecord) (r : ℕ) → TriesToGrant desk r granted.NoRoom desk' → Says [] desk.knows desk'.knows
grants_no_room desk desk' r tries = loads_level desk desk' tries.0 tries.1

pub grants_raced : (desk desk' : DeskRecord) (r : ℕ) → TriesToGrant desk r granted.Raced desk' → Says [] desk.knows desk'.knows
grants_raced desk desk' r tries = quiet_then [] desk.knows tries.4.0.knows desk'.knows (loads_level desk tries.4.0 tries.0 tries.4.1) (loads_level tries.4.0 desk' tries.1 tries.4.2)

pub same_held : (r j : ℕ) → ◌≡◌ {A = Option ℕ} (Some r) (Some j) → r ≡ j
same_held r j e = cc

-- settling: execute was written, or another decision was found
pub settles : (desk desk' : DeskRecord) (r : ℕ) → desk.held ≡ Some r → SettlesTo desk Execute desk' → Says ((r, status_is.Dispatched) ∷ []) desk.knows desk'.knows
settles desk desk' r held step = elim step.2 [
  | inl wrote ↦ subst (λ (j : ℕ). Says ((j, status_is.Dispatched) ∷ []) desk.knows desk'.knows) (same_held step.0 r (sym step.1 ∙ held))
      (subst (λ (d : DeskRecord). Says ((step.0, status_is.Dispatched) ∷ []) desk.knows d.knows) (sym wrote.0.2) (decision_says desk.knows wrote.0.0 step.0 None (Some Execute) (Some (Decide step.0 Execute)) wrote.0.1))
  | inr missed ↦ absurd (let e = missed.1 in cc)
]

pub settles_not : (desk desk' : DeskRecord) → SettlesTo desk Cancelled desk' → Says [] desk.knows desk'.knows
settles_not desk desk' step = elim step.2 [
  | inl wrote ↦ absurd (let e = wrote.1 in cc)
  | inr missed ↦ loads_decision desk desk' step.0 (Some Cancelled) missed.0.1
]

-- the joined steps
hears : (both both' : Both) (found : Option Decision) → JoinedLoadsDecision both found both' → Says [] both.desk.knows both'.desk.knows
hears both both' found loads = subst (λ (b : Both). Says [] both.desk.knows b.desk.knows) (sym loads.5) (decision_says both.desk.knows loads.0 both.pass.number found found None loads.1)

pub hears_quiet : (pass pass' : PassRecord) (desk desk' : DeskRecord) (found : Option Decision) → JoinedLoadsDecision (record { pass = pass; desk = desk }) found (record { pass = pass'; desk = desk' }) → Says [] desk.knows desk'.knows
hears_quiet pass pass' desk desk' found loads = hears (record { pass = pass; desk = desk }) (record { pass = pass'; desk = desk' }) found loads

joined_loads : (both both' : Both) (level : Level) → JoinedLoadsLevel both level both' → Says [] both.desk.knows both'.desk.knows
joined_loads both both' level loads = subst (λ (b : Both). Says [] both.desk.knows b.desk.knows) (sym loads.3) (level_says both.desk.knows loads.0 level None loads.1)

joined_enters : (both both' : Both) (level : Level) → JoinedExchangesLevel both level both' → Says ((both.pass.number, status_is.Waits) ∷ []) both.desk.knows both'.desk.knows
joined_enters both both' level ex = subst (λ (b : Both). Says ((both.pass.number, status_is.Waits) ∷ []) both.desk.knows b.desk.knows) (sym ex.3) (level_says both.desk.knows ex.0 level (Some (Enter both.pass.number)) ex.1)

abbrev pub said_trying : TryEnter → ℕ → List (ℕ × Status)
said_trying entered.Entered r = (r, status_is.Waits) ∷ []
said_trying entered.Closed r = []
said_trying entered.Raced r = []

pub tries_say : (both both' : Both) (answer : TryEnter) → TriesToEnter both answer both' → Says (said_trying answer both.pass.number) both.desk.knows both'.desk.knows
tries_say both both' entered.Entered tries =
    let between = tries.2.0 in
    let same : between.pass.number ≡ both.pass.number = ap (λ (b : Both). b.pass.number) tries.2.1.3 in
    quiet_then ((both.pass.number, status_is.Waits) ∷ []) both.desk.knows between.desk.knows both'.desk.knows (joined_loads both between tries.0 tries.2.1)
    (subst (λ (r : ℕ). Says ((r, status_is.Waits) ∷ []) between.desk.knows both'.desk.knows) same (joined_enters between both' tries.0 tries.2.2))
tries_say both both' entered.Closed tries = joined_loads both both' tries.0 tries.1
tries_say both both' entered.Raced tries = quiet_then [] both.desk.knows tries.4.0.desk.knows both'.desk.knows (joined_loads both tries.4.0 tries.0 tries.4.1) (joined_loads tries.4.0 both' tries.1 tries.4.2)

-- the Desk heard a Station
pub station_quiet : (both both' : StationAndDesk) (level : Level) → StationAndDeskLoadLevel both level both' → Says [] both.desk.knows both'.desk.knows
station_quiet both both' level loads = subst (λ (b : StationAndDesk). Says [] both.desk.knows b.desk.knows) (sym loads.4) (level_says both.desk.knows loads.0 level None loads.1)

-- a refusal: what was answered
abbrev pub said_refusing : Decision → ℕ → List (ℕ × Status)
said_refusing Execute r = []
said_refusing QueueFull r = (r, status_is.Full) ∷ []
said_refusing Closed r = []
said_refusing Cancelled r = []
said_refusing ConcurrencyLimit r = []

wrote_says : (d : Decision) (r : ℕ) (desk : DeskRecord) → MayRefuse desk d → said_by (Some (Decide r d)) ≡ said_refusing d r
wrote_says Execute r desk may = absurd may
wrote_says QueueFull r desk may = refl
wrote_says Closed r desk may = refl
wrote_says Cancelled r desk may = refl
wrote_says ConcurrencyLimit r desk may = refl

not_full : (x : Service) → logged x ≡ Some status_is.Away → DeskMayFind (handed_over x) (Some QueueFull) → ⊥
not_full NotHanded away may = elim may [ inl e ↦ absurd (let z = e in cc) | inr e ↦ absurd (let z = e in cc) ]
not_full Handed away may = elim may [ inl e ↦ absurd (let z = e in cc) | inr e ↦ absurd (let z = e in cc) ]
not_full RefusedFull away may = absurd (let z = away in cc)
not_full RefusedClosed away may = absurd (let z = may in cc)
not_full Waiting away may = absurd (let z = away in cc)
not_full Held away may = absurd (let z = away in cc)
not_full Settled away may = absurd (let z = away in cc)
not_full Left away may = absurd (let z = away in cc)

missed_says : (x : Service) (answer : Decision) (r : ℕ) → logged x ≡ Some status_is.Away → DeskMayFind (handed_over x) (Some answer) → [] ≡ said_refusing answer r
missed_says x Execute r away may = refl
missed_says x QueueFull r away may = absurd (not_full x away may)
missed_says x Closed r away may = refl
missed_says x Cancelled r away may = refl
missed_says x ConcurrencyLimit r away may = refl

pub refuses_say : (both both' : Both) (decision answer : Decision) → MayRefuse both.desk decision → logged (joined_service both) ≡ Some status_is.Away → RefusesTo both decision answer both' → Says (said_refusing answer both.pass.number) both.desk.knows both'.desk.knows
refuses_say both both' decision answer may away (inl wrote) =
    subst (λ (d : Decision). Says (said_refusing d both.pass.number) both.desk.knows both'.desk.knows) (sym wrote.1)
    (subst (λ (xs : List (ℕ × Status)). Says xs both.desk.knows both'.desk.knows) (wrote_says decision both.pass.number both.desk may)
    (subst (λ (b : Both). Says (said_by (Some (Decide both.pass.number decision))) both.desk.knows b.desk.knows) (sym wrote.0.3) (decision_says both.desk.knows wrote.0.0 both.pass.number None (Some decision) (Some (Decide both.pass.number decision)) wrote.0.1)))
refuses_say both both' decision answer may away (inr missed) =
    subst (λ (xs : List (ℕ × Status)). Says xs both.desk.knows both'.desk.knows) (missed_says (joined_service both) answer both.pass.number away missed.2)
    (subst (λ (b : Both). Says [] both.desk.knows b.desk.knows) (sym missed.4) (decision_says both.desk.knows missed.0 both.pass.number (Some answer) (Some answer) None missed.1))
