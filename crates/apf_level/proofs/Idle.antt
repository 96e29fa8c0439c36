-- The end of a level whose Desk served nobody.
use Rattle.std.proofs.Common.{◌≡◌, ℕ, zero, suc, ◌<◌, inl, inr, Bool, true, false, ◌&&◌, ◌||◌, List, [], ◌∷◌, length, Option, Some, None, refl, sym, ap, ◌∙◌, subst, arith}
use Rattle.std.specs.Prelude.{All, Contains, slice_get, slice_index_or}
use Rattle.std.proofs.lemmas.Bool.{eq-eqb, cases_lt}
use Rattle.std.proofs.lemmas.List.{get_or_past}
use Rattle.std.proofs.lemmas.Option.{get_or_from_slice_get, slice_get-get_or}
use Rattle.apf_words.specs.declared.decision.Decision.{Decision}
use Rattle.apf_words.specs.declared.decision.Decision.TheVariants.{Execute, QueueFull}
use Rattle.apf_history.specs.declared.events.Event.{Event}
use Rattle.apf_model.specs.Outcome.{Agrees, ExecutesArrivals}
use Rattle.apf_gate.specs.declared.record.Service.{Service}
use Rattle.apf_gate.specs.declared.record.Service.TheVariants as service_is
use Rattle.apf_gate.specs.declared.record.DeskRecord.{DeskRecord}
use Rattle.apf_gate.specs.Records.{service, service_of}
use Rattle.apf_gate.specs.Tokens.{PassToken, StationToken}
use Rattle.apf_gate.specs.Ends.{WordsView, EndsWith, EndAgrees, ExecutedIt, passes_before, stations_before}
use Rattle.apf_model.specs.declared.response.Response.{Response}
use Rattle.apf_model.specs.declared.response.Response.TheVariants.{Queue, Reject}
use Rattle.apf_gate.specs.declared.record.Record.{Record}
use Rattle.apf_gate.specs.declared.record.Record.TheVariants.{Pass, Desk, Station}
use Rattle.apf_gate.specs.declared.record.Actor.TheVariants.{OfPass, OfStation}
use Rattle.apf_gate.specs.declared.record.StationRecord.{StationRecord}
use Rattle.apf_gate.specs.Traces.{GoesOn, world_of}
use Rattle.apf_gate.specs.declared.record.PassRecord.{PassRecord}
use Rattle.apf_gate.specs.Requests.{IsPassRecord}
use Rattle.apf_gate.specs.Rule.{Every, IsRecord}
use Rattle.apf_book.specs.Laws.{decision_in, took_in, EnteredBy, IsMade}
use Rattle.apf_level.specs.Levels.{LevelId}
use Rattle.apf_level.proofs.Ends.{IsDecidedBy}

or_true : (a b : Bool) → b ≡ true → (a || b) ≡ true
or_true true b e = refl
or_true false b e = e

took_at : (passes : List PassToken) (r i : ℕ) (taker : PassToken) → i < length passes → slice_index_or passes i taker ≡ taker → ExecutedIt r taker → took_in passes r ≡ true
took_at [] r i taker l is took = absurd (omega arith)
took_at (token ∷ tokens) r zero taker l is took =
    let here : ExecutedIt r token = subst (ExecutedIt r) (sym is) took in
    ap (λ (b : Bool). (b && token.pass.took) || took_in tokens r) (eq-eqb token.pass.number r here.0) ∙ ap (λ (b : Bool). b || took_in tokens r) here.1
took_at (token ∷ tokens) r (suc i) taker l is took = or_true _ _ (took_at tokens r i taker (omega arith) is took)

module _ (k : LevelId) (d : DeskRecord) (w : WordsView) (ps : List PassToken) (ss : List StationToken) (e : EndAgrees k.gate d ps ss w) (count : length w.decisions ≡ length k.gate.shape.widths)
    (served_none : d.services ≡ []) where
  idle : (r : ℕ) (x : Service) → service d r ≡ x → service_is.NotHanded ≡ x
  idle r x is = sym (ap (λ (l : List (ℕ × Service)). service_of l r) served_none) ∙ is

  inside : (r : ℕ) (x : Decision) → decision_in w r ≡ Some x → (r < length k.gate.shape.widths) × (slice_get w.decisions r ≡ Some (Some x))
  inside r x is = elim (cases_lt r (length w.decisions)) [
    | inl l ↦ (subst (λ n. r < n) count l, slice_get-get_or w.decisions r None l ∙ ap (λ (y : Option Decision). Some y) is)
    | inr past ↦ absurd (let n : ◌≡◌ {A = Option Decision} None (Some x) = sym (get_or_past w.decisions r None past) ∙ is in cc)
  ]

  none_here : (x : Event) → ¬ Contains [] x
  none_here x c = let l = c.1 in omega arith

  pub agrees : Agrees [] (decision_in w)
  agrees = record {
    dispatched = λ r q here. absurd (none_here _ here);
    struck = λ r q here. absurd (none_here _ here);
    full = λ r. (
      (λ f. absurd (none_here _ f.1)),
      (λ is.
          let x = inside r QueueFull is in
          absurd (let z = idle r service_is.RefusedFull (e.full_was_refused r x.0 x.1) in cc)),
    );
  }

  pub arrivals : ExecutesArrivals [] (decision_in w) (took_in ps)
  arrivals r is took =
      let x = inside r Execute is in
      elim (e.executed r x.0 x.1) [
        | inl settled ↦ absurd (let z = idle r service_is.Settled settled in cc)
        | inr any ↦ absurd (let b = sym (took_at ps r any.0 any.1 any.2 any.3 any.4) ∙ took in cc)
      ]

each_of : (P : Record → Type 0) (p : PassToken) (ps : List PassToken) → P (Pass p.pass) → ((i : ℕ) (t : PassToken) → i < length ps → P (Pass (slice_index_or ps i t).pass)) → (i : ℕ) (t : PassToken) → i < length (p ∷ ps) → P (Pass (slice_index_or (p ∷ ps) i t).pass)
each_of P p ps here there zero t low = here
each_of P p ps here there (suc i) t low = there i t (omega arith)

every_stations : (P : Record → Type 0) (ts : List StationToken) (rest : List Record) → Every P (stations_before ts rest) → Every P rest
every_stations P [] rest k = k
every_stations P (t ∷ ts) rest k = every_stations P ts rest k.1

every_passes : (P : Record → Type 0) (ps : List PassToken) (rest : List Record) → Every P (passes_before ps rest) → (i : ℕ) (t : PassToken) → i < length ps → P (Pass (slice_index_or ps i t).pass)
every_passes P [] rest k = λ i t low. absurd (omega arith)
every_passes P (p ∷ ps) rest k = each_of P p ps k.0 (every_passes P ps rest k.1)

no_event : (x : Event) → ¬ Contains [] x
no_event x c = let l = c.1 in omega arith

-- on a level without queues no Pass entered
pub nobody_entered : (k : LevelId) (d : DeskRecord) (w : WordsView) (ps : List PassToken) (ss : List StationToken) → EndsWith k.gate d ps ss w → k.gate.shape.response ≡ Reject → All (EnteredBy []) ps
nobody_entered k d w ps ss ends rejects i t low =
    let u : PassToken = slice_index_or ps i t in
    let here = every_passes (IsRecord k.gate.shape ends.account) ps (Desk d ∷ []) (every_stations (IsRecord k.gate.shape ends.account) ss (passes_before ps (Desk d ∷ [])) ends.stand) i t low in
    let own : IsPassRecord k.gate.shape u.pass = subst (λ (p : PassRecord). IsPassRecord k.gate.shape p) here.1 (ends.sound.request u.pass.number here.0).own in (
      (λ is. absurd (let bad : ◌≡◌ {A = Response} Queue Reject = sym (own.queues is) ∙ rejects in cc)),
      (λ logs. absurd (no_event _ logs.1)),
    )

stations_of : (P : Record → Type 0) (s : StationToken) (ss : List StationToken) → P (Station s.station) → ((i : ℕ) (t : StationToken) → i < length ss → P (Station (slice_index_or ss i t).station)) → (i : ℕ) (t : StationToken) → i < length (s ∷ ss) → P (Station (slice_index_or (s ∷ ss) i t).station)
stations_of P s ss here there zero t low = here
stations_of P s ss here there (suc i) t low = there i t (omega arith)

each_station : (P : Record → Type 0) (ss : List StationToken) (rest : List Record) → Every P (stations_before ss rest) → (i : ℕ) (t : StationToken) → i < length ss → P (Station (slice_index_or ss i t).station)
each_station P [] rest k = λ i t low. absurd (omega arith)
each_station P (s ∷ ss) rest k = stations_of P s ss k.0 (each_station P ss rest k.1)

-- the steps of a level without queues, which say no event
made_alone : (k : LevelId) (d : DeskRecord) (w : WordsView) (ps : List PassToken) (ss : List StationToken) (h : List Event) → EndsWith k.gate d ps ss w → k.gate.shape.response ≡ Reject → IsMade k.gate h w.level ps ss
made_alone k d w ps ss h ends rejects =
    let account = ends.account in
    let passes = every_passes (IsRecord k.gate.shape account) ps (Desk d ∷ []) (every_stations (IsRecord k.gate.shape account) ss (passes_before ps (Desk d ∷ [])) ends.stand) in
    let stations = each_station (IsRecord k.gate.shape account) ss (passes_before ps (Desk d ∷ [])) ends.stand in
    record {
      trace = account.trace;
      made = ends.sound.made;
      schedule = ends.sound.schedule;
      says = λ queues. absurd (let bad : ◌≡◌ {A = Response} Queue Reject = sym queues ∙ rejects in cc);
      word = ends.level;
      from_passes = λ i t low.
          let here = passes i t low in
          subst (λ (p : PassRecord). GoesOn account.trace (OfPass (slice_index_or ps i t).pass.number) p.knows.trace) here.1 (ends.sound.pass_knows (slice_index_or ps i t).pass.number here.0).newer;
      goes_on = λ i t low.
          let here = stations i t low in
          subst (λ (s : StationRecord). GoesOn account.trace (OfStation (slice_index_or ss i t).station.number) s.knows.trace) here.1 (ends.sound.station_knows (slice_index_or ss i t).station.number).newer;
    }

-- and whose decisions are those that they wrote
pub decided_alone : (k : LevelId) (d : DeskRecord) (w : WordsView) (ps : List PassToken) (ss : List StationToken) (h : List Event) → EndsWith k.gate d ps ss w → k.gate.shape.response ≡ Reject → IsDecidedBy k w ps ss h
unfolding made_alone
decided_alone k d w ps ss h ends rejects = (made_alone k d w ps ss h ends rejects, λ r low. get_or_from_slice_get w.decisions r ((world_of k.gate.shape ends.account.trace).decision r) None (ends.decided r low))
