-- The law of the gate's end, read in the log.
use Rattle.std.proofs.Common.{◌≡◌, ℕ, zero, suc, ◌<◌, inl, inr, Bool, true, false, ◌&&◌, ◌||◌, List, [], ◌∷◌, length, Option, Some, None, refl, sym, ap, ◌∙◌, subst, arith}
use Rattle.std.specs.Prelude.{Contains, slice_get, slice_index_or}
use Rattle.std.proofs.lemmas.Bool.{eq-eqb, cases_lt}
use Rattle.std.proofs.lemmas.List.{get_or_past}
use Rattle.std.proofs.lemmas.Option.{get_or_from_slice_get, slice_get-get_or}
use Rattle.apf_words.specs.declared.decision.Decision.{Decision}
use Rattle.apf_words.specs.declared.decision.Decision.TheVariants.{Execute, QueueFull, Cancelled}
use Rattle.apf_history.specs.declared.events.Event.{Event}
use Rattle.apf_history.specs.declared.events.Event.TheVariants.{Full, Dispatch, Strike}
use Rattle.apf_model.specs.History.{request_of, NamesRequests}
use Rattle.apf_gate.specs.Tokens.{GateId, DeskToken, PassToken, StationToken, desk_gate}
use Rattle.apf_gate.specs.Ends.{WordsView, EndAgrees, ExecutedIt, passes_before, stations_before}
use Rattle.apf_gate.specs.declared.record.Record.{Record}
use Rattle.apf_gate.specs.declared.record.Record.TheVariants.{Pass, Desk, Station}
use Rattle.apf_gate.specs.declared.record.Actor.TheVariants.{OfPass, OfDesk, OfStation}
use Rattle.apf_gate.specs.declared.record.StationRecord.{StationRecord}
use Rattle.apf_gate.specs.Traces.{GoesOn, world_of}
use Rattle.apf_gate.specs.declared.record.PassRecord.{PassRecord}
use Rattle.apf_gate.specs.declared.record.DeskRecord.{DeskRecord}
use Rattle.apf_gate.specs.Records.{service}
use Rattle.apf_gate.specs.Requests as requests
use Rattle.apf_gate.specs.Rule.{Every, IsRecord}
use Rattle.apf_book.specs.Said.{sayings}
use Rattle.apf_book.proofs.Opened.{opened}
use Rattle.apf_book.proofs.Saying.{none_say}
use Rattle.apf_book.proofs.Keeping.{entered_logs}
use Rattle.apf_book.specs.LedgerView.{LedgerView}
use Rattle.apf_book.specs.BookView.{IsKept}
use Rattle.apf_book.specs.Laws.{DeskAgreesWithLog, decision_in, took_in}
use Rattle.apf_book.proofs.laws.every_ended_book_agrees.Goals as goal

or_true : (a b : Bool) → b ≡ true → (a || b) ≡ true
or_true true b e = refl
or_true false b e = e

took_at : (passes : List PassToken) (r k : ℕ) (taker : PassToken) → k < length passes → slice_index_or passes k taker ≡ taker → ExecutedIt r taker → took_in passes r ≡ true
took_at [] r k taker l is took = absurd (omega arith)
took_at (token ∷ tokens) r zero taker l is took =
    let here : ExecutedIt r token = subst (ExecutedIt r) (sym is) took in
    ap (λ (b : Bool). (b && token.pass.took) || took_in tokens r) (eq-eqb token.pass.number r here.0) ∙ ap (λ (b : Bool). b || took_in tokens r) here.1
took_at (token ∷ tokens) r (suc k) taker l is took = or_true _ _ (took_at tokens r k taker (omega arith) is took)

decided_inside : (words : WordsView) (r : ℕ) (decision : Decision) → decision_in words r ≡ Some decision → (r < length words.decisions) × (slice_get words.decisions r ≡ Some (Some decision))
decided_inside words r decision e = elim (cases_lt r (length words.decisions)) [
  | inl l ↦ (l, slice_get-get_or words.decisions r None l ∙ ap (λ (x : Option Decision). Some x) e)
  | inr past ↦ absurd (let n : ◌≡◌ {A = Option Decision} None (Some decision) = sym (get_or_past words.decisions r None past) ∙ e in cc)
]

named_at : (n : ℕ) (h : List Event) (e : Event) → NamesRequests n h → (k : ℕ) → k < length h → slice_index_or h k e ≡ e → request_of e < n
named_at n [] e names k l is = absurd (omega arith)
named_at n (f ∷ h) e names zero l is = subst (λ (x : Event). request_of x < n) is names.0
named_at n (f ∷ h) e names (suc k) l is = named_at n h e names.1 k (omega arith) is

module _ (gate : GateId) (desk : DeskToken) (v : LedgerView) (passes : List PassToken) (stations : List StationToken) (words : WordsView) (own : desk_gate desk ≡ gate) (kept : IsKept desk.desk v) where
  inside : (e : Event) → Contains v.history e → request_of e < length gate.shape.widths
  inside e c =
      let k = named_at (length v.costs) v.history e kept.of_log.names_requests c.0 c.1 c.2 in
      let a = kept.one_cost_each in
      let b = ap (λ (x : GateId). length x.shape.widths) own in omega arith

decided : (words : WordsView) (r : ℕ) (decision : Decision) → slice_get words.decisions r ≡ Some (Some decision) → decision_in words r ≡ Some decision
decided words r decision e = get_or_from_slice_get words.decisions r (Some decision) None e

every_stations : (P : Record → Type 0) (ts : List StationToken) (rest : List Record) → Every P (stations_before ts rest) → Every P rest
every_stations P [] rest k = k
every_stations P (t ∷ ts) rest k = every_stations P ts rest k.1

each_of : (P : Record → Type 0) (p : PassToken) (ps : List PassToken) → P (Pass p.pass) → ((i : ℕ) (t : PassToken) → i < length ps → P (Pass (slice_index_or ps i t).pass)) → (i : ℕ) (t : PassToken) → i < length (p ∷ ps) → P (Pass (slice_index_or (p ∷ ps) i t).pass)
each_of P p ps here there zero t low = here
each_of P p ps here there (suc i) t low = there i t (omega arith)

stations_of : (P : Record → Type 0) (s : StationToken) (ss : List StationToken) → P (Station s.station) → ((i : ℕ) (t : StationToken) → i < length ss → P (Station (slice_index_or ss i t).station)) → (i : ℕ) (t : StationToken) → i < length (s ∷ ss) → P (Station (slice_index_or (s ∷ ss) i t).station)
stations_of P s ss here there zero t low = here
stations_of P s ss here there (suc i) t low = there i t (omega arith)

each_station : (P : Record → Type 0) (ss : List StationToken) (rest : List Record) → Every P (stations_before ss rest) → ((i : ℕ) (t : StationToken) → i < length ss → P (Station (slice_index_or ss i t).station)) × Every P rest
each_station P [] rest k = ((λ i t low. absurd (omega arith)), k)
each_station P (s ∷ ss) rest k = let h = each_station P ss rest k.1 in (stations_of P s ss k.0 h.0, h.1)

every_passes : (P : Record → Type 0) (ps : List PassToken) (rest : List Record) → Every P (passes_before ps rest) → ((i : ℕ) (t : PassToken) → i < length ps → P (Pass (slice_index_or ps i t).pass)) × Every P rest
every_passes P [] rest k = ((λ i t low. absurd (omega arith)), k)
every_passes P (p ∷ ps) rest k = let h = every_passes P ps rest k.1 in (each_of P p ps k.0 h.0, h.1)

pub returns : goal.returns
returns c = λ gate desk v passes stations words own kept ends.
    let agrees : EndAgrees gate desk.desk passes stations words = c.every_end_agrees.ensures gate desk.desk passes stations words ends in
    let mind : DeskAgreesWithLog desk.desk v = c.every_book_is_kept.ensures desk.desk v kept in
    let within : (e : Event) → Contains v.history e → request_of e < length gate.shape.widths = inside gate desk v passes stations words own kept in
    let below : (r : ℕ) → r < length words.decisions → r < length gate.shape.widths = (λ r l. let k = ends.count in omega arith) in
    record {
      made =
          let account = ends.account in
          let of_stations = each_station (IsRecord gate.shape account) stations (passes_before passes (Desk desk.desk ∷ [])) ends.stand in
          let rest = every_passes (IsRecord gate.shape account) passes (Desk desk.desk ∷ []) of_stations.1 in
          let on : GoesOn account.trace OfDesk desk.desk.knows.trace = subst (λ (d : DeskRecord). GoesOn account.trace OfDesk d.knows.trace) rest.1.0 ends.sound.desk_knows.newer in
          record {
            trace = account.trace;
            made = ends.sound.made;
            schedule = ends.sound.schedule;
            says = λ _. kept.said ∙ (sym (none_say on.0 desk.desk.knows.trace on.2) ∙ ap sayings on.1);
            word = ends.level;
            from_passes = λ i t low.
                let here = rest.0 i t low in
                subst (λ (p : PassRecord). GoesOn account.trace (OfPass (slice_index_or passes i t).pass.number) p.knows.trace) here.1 (ends.sound.pass_knows (slice_index_or passes i t).pass.number here.0).newer;
            goes_on = λ i t low.
                let here = of_stations.0 i t low in
                subst (λ (s : StationRecord). GoesOn account.trace (OfStation (slice_index_or stations i t).station.number) s.knows.trace) here.1 (ends.sound.station_knows (slice_index_or stations i t).station.number).newer;
          };
      decides = λ r low. get_or_from_slice_get words.decisions r ((world_of gate.shape ends.account.trace).decision r) None (ends.decided r low);
      agrees = record {
        dispatched = λ r q here. decided words r Execute (agrees.settled r (within (Dispatch r q) here) ((mind.dispatched_is r).1 (q, here)));
        struck = λ r q here. decided words r Cancelled (agrees.told r Cancelled (within (Strike r q) here) (inl (mind.struck_is_told r q here)));
        full = λ r. (
          (λ logs. decided words r QueueFull (agrees.refused_as_full r (within (Full r logs.0) logs.1) ((mind.full_is r).1 logs))),
          (λ e. let at = decided_inside words r QueueFull e in (mind.full_is r).0 (agrees.full_was_refused r (below r at.0) at.1)),
        );
      };
      arrivals = λ r e took.
          let at = decided_inside words r Execute e in
          elim (agrees.executed r (below r at.0) at.1) [
            | inl settled ↦ (mind.dispatched_is r).0 settled
            | inr any ↦ absurd (let b = sym (took_at passes r any.0 any.1 any.2 any.3 any.4) ∙ took in cc)
          ];
      entered = λ i t low.
          let stand = every_passes (IsRecord gate.shape ends.account) passes (Desk desk.desk ∷ []) (every_stations (IsRecord gate.shape ends.account) stations (passes_before passes (Desk desk.desk ∷ [])) ends.stand) in
          let u : PassToken = slice_index_or passes i t in
          let here = stand.0 i t low in
          let same : ends.account.desk ≡ desk.desk = stand.1.0 in
          let tied = (ends.sound.request u.pass.number here.0).tied.entered in
          let is : u.pass.entered ≡ requests.has_entered (service desk.desk u.pass.number) = subst (λ (d : DeskRecord). u.pass.entered ≡ requests.has_entered (service d u.pass.number)) same (subst (λ (p : PassRecord). p.entered ≡ requests.has_entered (service ends.account.desk u.pass.number)) here.1 tied) in
          entered_logs (opened c.legal_histories_are_in_order.ensures).statuses desk.desk v kept u.pass.number u.pass.entered is;
    }
