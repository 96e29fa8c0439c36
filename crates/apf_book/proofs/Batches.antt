-- A batch's book over a book for life: what its calls leave of the log.
use Rattle.std.proofs.Common.{◌≡◌, ◌≢◌, ◌↔◌, ℕ, ◌+◌, ◌*◌, ◌^◌, ◌-◌, ◌<◌, ◌≤◌, ◌++◌, inl, inr, Bool, true, false, List, [], ◌∷◌, length, map, take, drop, reverse, replicate, get_or, set, eqb, length-set, get_or-set_same, get_or-set_other, Some, None, refl, sym, ap, ◌∙◌, subst, arith}
use Rattle.std.specs.Prelude.{◌||◌, Contains, All, count_by, slice_get}
use Rattle.std.proofs.lemmas.Option.{get_or_from_slice_get}
use Rattle.std.proofs.Math.Seq.{take-append_seam}
use Rattle.std.proofs.lemmas.List.{get_or_past, length-replicate, reverse-append, reverse-reverse, length-append, length-reverse, length-map, get_or-map}
use Rattle.std.proofs.lemmas.Bool.{false≢true, cases_eq, cases_lt, eq-eqb, ne_eqb}
use Rattle.std.proofs.lemmas.List.Elements.{All-nil, All-push, All-same, Contains-append_left, Contains-append_cases, Contains-push, Contains-push_cases}
use Rattle.apf_words.specs.Limits.{max_requests, max_cost}
use Rattle.apf_words.specs.declared.decision.Decision.TheVariants.{Cancelled}
use Rattle.apf_flow.specs.Sizes.{Sizes}
use Rattle.apf_history.specs.declared.events.Event.{Event}
use Rattle.apf_history.specs.declared.events.Event.TheVariants.{Enter, Full, Dispatch, Strike}
use Rattle.apf_history.specs.declared.events.LogEntry.{LogEntry}
use Rattle.apf_history.specs.declared.events.LogEntry.TheVariants.{Happens}
use Rattle.apf_history.specs.declared.events.Status.TheVariants as status_is
use Rattle.apf_model.specs.World.{width}
use Rattle.apf_model.specs.History.{NamesRequests, NamesQueues, IsLegal, request_of, has_arrived, waiting}
use Rattle.apf_model.specs.Charged.{events as events_of, log_of, charged_numbers}
use Rattle.apf_model.specs.Fair.{numbers, IsChoice, Numbers}
use Rattle.apf_model.specs.Order.{status, has_entered, AreStatuses}
use Rattle.apf_model.specs.Outcome.{is_enter, is_dispatch, is_strike, is_full, stats_of}
use Rattle.apf_model.specs.Schedule.{AreCosts}
use Rattle.apf_model.specs.declared.config.Config.{Config}
use Rattle.apf_model.specs.declared.config.Ask.{Ask}
use Rattle.apf_gate.specs.Gauges.{IsShape}
use Rattle.apf_gate.specs.declared.record.Shape.{Shape}
use Rattle.apf_gate.specs.declared.record.State.TheVariants.{InLine}
use Rattle.apf_gate.specs.declared.record.Knowledge.{Knowledge}
use Rattle.apf_gate.specs.declared.record.DeskRecord.{DeskRecord}
use Rattle.apf_gate.specs.Records.{told_of, told_own, service, KnowsMore}
use Rattle.apf_gate.specs.Tokens.{GateId, DeskToken, PassToken, desk_gate}
use Rattle.apf_book.specs.declared.life_event.LifeEvent.{LifeEvent}
use Rattle.apf_book.specs.declared.arrived.Arrived.{Arrived}
use Rattle.apf_book.specs.declared.arrived.Arrived.TheVariants as arrived
use Rattle.apf_book.specs.Arrivals.{arrival, is_logged}
use Rattle.apf_book.specs.Servings.{with, AreServings, Serves, Stops, Strikes}
use Rattle.apf_book.specs.Stopped.{IsStopped}
use Rattle.apf_book.specs.BookView.{BookView, IsKept}
use Rattle.apf_book.specs.BookCalls.{IsDeskFor, AreCostsFor, AnswersArrival, Dispatches, StrikesOut}
use Rattle.apf_book.specs.Opening.{opening_ledger_with}
use Rattle.apf_book.specs.declared.life_stats.LifeStats.{LifeStats}
use Rattle.apf_book.specs.BookResults.{SameBook, SameRequest, AfterArrive, AfterStrike}
use Rattle.apf_book.specs.LedgerView.{LedgerView, hand_in}
use Rattle.apf_book.specs.Histories.{Laws, Unsettled}
use Rattle.apf_book.specs.RecentEvents.{event_of, IsSmall, AreLifeStats}
use Rattle.apf_book.specs.Life.{LifeView, IsOpening, then_came}
use Rattle.apf_book.specs.LifeBook.{LifeBookView, IsLifeKept, arrived_in, then_came_all, StopsAt, ServesLife, StrikesLife}
use Rattle.apf_book.specs.LifeCalls.{SameLifeBook, SaysQueued, AnswersLifeArrival, AfterLifeArrival, HearsLife}
use Rattle.apf_book.specs.Batch.{life_of, ledger_with, IsBatchGate, IsBatchBook}
use Rattle.apf_book.proofs.Agreeing.{agreed_away, agreed_entered, agreed_not_entered, agreed_new, struck_waits_not, strike_adds_none}
use Rattle.apf_book.proofs.Stopped.{begins_stopped, stopped, still_stopped}
use Rattle.apf_book.proofs.Lists.{no_mark}
use Rattle.apf_book.proofs.LifeAsks.{heard_trace}
use Rattle.apf_book.proofs.LifeStrikes.{asked_known}
use Rattle.apf_book.proofs.LifeTurning.{same_book_then}
use Rattle.apf_book.proofs.Running.{count_within}
use Rattle.apf_book.proofs.Trying.{RacedSoFar, answers_then, after_then}

-- the log of more events
log_append : (events h : List Event) → log_of (events ++ h) ≡ log_of events ++ log_of h
log_append [] h = refl
log_append (e ∷ events) h = ap (λ (l : List LogEntry). Happens e ∷ l) (log_append events h)

-- events that came are events of the log, with the hands and costs of the opening
pub came_in : (v : LedgerView) (events : List Event) → then_came_all events (life_of v) ≡ life_of (with events v)
came_in v events = ap (λ (l : List LogEntry). record (life_of (with events v)) { log = l }) (sym (log_append events v.history))

-- an arrival with the hand and the cost of the opening leaves both
pub arrived_as : (v : LedgerView) (r : ℕ) (a : Arrived) → arrived_in (life_of v) r (hand_in v r) (width v.costs r) a ≡ life_of (with (arrival a r) v)
arrived_as v r (arrived.Queued q) = ap (λ (w : LifeView). then_came w (Enter r q)) (asked_known (life_of v) r)
arrived_as v r (arrived.Full q) = ap (λ (w : LifeView). then_came w (Full r q)) (asked_known (life_of v) r)
arrived_as v r arrived.Closed = refl
arrived_as v r arrived.Cancelled = refl
arrived_as v r arrived.Again = refl

-- what a batch's book is of
pub is_kept : (law : Unsettled) (v : LedgerView) (b : LifeBookView) (marks : List Bool) (capacity : ℕ) → IsBatchBook v b marks capacity → IsKept b.desk.desk v
is_kept law v b marks capacity is = record {
  of_log = record {
    fair = law.fair v.sizes.deck v.costs (hand_in v) v.limit v.history
        (subst (λ (h : List Event). IsLegal (hand_in v) v.limit h) (sym (law.same v.history)) is.kept.of_life.fair.0, is.kept.of_life.fair.1);
    names_requests = is.kept.of_life.names_requests;
    names_queues = is.kept.of_life.names_queues;
    costs = is.costs;
    few = is.few;
  };
  did = is.kept.agrees.did;
  holds_none = is.kept.agrees.holds_none;
  said = is.kept.agrees.said;
  struck = is.kept.agrees.struck;
  one_cost_each = is.kept.one_cost_each;
  has_queues = is.gate.has_queues;
  batch = is.gate.batch;
}

named_in_reverse : (n : ℕ) (h : List Event) → NamesRequests n h → All (λ (e : Event). request_of e < n) (reverse h)
named_in_reverse n [] names = All-nil (λ (e : Event). request_of e < n)
named_in_reverse n (e ∷ h) names =
    All-same (λ (x : Event). request_of x < n) (reverse (e ∷ h)) (reverse h ++ e ∷ []) (reverse-append (e ∷ []) h) (All-push (λ (x : Event). request_of x < n) (reverse h) e (named_in_reverse n h names.1) names.0)

-- a book for life over the gate of a batch keeps all events
module _ (laws : Laws) (v : LedgerView) (b : LifeBookView) (kept : IsLifeKept (life_of v) b) (keeps : b.notes.capacity ≡ 2 * length v.costs) where
  pub short : length v.history ≤ 2 * length v.costs
  short = (laws.numbers (hand_in v) v.limit v.history kept.of_life.fair.0).of_requests (length v.costs) kept.of_life.names_requests

  pub whole : map event_of b.notes.newest ≡ reverse v.history
  whole =
      let none : length (reverse v.history) - b.notes.capacity ≡ 0 = (let a = short in let l = length-reverse v.history in omega (arith, keeps)) in
      kept.notes.newest_are ∙ ap (λ (k : ℕ). drop k (reverse v.history)) none

  pub few_newest : length b.notes.newest ≤ 2 * length v.costs
  few_newest =
      let a = length-map b.notes.newest event_of in let l = length-reverse v.history in let s = short in
      let same : length (map event_of b.notes.newest) ≡ length (reverse v.history) = ap (λ (es : List Event). length es) whole in
      omega (arith, a, l, s, same)

  pub all_small : length v.costs ≤ max_requests → All IsSmall b.notes.newest
  all_small few k d low =
      let there : k < length (reverse v.history) = (let a = length-map b.notes.newest event_of in let same = ap (λ (es : List Event). length es) whole in omega (arith, low, a, same)) in
      let named = named_in_reverse (length v.costs) v.history kept.of_life.names_requests k (event_of d) there in
      let is : get_or (reverse v.history) k (event_of d) ≡ event_of (get_or b.notes.newest k d) =
      ap (λ (es : List Event). get_or es k (event_of d)) (sym whole) ∙ get_or-map event_of b.notes.newest k d (event_of d) low in
      let small : request_of (event_of (get_or b.notes.newest k d)) < length v.costs = subst (λ (e : Event). request_of e < length v.costs) is named in
      omega (arith, small, few)

-- after a call of the book for life nothing came
module _ (laws : Laws) (b : LifeBookView) (sizes : Sizes) (costs hashes : List ℕ) (log : List Event) (marks : List Bool) (capacity : ℕ)
    (is : IsBatchBook (ledger_with b sizes costs hashes log) b marks capacity) (b' : LifeBookView) (same : SameLifeBook b b')
    (kept : IsLifeKept (life_of (ledger_with b sizes costs hashes log)) b') where
  pub quiet_logged : ledger_with b' sizes costs hashes log ≡ ledger_with b sizes costs hashes log
  quiet_logged = λ i. record { history = reverse log; costs = costs; hashes = hashes; sizes = sizes; limit = kept.of_life.limit i }

  pub quiet : IsBatchBook (ledger_with b' sizes costs hashes log) b' marks capacity
  quiet = subst (λ (w : LedgerView). IsBatchBook w b' marks capacity) (sym quiet_logged) (record {
    kept = kept;
    known = same.known ∙ is.known;
    gate = subst (λ (g : GateId). IsBatchGate g (length costs)) (sym same.gate) is.gate;
    costs = is.costs;
    few = is.few;
    one_hash_each = is.one_hash_each;
    marked = is.marked;
    one_mark_each = is.one_mark_each;
    keeps = same.room ∙ is.keeps;
    room = is.room;
  })

-- after a call of the book for life these events came, with the hands and costs of the opening
module _ (laws : Laws) (b : LifeBookView) (sizes : Sizes) (costs hashes : List ℕ) (log : List Event) (marks : List Bool) (capacity : ℕ)
    (is : IsBatchBook (ledger_with b sizes costs hashes log) b marks capacity) (events : List Event) (b' : LifeBookView) (same : SameLifeBook b b')
    (kept : IsLifeKept (life_of (with events (ledger_with b sizes costs hashes log))) b') where
  abbrev pub old : LedgerView
  old = ledger_with b sizes costs hashes log

  keeps_then : b'.notes.capacity ≡ 2 * length costs
  keeps_then = same.room ∙ is.keeps

  newest_then : map event_of b'.notes.newest ≡ log ++ reverse events
  newest_then = whole laws (with events old) b' kept keeps_then ∙ (reverse-append events (reverse log) ∙ ap (λ (es : List Event). es ++ reverse events) (reverse-reverse log))

  -- the log begins as what is kept then
  pub begun : log ≡ take (length log) (map event_of b'.notes.newest)
  begun = sym (ap (take (length log)) newest_then ∙ take-append_seam log (reverse events))

  pub fits : length b'.notes.newest ≤ capacity
  fits = let few = few_newest laws (with events old) b' kept keeps_then in let room = is.room in omega (arith, few, room)

  pub small_then : All IsSmall b'.notes.newest
  small_then = all_small laws (with events old) b' kept keeps_then is.few

  -- with what is kept then it is the log with these events
  pub logged : (log' : List Event) → log' ≡ map event_of b'.notes.newest → ledger_with b' sizes costs hashes log' ≡ with events old
  logged log' appended =
      let history : reverse log' ≡ events ++ reverse log = ap (λ (es : List Event). reverse es) (appended ∙ whole laws (with events old) b' kept keeps_then) ∙ reverse-reverse (events ++ reverse log) in
      λ i. record { history = history i; costs = costs; hashes = hashes; sizes = sizes; limit = kept.of_life.limit i }

  pub batch_then : (log' : List Event) → log' ≡ map event_of b'.notes.newest → (marks' : List Bool) → ((r : ℕ) → get_or marks' r false ≡ has_arrived (events ++ reverse log) r) → length marks' ≡ length costs
      → (capacity' : ℕ) → capacity' ≡ capacity → IsBatchBook (ledger_with b' sizes costs hashes log') b' marks' capacity'
  batch_then log' appended marks' marked one capacity' room = subst (λ (w : LedgerView). IsBatchBook w b' marks' capacity') (sym (logged log' appended)) (record {
    kept = kept;
    known = same.known ∙ is.known;
    gate = subst (λ (g : GateId). IsBatchGate g (length costs)) (sym same.gate) is.gate;
    costs = is.costs;
    few = is.few;
    one_hash_each = is.one_hash_each;
    marked = marked;
    one_mark_each = one;
    keeps = keeps_then;
    room = let k = is.room in omega (arith, k, room);
  })

-- a Book after a call, beside what it was
pub same_book : (law : Unsettled) (k : BookView) (b b' : LifeBookView) (v v' : LedgerView) (marks : List Bool) (capacity : ℕ) → record { desk = b.desk; ledger = v } ≡ k → SameLifeBook b b' → IsBatchBook v' b' marks capacity
    → SameBook k (record { desk = b'.desk; ledger = v' })
same_book law k b b' v v' marks capacity is same batch =
    subst (λ (x : BookView). SameBook x (record { desk = b'.desk; ledger = v' })) is (record { gate = same.gate; more = same.more; kept = is_kept law v' b' marks capacity batch })

-- dispatches and strikes are of requests that arrived
servings_arrived : (events h : List Event) (r : ℕ) → AreServings events → has_arrived (events ++ h) r ≡ has_arrived h r
servings_arrived [] h r all = refl
servings_arrived (Enter j q ∷ events) h r all = absurd all
servings_arrived (Full j q ∷ events) h r all = absurd all
servings_arrived (Dispatch j q ∷ events) h r all = servings_arrived events h r all
servings_arrived (Strike j q ∷ events) h r all = servings_arrived events h r all

-- where serving stops by a log in which nothing is settled, it stops by its history
stops_in : (law : Unsettled) (v : LedgerView) (known known' : Knowledge) → StopsAt (life_of v) known known' → Stops v known known'
stops_in law v known known' stops = elim stops [
  | inl nothing ↦ inl nothing
  | inr misses ↦ inr (record {
    head = record { queue = misses.queue; request = misses.request; cost = width v.costs misses.request };
    is_next = record {
      is_choice = subst (λ (n : Numbers). IsChoice v.sizes.deck v.costs (waiting v.history) n misses.queue) (law.numbers v.sizes.deck v.costs v.history) misses.is_next.is_choice;
      is_first = misses.is_next.is_first;
      cost_is = refl;
    };
    misses = misses.misses;
  })
]

-- a dispatch of the book for life
module _ (laws : Laws) (law : Unsettled) (b : LifeBookView) (sizes : Sizes) (costs hashes : List ℕ) (log : List Event) (marks : List Bool) (capacity : ℕ)
    (is : IsBatchBook (ledger_with b sizes costs hashes log) b marks capacity) (count : ℕ) (b' : LifeBookView) (same : SameLifeBook b b')
    (served : ServesLife (life_of (ledger_with b sizes costs hashes log)) b count b') where
  pub serves_kept : IsLifeKept (life_of (with served.events (ledger_with b sizes costs hashes log))) b'
  serves_kept = subst (λ (w : LifeView). IsLifeKept w b') (came_in (ledger_with b sizes costs hashes log) served.events) served.kept

  serves_few : length (served.events ++ reverse log) ≤ 20000
  serves_few = let two = short laws (with served.events (ledger_with b sizes costs hashes log)) b' serves_kept (same.room ∙ is.keeps) in let few = is.few in omega (arith, two, few)

  counted : count_by is_dispatch served.events ≡ count
  counted = served.dispatches (let few = serves_few in omega (arith, few))

  pub few_served : count ≤ 20000
  few_served =
      let few = serves_few in let a = count_within is_dispatch served.events in let l = length-append served.events (reverse log) in let c = counted in
      omega (arith, few, a, l, c)

  module _ (log' : List Event) (appended : log' ≡ map event_of b'.notes.newest) where
    pub dispatches_batch : (capacity' : ℕ) → capacity' ≡ capacity → IsBatchBook (ledger_with b' sizes costs hashes log') b' marks capacity'
    dispatches_batch = batch_then laws b sizes costs hashes log marks capacity is served.events b' same serves_kept log' appended marks
        (λ r. is.marked r ∙ sym (servings_arrived served.events (reverse log) r served.servings)) is.one_mark_each

    pub dispatches : (k : BookView) → record { desk = b.desk; ledger = ledger_with b sizes costs hashes log } ≡ k → Dispatches k count (record { desk = b'.desk; ledger = ledger_with b' sizes costs hashes log' })
    dispatches k view =
        let v : LedgerView = ledger_with b sizes costs hashes log in
        let logs : ledger_with b' sizes costs hashes log' ≡ with served.events v = logged laws b sizes costs hashes log marks capacity is served.events b' same serves_kept log' appended in
        let stops : Stops (with served.events v) b.desk.desk.knows b'.desk.desk.knows =
        stops_in law (with served.events v) b.desk.desk.knows b'.desk.desk.knows (subst (λ (w : LifeView). StopsAt w b.desk.desk.knows b'.desk.desk.knows) (came_in v served.events) served.stops) in
        subst (λ (x : BookView). Dispatches x count (record { desk = b'.desk; ledger = ledger_with b' sizes costs hashes log' })) view (record {
          log = record { events = served.events; log = logs; servings = served.servings; dispatches = counted };
          stops = subst (λ (w : LedgerView). Stops w b.desk.desk.knows b'.desk.desk.knows) (sym logs) stops;
          stopped = subst (λ (w : LedgerView). IsStopped w b'.desk.desk.knows) (sym logs) (stopped (with served.events v) b.desk.desk.knows b'.desk.desk.knows same.more stops);
        })

-- a strike of the book for life
pub strike_events : (v : LedgerView) (b : LifeBookView) (r : ℕ) (b' : LifeBookView) (struck : Bool) → StrikesLife (life_of v) b r struck b' → List Event
strike_events v b r b' true strikes = Strike r strikes.0 ∷ []
strike_events v b r b' false strikes = []

strike_kept : (v : LedgerView) (b : LifeBookView) (r : ℕ) (b' : LifeBookView) (struck : Bool) (strikes : StrikesLife (life_of v) b r struck b') → IsLifeKept (life_of (with (strike_events v b r b' struck strikes) v)) b'
unfolding strike_events
strike_kept v b r b' true strikes = strikes.2
strike_kept v b r b' false strikes = strikes.0

strike_arrived : (v : LedgerView) (b : LifeBookView) (r : ℕ) (b' : LifeBookView) (struck : Bool) (strikes : StrikesLife (life_of v) b r struck b') (j : ℕ) → has_arrived (strike_events v b r b' struck strikes ++ v.history) j ≡ has_arrived v.history j
unfolding strike_events
strike_arrived v b r b' true strikes j = refl
strike_arrived v b r b' false strikes j = refl

strikes_out : (v v' : LedgerView) (b : LifeBookView) (r : ℕ) (b' : LifeBookView) (struck : Bool) (strikes : StrikesLife (life_of v) b r struck b') → v' ≡ with (strike_events v b r b' struck strikes) v
    → Strikes b.desk.desk r struck ((q : ℕ) × Contains (waiting v.history q) r) b'.desk.desk → StrikesOut (record { desk = b.desk; ledger = v }) r struck (record { desk = b'.desk; ledger = v' })
unfolding strike_events
strikes_out v v' b r b' true strikes logs reads = record { struck = λ yes. (strikes.0, strikes.1, logs); stays = λ no. absurd (false≢true (sym no)); reads = reads }
strikes_out v v' b r b' false strikes logs reads = record { struck = λ yes. absurd (false≢true yes); stays = λ no. logs; reads = reads }

strike_after : (laws : Laws) (v v' : LedgerView) (b : LifeBookView) (r : ℕ) (b' : LifeBookView) (struck : Bool) (strikes : StrikesLife (life_of v) b r struck b') → IsLifeKept (life_of (with (strike_events v b r b' struck strikes) v)) b'
    → v' ≡ with (strike_events v b r b' struck strikes) v → Strikes b.desk.desk r struck ((q : ℕ) × Contains (waiting v.history q) r) b'.desk.desk
    → AfterStrike (record { desk = b.desk; ledger = v }) r struck (record { desk = b'.desk; ledger = v' })
unfolding strike_events
strike_after laws v v' b r b' true strikes kept logs reads =
    let legal = kept.of_life.fair.0 in
    record {
      told = λ told q member. struck_waits_not v.history r strikes.0 (laws.statuses (hand_in v) v.limit (Strike r strikes.0 ∷ v.history) legal) q (subst (λ (w : LedgerView). Contains (waiting w.history q) r) logs member);
      still_stopped = λ no. absurd (false≢true (sym no));
      nobody_new = λ q j member. strike_adds_none v.history r strikes.0 (laws.follows (hand_in v) v.limit v.history (Strike r strikes.0) legal.1 legal.0) q j (subst (λ (w : LedgerView). Contains (waiting w.history q) j) logs member);
    }
strike_after laws v v' b r b' false strikes kept logs reads = record {
  told = λ told q member. strikes.1 told q (subst (λ (w : LedgerView). Contains (waiting w.history q) r) logs member);
  still_stopped = λ no is. subst (λ (w : LedgerView). IsStopped w b'.desk.desk.knows) (sym logs)
      (subst (λ (d : DeskRecord). IsStopped v d.knows) (sym reads.3.0) (still_stopped v b.desk.desk reads.1 r reads.0 reads.2 is));
  nobody_new = λ q j member. subst (λ (w : LedgerView). Contains (waiting w.history q) j) logs member;
}

module _ (laws : Laws) (b : LifeBookView) (sizes : Sizes) (costs hashes : List ℕ) (log : List Event) (marks : List Bool) (capacity : ℕ)
    (is : IsBatchBook (ledger_with b sizes costs hashes log) b marks capacity) (r : ℕ) (struck : Bool) (b' : LifeBookView) (same : SameLifeBook b b')
    (strikes : StrikesLife (life_of (ledger_with b sizes costs hashes log)) b r struck b') where
  abbrev pub struck_events : List Event
  struck_events = strike_events (ledger_with b sizes costs hashes log) b r b' struck strikes

  pub strikes_kept : IsLifeKept (life_of (with struck_events (ledger_with b sizes costs hashes log))) b'
  strikes_kept = strike_kept (ledger_with b sizes costs hashes log) b r b' struck strikes

  module _ (log' : List Event) (appended : log' ≡ map event_of b'.notes.newest) where
    pub strikes_batch : (capacity' : ℕ) → capacity' ≡ capacity → IsBatchBook (ledger_with b' sizes costs hashes log') b' marks capacity'
    strikes_batch = batch_then laws b sizes costs hashes log marks capacity is struck_events b' same strikes_kept log' appended marks
        (λ j. is.marked j ∙ sym (strike_arrived (ledger_with b sizes costs hashes log) b r b' struck strikes j)) is.one_mark_each

    logs_strike : ledger_with b' sizes costs hashes log' ≡ with struck_events (ledger_with b sizes costs hashes log)
    logs_strike = logged laws b sizes costs hashes log marks capacity is struck_events b' same strikes_kept log' appended

    module _ (k : BookView) (view : record { desk = b.desk; ledger = ledger_with b sizes costs hashes log } ≡ k)
        (reads : Strikes b.desk.desk r struck ((q : ℕ) × Contains (waiting (reverse log) q) r) b'.desk.desk) where
      pub strikes_answer : StrikesOut k r struck (record { desk = b'.desk; ledger = ledger_with b' sizes costs hashes log' })
      strikes_answer = subst (λ (x : BookView). StrikesOut x r struck (record { desk = b'.desk; ledger = ledger_with b' sizes costs hashes log' })) view
          (strikes_out (ledger_with b sizes costs hashes log) (ledger_with b' sizes costs hashes log') b r b' struck strikes logs_strike reads)

      pub strikes_after : AfterStrike k r struck (record { desk = b'.desk; ledger = ledger_with b' sizes costs hashes log' })
      strikes_after = subst (λ (x : BookView). AfterStrike x r struck (record { desk = b'.desk; ledger = ledger_with b' sizes costs hashes log' })) view
          (strike_after laws (ledger_with b sizes costs hashes log) (ledger_with b' sizes costs hashes log') b r b' struck strikes strikes_kept logs_strike reads)

-- the Desk heard a request that did not arrive: it is new still
pub heard_new : (laws : Laws) (v : LedgerView) (b : LifeBookView) (p : PassToken) (b' : LifeBookView) (p' : PassToken) → IsLifeKept (life_of v) b → SameLifeBook b b' → SameRequest p p' → HearsLife b p b' p' → p'.pass.knows.trace ≡ b'.desk.desk.knows.trace
    → p.pass.state ≡ InLine → has_arrived v.history p.pass.number ≡ false → RacedSoFar b p b' p'
heard_new laws v b p b' p' kept same request hears follows in_line new =
    let statuses = laws.statuses (hand_in v) v.limit v.history kept.of_life.fair.0 in
    let trace = heard_trace (record { pass = p.pass; desk = b.desk.desk }) hears.answer.0 (record { pass = p'.pass; desk = b'.desk.desk }) hears.answer.1 in
    record {
      same = same;
      request = request;
      history = hears.history;
      is_new = record {
        in_line = hears.state ∙ in_line;
        away = inr (
          hears.entered ∙ agreed_not_entered v.history statuses b.desk.desk kept.agrees p.pass.number new,
          agreed_away v.history statuses b'.desk.desk (hears.history (life_of v) kept).agrees p'.pass.number (subst (λ (r : ℕ). has_arrived v.history r ≡ false) (sym request.number) new),
        );
      };
      not_cancelled = λ cancelled. hears.told_pass (λ none. (let bad = sym cancelled ∙ none in cc)) ∙ cancelled;
      trace = (trace.0, trace.1 ∙ sym follows);
    }

-- a request that did not arrive has no Enter
no_enter : (laws : Laws) (hands : ℕ → List ℕ) (limit : ℕ) (h : List Event) (r q : ℕ) → IsLegal hands limit h → has_arrived h r ≡ false → ¬ Contains h (Enter r q)
no_enter laws hands limit h r q legal new member =
    let statuses = laws.statuses hands limit h legal in
    let yes = (statuses.entered r).1 (q, member) in
    let away : status h r ≡ status_is.Away = (statuses.away r).1 new in
    false≢true (sym (ap has_entered away) ∙ yes)

-- what its mark says
pub read_mark : (marks : List Bool) (h : List Event) (i r : ℕ) (found : Bool) → ((j : ℕ) → get_or marks j false ≡ has_arrived h j) → i ≡ r → slice_get marks i ≡ Some found → has_arrived h r ≡ found
read_mark marks h i r found marked same read = sym (ap (λ (j : ℕ). has_arrived h j) same) ∙ (sym (marked i) ∙ get_or_from_slice_get marks i found false read)

-- the log has the Enter of the request exactly if that is answered
enter_logged : (laws : Laws) (hands : ℕ → List ℕ) (limit : ℕ) (h : List Event) (r : ℕ) (a : Arrived) → IsLegal hands limit h → has_arrived h r ≡ false → SaysQueued a ↔ ((q : ℕ) × Contains (arrival a r ++ h) (Enter r q))
enter_logged laws hands limit h r (arrived.Queued q) legal new = ((λ _. (q, Contains-append_left (Enter r q ∷ []) h (Enter r q) (Contains-push [] (Enter r q)))), (λ _. tt))
enter_logged laws hands limit h r (arrived.Full q) legal new = (
  (λ no. absurd no),
  (λ logs. elim (Contains-append_cases (Full r q ∷ []) h (Enter r logs.0) logs.1) [
    | inl first ↦ elim (Contains-push_cases [] (Full r q) (Enter r logs.0) first) [
      | inl none ↦ absurd (let low = none.1 in omega arith)
      | inr same ↦ absurd (cc)
    ]
    | inr there ↦ absurd (no_enter laws hands limit h r logs.0 legal new there)
  ]),
)
enter_logged laws hands limit h r arrived.Closed legal new = ((λ no. absurd no), (λ logs. no_enter laws hands limit h r logs.0 legal new logs.1))
enter_logged laws hands limit h r arrived.Cancelled legal new = ((λ no. absurd no), (λ logs. no_enter laws hands limit h r logs.0 legal new logs.1))
enter_logged laws hands limit h r arrived.Again legal new = ((λ no. absurd no), (λ logs. no_enter laws hands limit h r logs.0 legal new logs.1))

unmarked : (marks : List Bool) (h : List Event) (r : ℕ) → r < length marks → ((j : ℕ) → get_or marks j false ≡ has_arrived h j) → has_arrived h r ≡ false → (j : ℕ) → get_or (set marks r false) j false ≡ has_arrived h j
unmarked marks h r low marked new j = elim (cases_eq j r) [
  | inl e ↦ ap (λ (i : ℕ). get_or (set marks r false) i false) e ∙ (get_or-set_same marks r false false low ∙ sym (ap (λ (i : ℕ). has_arrived h i) e ∙ new))
  | inr ne ↦ get_or-set_other marks r j false false ne ∙ marked j
]

-- a request that arrived is marked, and nobody else
marked_then : (marks : List Bool) (h : List Event) (r : ℕ) (a : Arrived) → r < length marks → ((j : ℕ) → get_or marks j false ≡ has_arrived h j) → has_arrived h r ≡ false → (j : ℕ) → get_or (set marks r (is_logged a)) j false ≡ has_arrived (arrival a r ++ h) j
marked_then marks h r (arrived.Queued q) low marked new j = elim (cases_eq j r) [
  | inl e ↦ ap (λ (i : ℕ). get_or (set marks r true) i false) e ∙ (get_or-set_same marks r true false low ∙ sym (ap (λ (x : Bool). x || has_arrived h j) (eq-eqb r j (sym e))))
  | inr ne ↦ get_or-set_other marks r j true false ne ∙ (marked j ∙ sym (ap (λ (x : Bool). x || has_arrived h j) (ne_eqb r j (λ e. ne (sym e)))))
]
marked_then marks h r (arrived.Full q) low marked new j = elim (cases_eq j r) [
  | inl e ↦ ap (λ (i : ℕ). get_or (set marks r true) i false) e ∙ (get_or-set_same marks r true false low ∙ sym (ap (λ (x : Bool). x || has_arrived h j) (eq-eqb r j (sym e))))
  | inr ne ↦ get_or-set_other marks r j true false ne ∙ (marked j ∙ sym (ap (λ (x : Bool). x || has_arrived h j) (ne_eqb r j (λ e. ne (sym e)))))
]
marked_then marks h r arrived.Closed low marked new j = unmarked marks h r low marked new j
marked_then marks h r arrived.Cancelled low marked new j = unmarked marks h r low marked new j
marked_then marks h r arrived.Again low marked new j = unmarked marks h r low marked new j

-- the arrival of a request that was heard, and did not arrive before
module _ (laws : Laws) (b : LifeBookView) (sizes : Sizes) (costs hashes : List ℕ) (log : List Event) (marks : List Bool) (capacity : ℕ)
    (is : IsBatchBook (ledger_with b sizes costs hashes log) b marks capacity) (p : PassToken) (b' : LifeBookView) (p' : PassToken) (far : RacedSoFar b p b' p')
    (new : has_arrived (reverse log) p.pass.number ≡ false) (hand : List ℕ) (cost : ℕ)
    (hand_is : hand ≡ hand_in (ledger_with b sizes costs hashes log) p.pass.number) (cost_is : cost ≡ width costs p.pass.number)
    (a : Arrived) (c : LifeBookView) (u : PassToken) (same : SameLifeBook b' c) (answers : AnswersLifeArrival b' p' hand cost a c u) where
  all_answers : AnswersLifeArrival b p hand cost a c u
  all_answers = answers_then b p b' p' hand cost a c u far answers

  pub arrives_same : SameLifeBook b c
  arrives_same = same_book_then b b' c far.same same

  pub arrives_kept : IsLifeKept (life_of (with (arrival a p.pass.number) (ledger_with b sizes costs hashes log))) c
  arrives_kept =
      let v : LedgerView = ledger_with b sizes costs hashes log in
      let kept = all_answers.history (life_of v) is.kept in
      subst (λ (w : LifeView). IsLifeKept w c) (arrived_as v p.pass.number a)
      (subst (λ (k : ℕ). IsLifeKept (arrived_in (life_of v) p.pass.number (hand_in v p.pass.number) k a) c) cost_is
      (subst (λ (hs : List ℕ). IsLifeKept (arrived_in (life_of v) p.pass.number hs cost a) c) hand_is kept))

  module _ (log' : List Event) (appended : log' ≡ map event_of c.notes.newest) where
    pub arrives_batch : p.pass.number < length costs → (marks' : List Bool) → marks' ≡ set marks p.pass.number (is_logged a) → (capacity' : ℕ) → capacity' ≡ capacity → IsBatchBook (ledger_with c sizes costs hashes log') c marks' capacity'
    arrives_batch low marks' set_is = batch_then laws b sizes costs hashes log marks capacity is (arrival a p.pass.number) c arrives_same arrives_kept log' appended marks'
        (λ j. ap (λ (ms : List Bool). get_or ms j false) set_is
        ∙ marked_then marks (reverse log) p.pass.number a (let one = is.one_mark_each in omega (arith, low, one)) is.marked new j)
        (ap (λ (ms : List Bool). length ms) set_is ∙ (length-set marks p.pass.number (is_logged a) ∙ is.one_mark_each))

    arrives_logged : ledger_with c sizes costs hashes log' ≡ with (arrival a p.pass.number) (ledger_with b sizes costs hashes log)
    arrives_logged = logged laws b sizes costs hashes log marks capacity is (arrival a p.pass.number) c arrives_same arrives_kept log' appended

    module _ (k : BookView) (view : record { desk = b.desk; ledger = ledger_with b sizes costs hashes log } ≡ k) where
      pub arrives_answer : AnswersArrival k p a (record { desk = c.desk; ledger = ledger_with c sizes costs hashes log' }) u
      arrives_answer = subst (λ (x : BookView). AnswersArrival x p a (record { desk = c.desk; ledger = ledger_with c sizes costs hashes log' }) u) view (record {
        log = arrives_logged;
        told = all_answers.told;
        again = ((λ again. absurd (all_answers.first again)), (λ old. absurd (false≢true (sym new ∙ old))));
      })

      pub arrives_after : AfterLifeArrival b' p' a u → AfterArrive k p a (record { desk = c.desk; ledger = ledger_with c sizes costs hashes log' }) u
      arrives_after after = subst (λ (x : BookView). AfterArrive x p a (record { desk = c.desk; ledger = ledger_with c sizes costs hashes log' }) u) view (
          let all = after_then b p b' p' a u far after in
          let enters = enter_logged laws (hand_in (ledger_with b sizes costs hashes log)) b.queues.queues.length_limit (reverse log) p.pass.number a is.kept.of_life.fair.0 new in
          record {
            in_line = all.in_line;
            first = λ _. new;
            entered = (
              (λ yes. (let there = enters.0 (all.entered.0 yes) in (there.0, subst (λ (w : LedgerView). Contains w.history (Enter p.pass.number there.0)) (sym arrives_logged) there.1))),
              (λ logs. all.entered.1 (enters.1 (logs.0, subst (λ (w : LedgerView). Contains w.history (Enter p.pass.number logs.0)) arrives_logged logs.1))),
            );
            stays_closed = all.stays_closed;
            cancelled_first = all.cancelled_first;
            cancelled_seen = all.cancelled_seen;
          })

-- a request that arrived before, and was heard
module _ (laws : Laws) (b : LifeBookView) (v v' : LedgerView) (p : PassToken) (b' : LifeBookView) (p' : PassToken)
    (kept : IsLifeKept (life_of v) b) (same : SameLifeBook b b') (hears : HearsLife b p b' p') (logs : v' ≡ v) (old : has_arrived v.history p.pass.number ≡ true)
    (k : BookView) (view : record { desk = b.desk; ledger = v } ≡ k) where
  pub again_answer : AnswersArrival k p arrived.Again (record { desk = b'.desk; ledger = v' }) p'
  again_answer = subst (λ (x : BookView). AnswersArrival x p arrived.Again (record { desk = b'.desk; ledger = v' }) p') view (record { log = logs; told = tt; again = ((λ _. old), (λ _. refl)) })

  pub again_after : p.pass.state ≡ InLine → AfterArrive k p arrived.Again (record { desk = b'.desk; ledger = v' }) p'
  again_after in_line = subst (λ (x : BookView). AfterArrive x p arrived.Again (record { desk = b'.desk; ledger = v' }) p') view (
      let statuses = laws.statuses (hand_in v) v.limit v.history kept.of_life.fair.0 in
      record {
        in_line = hears.state ∙ in_line;
        first = λ never. agreed_new v.history statuses b.desk.desk kept.agrees p.pass.number (hears.not_handed never);
        entered = subst (λ (w : LedgerView). (p'.pass.entered ≡ true) ↔ ((q : ℕ) × Contains w.history (Enter p.pass.number q))) (sym logs)
            (agreed_entered v.history statuses b.desk.desk kept.agrees p.pass.number p'.pass.entered hears.entered);
        stays_closed = λ _ no. no;
        cancelled_first = λ _ no. no;
        cancelled_seen = λ _ no. no;
      })

low_costs : (costs : List ℕ) → AreCosts costs → (r : ℕ) → width costs r ≤ max_cost
low_costs costs are r = elim (cases_lt r (length costs)) [
  | inl inside ↦ (are r inside).1
  | inr past ↦ (let none = get_or_past costs r 0 past in omega (arith, none))
]

-- a batch's book in which nothing happened yet
module _ (config : Config) (asks : List Ask) (given : DeskToken) (b : LifeBookView) (sizes : Sizes) (costs hashes : List ℕ) (log : List Event) (marks : List Bool) (capacity : ℕ)
    (begins : IsDeskFor asks given) (charged : AreCostsFor asks costs) (shape : IsShape given.desk.knows.shape)
    (desk : b.desk ≡ given) (keeps : b.notes.capacity ≡ 2 * length asks) (known : b.queues.known ≡ true)
    (opens : (v : LifeView) → IsOpening v config.queues config.queue_length_limit → length v.costs ≡ length given.desk.knows.shape.widths → IsLifeKept v b)
    (sizes_are : (sizes.deck ≡ config.queues) × (sizes.hand ≡ config.hand_size)) (hashes_are : hashes ≡ map (λ (a : Ask). a.hash) asks) (empty : log ≡ [])
    (unmarked : marks ≡ replicate (length asks) false) (room : 2 * length asks ≤ capacity) where
  abbrev opening : LedgerView
  opening = opening_ledger_with config asks costs

  many : length asks ≡ length given.desk.knows.shape.widths
  many = sym (length-map asks (λ (a : Ask). a.width)) ∙ ap (λ (ws : List ℕ). length ws) begins.widths

  few_asks : length asks ≤ max_requests
  few_asks = let batch = begins.batch in let few = shape.few_slots in let m = many in omega (arith, batch, few, m)

  begins_kept : IsLifeKept (life_of opening) b
  begins_kept = opens (life_of opening) (record { nothing = refl; no_log = refl; queues_are = refl; limit_is = refl; low = low_costs costs charged.costs; few = let one = charged.one_cost_each in let few = few_asks in omega (arith, one, few) })
      (charged.one_cost_each ∙ many)

  pub begins_as : ledger_with b sizes costs hashes log ≡ opening
  begins_as = λ i. record {
    history = reverse (empty i);
    costs = costs;
    hashes = hashes_are i;
    sizes = record { deck = sizes_are.0 i; hand = sizes_are.1 i };
    limit = begins_kept.of_life.limit i;
  }

  pub begins_batch : IsBatchBook (ledger_with b sizes costs hashes log) b marks capacity
  begins_batch = subst (λ (v : LedgerView). IsBatchBook v b marks capacity) (sym begins_as) (record {
    kept = begins_kept;
    known = known;
    gate = subst (λ (t : DeskToken). IsBatchGate (desk_gate t) (length costs)) (sym desk) (record { has_queues = begins.has_queues; batch = begins.batch; one_slot_each = sym begins.batch ∙ (sym many ∙ sym charged.one_cost_each) });
    costs = charged.costs;
    few = let one = charged.one_cost_each in let few = few_asks in omega (arith, one, few);
    one_hash_each = length-map asks (λ (a : Ask). a.hash) ∙ sym charged.one_cost_each;
    marked = λ r. ap (λ (ms : List Bool). get_or ms r false) unmarked ∙ no_mark (length asks) r;
    one_mark_each = ap (λ (ms : List Bool). length ms) unmarked ∙ (length-replicate (length asks) false ∙ sym charged.one_cost_each);
    keeps = let one = charged.one_cost_each in omega (arith, keeps, one);
    room = let one = charged.one_cost_each in omega (arith, room, one);
  })

  pub begins_at_rest : (known : Knowledge) → IsStopped (ledger_with b sizes costs hashes log) known
  begins_at_rest knows = begins_stopped (ledger_with b sizes costs hashes log) knows (ap (λ (es : List Event). reverse es) empty)

-- how many events a batch's book has, and the numbers of them
pub short_log : (laws : Laws) (v : LedgerView) (b : LifeBookView) (marks : List Bool) (capacity : ℕ) → IsBatchBook v b marks capacity → length v.history ≤ 20000
short_log laws v b marks capacity is = let two = short laws v b is.kept is.keeps in let few = is.few in omega (arith, two, few)

pub record AreFew (s : LifeStats) (h : List Event) : Type 0 where
  pub entered : s.entered ≤ 20000
  pub dispatched : s.dispatched ≤ 20000
  pub struck : s.struck ≤ 20000
  pub full : s.full ≤ 20000
  pub gone : s.dispatched + s.struck ≤ s.entered
  pub are : AreLifeStats s h
  pub waiting : (deck : ℕ) → NamesQueues deck h → s.entered - s.dispatched - s.struck ≡ (stats_of deck h).waiting

pub are_few : (laws : Laws) (v : LedgerView) (b : LifeBookView) (marks : List Bool) (capacity : ℕ) (s : LifeStats) → IsBatchBook v b marks capacity → AreLifeStats s v.history → AreFew s v.history
are_few laws v b marks capacity s is stats =
    let most = short_log laws v b marks capacity is in
    let counts = laws.numbers (hand_in v) v.limit v.history is.kept.of_life.fair.0 in
    let all = counts.of_queues v.sizes.deck is.kept.of_life.names_queues in
    let a = stats.entered in let d = stats.dispatched in let k = stats.struck in let f = stats.full in
    let e1 = count_within is_enter v.history in let d1 = count_within is_dispatch v.history in let k1 = count_within is_strike v.history in let f1 = count_within is_full v.history in
    record {
      entered = omega (arith, most, a, e1);
      dispatched = omega (arith, most, d, d1);
      struck = omega (arith, most, k, k1);
      full = omega (arith, most, f, f1);
      gone = omega (arith, a, d, k, all);
      are = stats;
      waiting = λ deck names. (let here = counts.of_queues deck names in omega (arith, a, d, k, here));
    }
