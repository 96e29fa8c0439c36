-- What is promised of a level, in the order and the words of the front page, and of one that has ended. Of its steps the newest stands first, and of the events of its queues too.
use Rattle.std.specs.Prelude.{◌≡◌, ℕ, ◌+◌, ◌*◌, ◌<◌, ◌≤◌, not, List, [], ◌∷◌, ◌++◌, length, map, filter, count_by, Contains, All, Some, None}
use Rattle.apf_words.specs.declared.decision.Decision.{Decision}
use Rattle.apf_words.specs.declared.decision.Decision.TheVariants.{Execute, QueueFull, Closed, Cancelled, ConcurrencyLimit}
use Rattle.apf_history.specs.declared.events.Event.{Event}
use Rattle.apf_history.specs.declared.events.Event.TheVariants.{Enter, Dispatch, Strike}
use Rattle.apf_history.specs.declared.events.LogEntry.{LogEntry}
use Rattle.apf_history.specs.declared.events.LogEntry.TheVariants.{Happens}
use Rattle.apf_history.specs.Standing.{EachNames}
use Rattle.apf_model.specs.declared.moves.Move.{Move}
use Rattle.apf_model.specs.declared.moves.Move.TheVariants.{Close}
use Rattle.apf_model.specs.declared.moves.Stage.TheVariants.{Away}
use Rattle.apf_model.specs.World.{Opening, World, width}
use Rattle.apf_model.specs.Schedule.{world, Alone, arrives, is_decided}
use Rattle.apf_model.specs.History.{entered, waiting}
use Rattle.apf_model.specs.Order.{is_struck, dispatched_from, is_dispatch_of}
use Rattle.apf_model.specs.Charged.{events, log_of, seat_time, AreMeasures, AreJudged, IsNeverEmptyIn}
use Rattle.apf_model.specs.Fair.{service, widest, IsNeverEmpty}
use Rattle.apf_model.specs.Waits.{total_width, total_time}
use Rattle.apf_gate.specs.declared.record.DeskRecord.{DeskRecord}
use Rattle.apf_gate.specs.declared.record.Entry.{Entry}
use Rattle.apf_gate.specs.Counted.{decided_so}
use Rattle.apf_gate.specs.Ends.{IsLongest, WasTold}
use Rattle.apf_gate.specs.LifeEnds.{NoneTwice}
use Rattle.apf_gate.specs.Records.{level_of}
use Rattle.apf_gate.specs.Tokens.{PassToken, StationToken}
use Rattle.apf_gate.specs.Traces.{opening_of, moves, world_of}
use Rattle.apf_book.specs.Life.{LifeView, AreAsked}
use Rattle.apf_book.specs.Said.{saying, sayings}
use Rattle.apf_line.specs.declared.report.Report.{Report}
use Rattle.apf_line.specs.Levels.{LifeId}

-- Each request's decision is written at most once, and every caller gets that decision
pub record OneDecision (o : Opening) (steps : List Move) (WasTold : ℕ → Decision → Type 0) : Type 0 where
  pub written_once : (r : ℕ) → count_by (is_decided r) steps ≤ 1
  pub told : (r : ℕ) (decision : Decision) → WasTold r decision → (world o steps).decision r ≡ Some decision

-- Each queue serves its requests in the order in which they entered, each once. A request that is cancelled while it waits is taken out of its queue, and the others keep their order
pub record InOrder (w : World) (h : List Event) : Type 0 where
  -- at every moment those that entered a queue, the struck ones left out, are those that it served, in order, and then those that wait in it
  pub in_order : (later earlier : List Event) → later ++ earlier ≡ h → (q : ℕ) → filter (λ r. not (is_struck earlier r)) (entered earlier q) ≡ dispatched_from earlier q ++ waiting earlier q
  pub each_once : (r : ℕ) → count_by (is_dispatch_of r) h ≤ 1
  pub served_is_executed : (r q : ℕ) → Contains h (Dispatch r q) → w.decision r ≡ Some Execute
  pub struck_is_cancelled : (r q : ℕ) → Contains h (Strike r q) → w.decision r ≡ Some Cancelled

-- Once the level is closed, no arriving request takes seats or enters a queue
abbrev pub ClosedStaysClosed : List Move → Type 0
ClosedStaysClosed steps = (later earlier : List Move) (r : ℕ) → later ++ Close ∷ earlier ≡ steps → count_by (arrives r) later ≡ 0

-- At every moment the seats in use do not pass the largest limit so far; or one request has them alone, which is wider than that
abbrev pub WithinTheLimit : Opening → List Move → Type 0
WithinTheLimit o steps = (later earlier : List Move) → later ++ earlier ≡ steps → Alone o.widths (world o earlier)

-- The executed, the rejected and the cancelled sum to the requests
pub record AddsUp (numbers : ℕ) (w : World) (executed rejected cancelled : ℕ) : Type 0 where
  -- the requests that were decided, each once, with its decision
  pub all : List (ℕ × Decision)
  pub once : NoneTwice all
  pub no_others : All (λ (one : ℕ × Decision). w.decision one.0 ≡ Some one.1) all
  pub each : (r : ℕ) (decision : Decision) → r < numbers → w.decision r ≡ Some decision → Contains all (r, decision)
  pub undecided_never_came : (r : ℕ) → r < numbers → w.decision r ≡ None → w.stage r ≡ Away
  pub executed_are : executed ≡ decided_so Execute all
  pub rejected_are : rejected ≡ decided_so QueueFull all + decided_so Closed all + decided_so ConcurrencyLimit all
  pub cancelled_are : cancelled ≡ decided_so Cancelled all
  pub sum : executed + rejected + cancelled ≡ length all

-- No queue starves, in the costs of the requests that arrived
pub record NoQueueStarves (queues : ℕ) (costs : List ℕ) (log : List LogEntry) (h : List Event) : Type 0 where
  -- where nothing is settled: while a request waits, each other queue is given at most twice the largest cost more than the requests ahead of it in its own queue take
  pub while_one_waits : (later stretch earlier : List Event) (q r other : ℕ) → log ≡ log_of h → h ≡ later ++ (stretch ++ Enter r q ∷ earlier) → Contains (waiting (stretch ++ Enter r q ∷ earlier) q) r
      → q < queues → other < queues → service costs stretch other ≤ total_width costs (waiting earlier q) + 2 * widest costs
  -- and while a queue stays non-empty, each other queue is given at most twice the largest cost more than it is
  pub while_never_empty : (later stretch earlier : List Event) (q other : ℕ) → log ≡ log_of h → h ≡ later ++ (stretch ++ earlier) → IsNeverEmpty (stretch ++ earlier) (length stretch) q
      → q < queues → other < queues → service costs stretch other ≤ service costs stretch q + 2 * widest costs
  -- whatever is settled: while a queue stays non-empty, the requests of each other queue take at most twice the largest cost, and three times what those that execute are misjudged by, more seat-time than its own
  pub in_seat_time : (measure : ℕ → ℕ) (slack : ℕ) (later stretch earlier : List LogEntry) (q other : ℕ) → log ≡ later ++ (stretch ++ earlier) → AreMeasures measure (stretch ++ earlier) → AreJudged slack costs measure (stretch ++ earlier)
      → IsNeverEmptyIn (stretch ++ earlier) (length stretch) q → q < queues → other < queues → seat_time measure stretch other ≤ seat_time measure stretch q + 2 * widest costs + 3 * slack
  -- and while a request waits, those of each other queue take at most as much more seat-time than the requests ahead of it in its own queue
  pub wait_in_seat_time : (measure : ℕ → ℕ) (slack : ℕ) (later stretch earlier : List LogEntry) (q r other : ℕ) → log ≡ later ++ (stretch ++ Happens (Enter r q) ∷ earlier) → AreMeasures measure (stretch ++ Happens (Enter r q) ∷ earlier) → AreJudged slack costs measure (stretch ++ Happens (Enter r q) ∷ earlier)
      → Contains (waiting (events (stretch ++ Happens (Enter r q) ∷ earlier)) q) r → q < queues → other < queues → seat_time measure stretch other ≤ total_time measure (waiting (events earlier) q) + 2 * widest costs + 3 * slack

-- No chosen request is forgotten: in the end nobody is left waiting
abbrev pub NobodyIsLeft : List Event → Type 0
NobodyIsLeft h = (q : ℕ) → waiting h q ≡ []

-- what is promised of a level that was opened so, and has this many numbers of requests, made these steps, and whose queues had these events, with what was settled between them; and of what its report tells, and what anybody was told
pub record Promises (o : Opening) (numbers : ℕ) (steps : List Move) (queues : ℕ) (cost : ℕ → ℕ) (log : List LogEntry) (h : List Event) (WasTold : ℕ → Decision → Type 0) (executed rejected cancelled : ℕ) : Type 0 where
  pub one_decision : OneDecision o steps WasTold
  pub in_order : InOrder (world o steps) h
  pub closed_stays_closed : ClosedStaysClosed steps
  pub within_the_limit : WithinTheLimit o steps
  pub it_adds_up : AddsUp numbers (world o steps) executed rejected cancelled
  pub no_queue_starves : (costs : List ℕ) → EachNames (λ r. width costs r ≡ cost r) h → NoQueueStarves queues costs log h
  pub no_chosen_request_is_forgotten : NobodyIsLeft h

-- what the report of a level for life keeps, with this history of its queues. The slots and the Stations were handed in
pub record KeepsPromises (k : LifeId) (v : LifeView) (slots : List PassToken) (stations : List StationToken) (r : Report) : Type 0 where
  -- the Desk that was in the level, and the steps that all tokens made: what the token saw that stepped last
  pub desk : DeskRecord
  pub trace : List Entry
  pub longest : IsLongest k.gate desk slots stations trace
  -- the history is what the Desk did, in its order. Each request has the hand of queues and the cost that it asked for when it came
  pub said : map saying v.history ≡ sayings desk.knows.trace
  pub asked : AreAsked k.sizes desk.knows.trace v.costs v.hands v.history
  -- what was settled stands between its events. The level word is that of the end
  pub events_are : events v.log ≡ v.history
  pub level : r.words.level ≡ level_of k.gate.shape.widths (world_of k.gate.shape trace)
  pub promises : Promises (opening_of k.gate.shape) (length k.gate.shape.widths) (moves trace) v.queues (width v.costs) v.log v.history (WasTold desk slots stations)
      r.words.counts.executed (r.words.counts.queue_full + r.words.counts.closed + r.words.counts.concurrency_limit) r.words.counts.cancelled
