-- What the end of a level tells.
use Rattle.std.specs.Prelude.{◌≡◌, ◌⊎◌, ℕ, ◌-◌, ◌*◌, ◌^◌, ◌<◌, true, List, [], length, map, drop, reverse, Contains, Option, Some, None}
use Rattle.apf_words.specs.declared.decision.Decision.{Decision}
use Rattle.apf_words.specs.declared.decision.Decision.TheVariants.{Execute, QueueFull, Cancelled}
use Rattle.apf_history.specs.declared.events.Event.{Event}
use Rattle.apf_history.specs.declared.events.Event.TheVariants.{Full, Dispatch, Strike}
use Rattle.apf_model.specs.declared.response.Response.TheVariants.{Reject}
use Rattle.apf_model.specs.declared.moves.Stage.TheVariants.{Away}
use Rattle.apf_gate.specs.declared.record.PassRecord.{PassRecord}
use Rattle.apf_gate.specs.declared.record.DeskRecord.{DeskRecord}
use Rattle.apf_gate.specs.Traces.{world_of}
use Rattle.apf_gate.specs.Tokens.{PassToken, StationToken, desk_gate}
use Rattle.apf_gate.specs.LifeEnds.{LifeAgrees}
use Rattle.apf_book.specs.Agreeing.{IsDeskOf}
use Rattle.apf_book.specs.Life.{LifeView}
use Rattle.apf_book.specs.LifeBook.{NobodyWaits}
use Rattle.apf_book.specs.RecentEvents.{event_of, AreLifeStats}
use Rattle.apf_line.specs.declared.report.Newest.{Newest}
use Rattle.apf_line.specs.declared.report.Closing.{Closing}
use Rattle.apf_line.specs.declared.report.Report.{Report}
use Rattle.apf_line.specs.Levels.{LifeId, IsHistoryOf}

-- the newest events of a history, as many as are kept, and the numbers of all
pub record AreNewest (capacity : ℕ) (h : List Event) (n : Newest) : Type 0 where
  pub from_is : n.from ≡ length h - capacity
  pub events_are : map event_of n.events.items ≡ drop n.from (reverse h)
  pub stats_are : AreLifeStats n.stats h

-- the history is one of the level that its Desk's steps say, with its newest events, of fewer than 2^64 that there ever were
pub record ClosesAs (k : LifeId) (v : LifeView) (c : Closing) : Type 0 where
  pub of_level : IsHistoryOf k c.desk.desk.knows.trace v
  pub gate : desk_gate c.desk ≡ k.gate
  pub agrees : IsDeskOf v.history c.desk.desk
  pub logs_nothing : k.gate.shape.response ≡ Reject → v.history ≡ []
  pub newest : length v.history < 2 ^ 64 → AreNewest (2 * k.gate.shape.slots) v.history c.newest

-- a history of the level that its Desk's steps say
pub record Closes (k : LifeId) (c : Closing) : Type 0 where
  pub view : LifeView
  pub closes_as : ClosesAs k view c

-- history and decisions agree: each dispatched request is executed, each struck one cancelled, and those with a Full event are those decided queue-full. Each executed one was dispatched, or its Pass took its seats on arrival
pub record HistoryAgrees (numbers : ℕ) (h : List Event) (decision : ℕ → Option Decision) (pass : ℕ → PassRecord) : Type 0 where
  pub dispatched : (r q : ℕ) → r < numbers → Contains h (Dispatch r q) → decision r ≡ Some Execute
  pub struck : (r q : ℕ) → Contains h (Strike r q) → decision r ≡ Some Cancelled
  pub full : (r q : ℕ) → r < numbers → Contains h (Full r q) → decision r ≡ Some QueueFull
  pub was_full : (r : ℕ) → r < numbers → decision r ≡ Some QueueFull → (q : ℕ) × Contains h (Full r q)
  pub executed : (r : ℕ) → r < numbers → decision r ≡ Some Execute → ((q : ℕ) × Contains h (Dispatch r q)) ⊎ ((pass r).took ≡ true)

-- what a level of this history told when it ended, of the slots and Stations that were handed in, and of all requests that ever held a slot
pub record EndedAs (k : LifeId) (v : LifeView) (slots : List PassToken) (stations : List StationToken) (r : Report) : Type 0 where
  -- no seat is taken, and nobody is counted as waiting
  pub drained : (r.words.level.seats ≡ 0) × (r.words.level.waiters ≡ 0)
  -- each slot has its line
  pub count : length r.words.decisions ≡ k.gate.shape.slots
  -- the history is legal and fair, and nobody waits. Each request has the hand and the cost that it asked for, by what the Desk's steps found
  pub desk : DeskRecord
  pub of_level : IsHistoryOf k desk.knows.trace v
  pub nobody_waits : NobodyWaits v
  pub logs_nothing : k.gate.shape.response ≡ Reject → v.history ≡ []
  pub newest : length v.history < 2 ^ 64 → AreNewest (2 * k.gate.shape.slots) v.history r.newest
  -- the Desk's steps say the history, and the words agree with the tokens: each request that was ever decided stands once among all, with the decision that everybody was told, and is counted
  pub says : IsDeskOf v.history desk
  pub words_agree : LifeAgrees k.gate desk slots stations r.words
  -- who is undecided never began
  pub all_decided : (i : ℕ) → i < length k.gate.shape.widths → (world_of k.gate.shape words_agree.trace).decision i ≡ None → (world_of k.gate.shape words_agree.trace).stage i ≡ Away
  pub agrees : HistoryAgrees (length k.gate.shape.widths) v.history (λ (i : ℕ). (world_of k.gate.shape words_agree.trace).decision i) words_agree.pass

-- what a level told when it ended, of a history that it had
pub record Ended (k : LifeId) (slots : List PassToken) (stations : List StationToken) (r : Report) : Type 0 where
  pub view : LifeView
  pub ended_as : EndedAs k view slots stations r

-- the same, of a level whose Desk did this
pub record EndedBy (desk : DeskRecord) (k : LifeId) (v : LifeView) (slots : List PassToken) (stations : List StationToken) (r : Report) : Type 0 where
  pub ended_as : EndedAs k v slots stations r
  pub desk_is : ended_as.desk ≡ desk
