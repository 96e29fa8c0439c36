-- The newest events of a history, and how many there ever were of each kind.
use Rattle.std.specs.Prelude.{◌≡◌, ℕ, ◌-◌, ◌^◌, ◌<◌, List, length, map, take, drop, reverse, max, min, count_by}
use Rattle.circular_buffer.specs.Buffer.{keep_last}
use Rattle.apf_history.specs.declared.events.Event.{Event}
use Rattle.apf_history.specs.declared.events.Event.TheVariants as events
use Rattle.apf_model.specs.History.{request_of}
use Rattle.apf_model.specs.Outcome.{is_enter, is_full, is_dispatch, is_strike}
use Rattle.apf_book.specs.declared.life_event.LifeEvent.{LifeEvent}
use Rattle.apf_book.specs.declared.life_event.LifeEvent.TheVariants as life
use Rattle.apf_book.specs.declared.life_stats.LifeStats.{LifeStats}
use Rattle.apf_book.specs.declared.recent_events.Copied.{Copied}
use Rattle.apf_book.specs.LedgerKept.{AreRunning}

-- the event of the history: its request is the one that the ticket names
abbrev pub event_of : LifeEvent → Event
event_of (life.Enter t q) = events.Enter t.number q
event_of (life.Full t q) = events.Full t.number q
event_of (life.Dispatch t q) = events.Dispatch t.number q
event_of (life.Strike t q) = events.Strike t.number q

-- the number of its request is below 2^32, as each of a batch is
abbrev pub IsSmall : LifeEvent → Type 0
IsSmall e = request_of (event_of e) < 2 ^ 32

-- what is noted: the newest events, the oldest of them first, how many there is room for, and the numbers of all
pub record RecentEventsView : Type 0 where
  pub newest : List LifeEvent
  pub capacity : ℕ
  pub entered : ℕ
  pub dispatched : ℕ
  pub struck : ℕ
  pub full : ℕ

-- the notes are of this history, whose newest event stands first: its newest events, as many as there is room for, and how many of each kind, of fewer than 2^64
pub record AreRecentEventsOf (h : List Event) (n : RecentEventsView) : Type 0 where
  pub newest_are : map event_of n.newest ≡ keep_last n.capacity (reverse h)
  pub counted : length h < 2 ^ 64 → AreRunning h n.entered n.dispatched n.struck n.full

-- these are the numbers of this history
pub record AreLifeStats (s : LifeStats) (h : List Event) : Type 0 where
  pub entered : s.entered ≡ count_by is_enter h
  pub dispatched : s.dispatched ≡ count_by is_dispatch h
  pub struck : s.struck ≡ count_by is_strike h
  pub full : s.full ≡ count_by is_full h

-- of a history of which this many of the newest events are kept, events were copied from this place on or, where that is no longer kept, from the oldest that is; as many as there are, or as there is room for. The rest of the room is as it was
pub record CopiesLate (capacity : ℕ) (h : List Event) (from : ℕ) (into : List LifeEvent) (answer : Copied) (into' : List LifeEvent) : Type 0 where
  pub start : answer.from ≡ max from (length h - capacity)
  pub count_is : answer.count ≡ min (length h - answer.from) (length into)
  pub copied : map event_of (take answer.count into') ≡ take answer.count (drop answer.from (reverse h))
  pub rest : drop answer.count into' ≡ drop answer.count into
  pub room : length into' ≡ length into
