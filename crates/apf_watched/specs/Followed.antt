-- A log of a level, and what is kept of it.
use Rattle.std.specs.Prelude.{◌≡◌, ℕ, ◌^◌, ◌<◌, true, List, [], ◌∷◌, length, map, drop, reverse, slice_get, Option, Some, None}
use Rattle.apf_history.specs.declared.events.Event.{Event}
use Rattle.apf_history.specs.declared.events.LogEntry.{LogEntry}
use Rattle.apf_history.specs.declared.events.LogEntry.TheVariants.{Happens, Spends, Settles}
use Rattle.apf_history.specs.Numbered.{width}
use Rattle.apf_history.specs.History.{has_arrived}
use Rattle.apf_history.specs.Charged.{AreMeasures}
use Rattle.apf_gate.specs.declared.ticket.Ticket.{Ticket}
use Rattle.apf_book.specs.declared.life_event.LifeEvent.{LifeEvent}
use Rattle.apf_book.specs.Life.{LifeView}
use Rattle.apf_book.specs.LifeBook.{IsLifeKept}
use Rattle.apf_book.specs.RecentEvents.{event_of}
use Rattle.apf_bound.specs.declared.bound.Sides.{Sides}
use Rattle.apf_bound.specs.Bounds.{AreSides}
use Rattle.apf_bound.specs.Kept.{BoundView, IsKeptOf, IsRanged, queues_of}
use Rattle.apf_local.specs.declared.answer.Settlement.{Settlement}
use Rattle.apf_local.specs.Levels.{LocalView}
use Rattle.apf_watched.specs.declared.note.Note.{Note}
use Rattle.apf_watched.specs.declared.watch.Watch.{Watch}
use Rattle.apf_watched.specs.Notes.{AreOf, IsNoteOf, entered_by, with_note}

-- a log with these events more, of which the oldest stands first
abbrev pub with_events : List LifeEvent → List LogEntry → List LogEntry
with_events [] l = l
with_events (e ∷ es) l = with_events es (Happens (event_of e) ∷ l)

-- just these events were told, each once and in their order, with what each one's request costs and takes by its note
pub record TellsEvents (notes : List (Option Note)) (events : List LifeEvent) (before after : BoundView) : Type 0 where
  pub queues : queues_of after ≡ queues_of before
  pub told : (costs : List ℕ) (measure : ℕ → ℕ) (hands : ℕ → List ℕ) (limit : ℕ) (l : List LogEntry)
      → AreOf costs measure notes → IsKeptOf costs measure hands limit l before → IsKeptOf costs measure hands limit (with_events events l) after

-- the request that entered a queue by this event was noted, if one did
pub record HasNoted (event : Option LifeEvent) (cost takes : ℕ) (w w' : Watch) : Type 0 where
  pub notes : w'.notes.items ≡ with_note (entered_by event) cost takes w.notes.items
  pub bound : w'.bound ≡ w.bound
  pub seen : w'.seen ≡ w.seen

-- just this settlement was told, of a request that is noted, and took what its note says
pub record TellsSettlement (t : Ticket) (s : Settlement) (w w' : Watch) : Type 0 where
  pub note : Note
  pub is : IsNoteOf w.notes.items t note
  pub takes : note.takes ≡ s.took
  pub notes : w'.notes ≡ w.notes
  pub seen : w'.seen ≡ w.seen
  pub queues : queues_of w'.bound ≡ queues_of w.bound
  pub told : (costs : List ℕ) (measure : ℕ → ℕ) (hands : ℕ → List ℕ) (limit : ℕ) (l : List LogEntry)
      → IsKeptOf costs measure hands limit l w.bound → IsKeptOf costs measure hands limit (Settles t.number s.charge.queue s.charge.amount s.took ∷ l) w'.bound

-- the same, or nothing was settled, and nothing was told
abbrev pub IsSettled : Ticket → Option Settlement → Watch → Watch → Type 0
IsSettled t None w w' = w' ≡ w
IsSettled t (Some s) w w' = TellsSettlement t s w w'

-- of each history of the level, of fewer than 2^64 events: just those were told that came since it was read last, and all of them
pub record ReadsAll (l : LocalView) (w w' : Watch) : Type 0 where
  pub events : List LifeEvent
  pub tells : TellsEvents w.notes.items events w.bound w'.bound
  pub notes : w'.notes ≡ w.notes
  pub read : (v : LifeView) → IsLifeKept v l.owner.book → length v.history < 2 ^ 64
      → (map event_of events ≡ drop w.seen (reverse v.history)) × (w'.seen ≡ length v.history)

-- of each request that arrived by this history, the second numbers are as the first
pub record Agree (h : List Event) (costs : List ℕ) (measure : ℕ → ℕ) (costs' : List ℕ) (measure' : ℕ → ℕ) : Type 0 where
  pub costs_are : (r : ℕ) → has_arrived h r ≡ true → width costs' r ≡ width costs r
  pub measures_are : (r : ℕ) → has_arrived h r ≡ true → measure' r ≡ measure r

-- each settlement is of what its request took, which arrived by this history
abbrev pub AreSettled : List Event → (ℕ → ℕ) → List LogEntry → Type 0
AreSettled h measure [] = Unit {0}
AreSettled h measure (Happens e ∷ l) = AreSettled h measure l
AreSettled h measure (Spends r q old new ∷ l) = AreSettled h measure l
AreSettled h measure (Settles r q old new ∷ l) = (new ≡ measure r) × (has_arrived h r ≡ true) × AreSettled h measure l

-- all of this log was told: its events, and what its requests that were settled took
pub record IsToldOf (v : LifeView) (measure : ℕ → ℕ) (w : Watch) : Type 0 where
  pub seen : w.seen ≡ length v.history
  pub settled : AreSettled v.history measure v.log
  pub told : (costs : List ℕ) (measure' : ℕ → ℕ) (hands : ℕ → List ℕ) (limit : ℕ) → Agree v.history v.costs measure costs measure' → IsKeptOf costs measure' hands limit v.log w.bound

-- There is a log that the level was of, if it has fewer than 2^64 events, of which all was told. Each request that is noted arrived, and costs and takes what its note says
pub record IsFollowedBy (l : LocalView) (w : Watch) : Type 0 where
  pub view : LifeView
  pub measure : ℕ → ℕ
  pub kept : IsLifeKept view l.owner.book
  pub queues : queues_of w.bound ≡ view.queues
  pub arrived : (slot : ℕ) (n : Note) → slice_get w.notes.items slot ≡ Some (Some n) → has_arrived view.history n.ticket.number ≡ true
  pub noted : AreOf view.costs measure w.notes.items
  pub tells : length view.history < 2 ^ 64 → IsToldOf view measure w

abbrev pub IsFollowed : LocalView → Option Watch → Type 0
IsFollowed l None = Unit {0}
IsFollowed l (Some w) = IsFollowedBy l w

-- These are both sides of the bound, of a log that the level was of, if it has fewer than 2^64 events and no sum of its numbers passes 64 bits. What its requests took is what they were settled with
pub record AreSidesIn (l : LocalView) (s : Sides) : Type 0 where
  pub view : LifeView
  pub measure : ℕ → ℕ
  pub kept : IsLifeKept view l.owner.book
  pub measures : length view.history < 2 ^ 64 → AreMeasures measure view.log
  pub sides : length view.history < 2 ^ 64 → IsRanged view.costs measure view.log → AreSides view.queues view.costs measure view.log s
