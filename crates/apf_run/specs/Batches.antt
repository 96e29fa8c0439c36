-- A batch on a level of one thread, by the slots of its requests.
use Rattle.std.specs.Prelude.{◌≡◌, ℕ, ◌*◌, ◌≤◌, List, length, map, reverse, slice_get, Option, Some, None}
use Rattle.apf_words.specs.Limits.{max_requests, max_queues}
use Rattle.apf_words.specs.declared.decision.Decision.{Decision}
use Rattle.apf_history.specs.declared.events.Event.{Event}
use Rattle.apf_history.specs.declared.events.Event.TheVariants as events
use Rattle.apf_history.specs.Standing.{EachNames}
use Rattle.apf_queue.specs.View.{queue_count}
use Rattle.apf_gate.specs.declared.answers.Cancel.{Cancel}
use Rattle.apf_gate.specs.declared.answers.Cancel.TheVariants as cancels
use Rattle.apf_gate.specs.StationCalls.{TriesToCancel}
use Rattle.apf_gate.specs.Slots.{slot_of}
use Rattle.apf_gate.specs.Tokens.{PassToken}
use Rattle.apf_book.specs.declared.life_event.LifeEvent.{LifeEvent}
use Rattle.apf_book.specs.declared.life_event.LifeEvent.TheVariants as life
use Rattle.apf_book.specs.Life.{LifeView}
use Rattle.apf_book.specs.LifeBook.{IsLifeKept}
use Rattle.apf_book.specs.RecentEvents.{event_of}
use Rattle.apf_local.specs.Levels.{LocalView}
use Rattle.apf_local.specs.Owners.{IsSlotOf, Steps}
use Rattle.apf_run.specs.Waits.{IsOfLevel}

-- the event by the slot of its request
abbrev pub by_slot : LifeEvent → Event
by_slot (life.Enter t q) = events.Enter (slot_of t.number) q
by_slot (life.Full t q) = events.Full (slot_of t.number) q
by_slot (life.Dispatch t q) = events.Dispatch (slot_of t.number) q
by_slot (life.Strike t q) = events.Strike (slot_of t.number) q

abbrev pub slotted : Event → Event
slotted (events.Enter r q) = events.Enter (slot_of r) q
slotted (events.Full r q) = events.Full (slot_of r) q
slotted (events.Dispatch r q) = events.Dispatch (slot_of r) q
slotted (events.Strike r q) = events.Strike (slot_of r) q

-- the request of each slot
abbrev pub numbers_in : LocalView → List ℕ
numbers_in l = map (λ (t : PassToken). t.pass.number) l.owner.passes

-- each event names the request of its slot
abbrev pub AreOfSlots : List ℕ → List Event → Type 0
AreOfSlots numbers h = EachNames (λ (r : ℕ). slice_get numbers (slot_of r) ≡ Some r) h

-- there is a history that the level was of, each of whose events names the request of its slot
pub record IsOfSlots (l : LocalView) : Type 0 where
  pub view : LifeView
  pub kept : IsLifeKept view l.owner.book
  pub of_slots : AreOfSlots (numbers_in l) view.history
  pub numbered : (i r : ℕ) → slice_get (numbers_in l) i ≡ Some r → slot_of r ≡ i
  pub few : length l.owner.passes ≤ max_requests
  pub queues : queue_count l.owner.book.queues.queues ≡ l.sizes.deck
  pub deck : l.sizes.deck ≤ max_queues
  pub room : l.owner.book.notes.capacity ≡ 2 * length l.owner.passes

-- all events that there ever were, the oldest first, of any history of the level that has at most two for each slot
abbrev pub AreAll : LocalView → List LifeEvent → Type 0
AreAll l all = (v : LifeView) → IsLifeKept v l.owner.book → l.owner.book.notes.capacity ≡ 2 * length l.owner.passes → length v.history ≤ 2 * length l.owner.passes → length l.owner.passes ≤ max_requests → map event_of all ≡ reverse v.history

-- the log may be that of a level, whatever the widths of its requests are: there is one for each slot
abbrev pub IsRead : LocalView → List Event → Type 0
IsRead l log = (widths : List ℕ) → length widths ≡ length l.owner.passes → IsOfLevel (record { log = log; widths = widths })

-- the log has all events of any history of the level that has at most two for each slot, by the slots of their requests
abbrev pub IsLogOf : LocalView → List Event → Type 0
IsLogOf l log = (all : List LifeEvent) × AreAll l all × (log ≡ map by_slot all)

-- what the Station finds where this is answered: the request's decision, or that another request holds the slot
abbrev pub found_of : Option Decision → Cancel
found_of None = cancels.Other
found_of (Some decision) = cancels.Is decision

-- by the steps of the level's operator, the request of this slot was cancelled, or was decided before, or does not hold the slot
abbrev pub CancelsSlot : ℕ → LocalView → Option Decision → LocalView → Type 0
CancelsSlot slot l answer l' = IsSlotOf l.owner.passes slot (λ t. Steps l.owner.stations l'.owner.stations (λ station station'. TriesToCancel station t.pass.number (found_of answer) station'))
