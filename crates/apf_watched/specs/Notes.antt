-- What is noted of requests that entered a queue, each in its slot.
use Rattle.std.specs.Prelude.{◌≡◌, ℕ, List, slice_get, slice_set, Option, Some, None}
use Rattle.apf_history.specs.Numbered.{width}
use Rattle.apf_gate.specs.declared.ticket.Ticket.{Ticket}
use Rattle.apf_gate.specs.Slots.{slot_of}
use Rattle.apf_book.specs.declared.life_event.LifeEvent.{LifeEvent}
use Rattle.apf_book.specs.declared.life_event.LifeEvent.TheVariants.{Enter, Full, Dispatch, Strike}
use Rattle.apf_watched.specs.declared.note.Note.{Note}

-- the note is of this request
pub record IsNoteOf (notes : List (Option Note)) (t : Ticket) (n : Note) : Type 0 where
  pub slot : ℕ
  pub is_there : slice_get notes slot ≡ Some (Some n)
  pub ticket : n.ticket ≡ t

-- the request that entered a queue by this event, if one did
abbrev pub entered_by : Option LifeEvent → Option Ticket
entered_by None = None
entered_by (Some (Enter t q)) = Some t
entered_by (Some (Full t q)) = None
entered_by (Some (Dispatch t q)) = None
entered_by (Some (Strike t q)) = None

-- the request is noted in its slot, if there is one
abbrev pub with_note : Option Ticket → ℕ → ℕ → List (Option Note) → List (Option Note)
with_note None cost takes notes = notes
with_note (Some t) cost takes notes = slice_set notes (slot_of t.number) (Some (record { ticket = t; cost = cost; takes = takes }))

-- by these numbers the request of the note costs and takes that
pub record IsOf (costs : List ℕ) (measure : ℕ → ℕ) (n : Note) : Type 0 where
  pub cost : width costs n.ticket.number ≡ n.cost
  pub takes_so : measure n.ticket.number ≡ n.takes

-- each note is so
abbrev pub AreOf : List ℕ → (ℕ → ℕ) → List (Option Note) → Type 0
AreOf costs measure notes = (slot : ℕ) (n : Note) → slice_get notes slot ≡ Some (Some n) → IsOf costs measure n
