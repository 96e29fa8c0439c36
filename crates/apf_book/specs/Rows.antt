-- An event as it is kept, with the number of its ticket in halves.
use Rattle.std.specs.Prelude.{ℕ, ◌+◌, ◌*◌}
use Rattle.apf_gate.specs.declared.ticket.Ticket.{Ticket}
use Rattle.apf_book.specs.declared.life_event.LifeEvent.{LifeEvent}
use Rattle.apf_book.specs.declared.life_event.LifeEvent.TheVariants as events
use Rattle.apf_book.specs.declared.row.Kind.{Kind}
use Rattle.apf_book.specs.declared.row.Kind.TheVariants as kinds

-- the event of this kind
abbrev pub event_with : Kind → Ticket → ℕ → LifeEvent
event_with kinds.Enter ticket queue = events.Enter ticket queue
event_with kinds.Full ticket queue = events.Full ticket queue
event_with kinds.Dispatch ticket queue = events.Dispatch ticket queue
event_with kinds.Strike ticket queue = events.Strike ticket queue

-- its ticket's number is put together of its lowest 64 bits and the others
abbrev pub event_of_row : Kind → ℕ → ℕ → ℕ → LifeEvent
event_of_row kind low high queue = event_with kind (record { number = high * 18446744073709551616 + low }) queue
