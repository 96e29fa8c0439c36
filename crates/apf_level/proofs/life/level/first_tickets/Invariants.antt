-- The tickets of the slots so far.
use Rattle.std.proofs.Common.{◌≡◌, ◌<◌, length, All}
use Rattle.apf_gate.specs.declared.ticket.Ticket.{Ticket}
use Rattle.apf_level.proofs.life.level.first_tickets.Given as goal

abbrev pub invariant-loop-slot : goal.invariant-loop-slot
invariant-loop-slot l =
    record {
      count : length l.tickets.items ≡ l.slot;
      own : All (λ (t : Ticket). t.number < l.fn.slots) l.tickets.items;
    }
