-- The request was noted in its slot.
use Rattle.std.proofs.Common.{Option, refl, ap, ◌∙◌}
use Rattle.apf_gate.specs.declared.ticket.Ticket.{Ticket}
use Rattle.apf_watched.specs.Notes.{with_note}
use Rattle.apf_watched.proofs.watch.noting.Goals as goal

pub returns : goal.returns
returns c = (
  c.in_ok-watch.watch,
  c.in_ok-watch.was,
  record {
    notes = c.take_note.ensures ∙ ap (λ (t : Option Ticket). with_note t c.args.cost c.args.takes c.in_ok-watch.watch.notes.items) c.entered.ensures;
    bound = refl;
    seen = refl;
  },
)
