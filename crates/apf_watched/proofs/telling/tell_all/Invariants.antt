-- The events so far were told.
use Rattle.std.specs.Prelude.{take}
use Rattle.apf_watched.specs.Followed.{TellsEvents}
use Rattle.apf_watched.proofs.telling.tell_all.Given as goal

abbrev pub invariant-loop-event : goal.invariant-loop-event
invariant-loop-event l = TellsEvents l.notes (take l.event-index l.events) l.fn.bound l.bound
