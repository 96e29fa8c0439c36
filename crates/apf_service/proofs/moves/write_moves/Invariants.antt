-- The text of the events so far was written.
use Rattle.std.proofs.Common.{take}
use Rattle.std.specs.Io.KnownBytes.{Appends}
use Rattle.apf_service.specs.Replies.{moves_text}
use Rattle.apf_service.proofs.moves.write_moves.Given as goal

abbrev pub invariant-loop-event : goal.invariant-loop-event
invariant-loop-event g l = Appends (g.W.Write.contents l.initial.out) (g.W.Write.contents l.out) (moves_text (take l.event-index l.log))
