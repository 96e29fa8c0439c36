-- The queues so far were written.
use Rattle.std.proofs.Common.{take}
use Rattle.std.specs.Io.KnownBytes.{Appends}
use Rattle.apf_hands.specs.Hands.{queues_text}
use Rattle.apf_hands.proofs.sharing.write_queues.Given as goal

abbrev pub invariant-loop-queue : goal.invariant-loop-queue
invariant-loop-queue g l = Appends (g.W.Write.contents l.initial.out) (g.W.Write.contents l.out) (queues_text (take l.queue-index l.hand))
