-- The lines of the queues so far were written.
use Rattle.std.proofs.Common.{take}
use Rattle.std.specs.Io.KnownBytes.{Appends}
use Rattle.apf_hands.specs.Holders.{places_at, all_others_text}
use Rattle.apf_hands.proofs.brief.write_all_sharers.Given as goal

abbrev pub invariant-loop-queue : goal.invariant-loop-queue
invariant-loop-queue g l = Appends (g.W.Write.contents l.initial.out) (g.W.Write.contents l.out) (all_others_text (places_at l.holders) (take l.queue-index l.hand))
