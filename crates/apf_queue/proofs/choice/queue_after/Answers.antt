use Rattle.std.proofs.Common.{inl, inr, refl, ◌+◌}
use Rattle.apf_queue.proofs.Round.{reached_steps}
use Rattle.apf_queue.proofs.choice.queue_after.Goals as goal

pub returns-then-after-queues-clause-round : goal.returns-then-after-queues-clause-round
returns-then-after-queues-clause-round c q p hq hp reached = reached_steps c.args.queues c.args.robin (c.args.robin + 1) q p c.requires.is_queue hq hp (inl refl) reached

pub returns-else-after-queues-clause-round : goal.returns-else-after-queues-clause-round
returns-else-after-queues-clause-round c q p hq hp reached = reached_steps c.args.queues c.args.robin 0 q p c.requires.is_queue hq hp (inr (refl, c.if-after-queues.false)) reached
