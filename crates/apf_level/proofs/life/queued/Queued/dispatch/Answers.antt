-- The book is the level's still, and at rest.
use Rattle.std.proofs.Common.{◌∙◌}
use Rattle.apf_level.proofs.LifeHistories.{rests, opened}
use Rattle.apf_level.proofs.life.queued.Queued.dispatch.Goals as goal

pub invariant_of-self : goal.invariant_of-self
invariant_of-self g c =
    let laws = opened c.every_level_has_histories.ensures in
    let old = c.args.self.now in
    let h = c.has_a_history.ensures in
    let now = rests laws g.K.Naming.level h.view old.book c.serve.new.book c.serve.result old.tied h.kept c.serve.ensures.same (c.serve.ensures.served h.view h.kept) in
    record { has_queues = old.has_queues; tied = now.own; room = c.serve.ensures.same.room ∙ old.room; each_slot = old.each_slot; stopped = now.stopped }
