-- The book is the level's still, and at rest.
use Rattle.std.proofs.Common.{◌∙◌}
use Rattle.apf_level.proofs.LifeHistories.{still_own, after_strike, rests, opened}
use Rattle.apf_level.proofs.life.queued.Queued.strike.Goals as goal

pub invariant_of-self : goal.invariant_of-self
invariant_of-self g c =
    let k = g.K.Naming.level in
    let laws = opened c.every_level_has_histories.ensures in
    let old = c.args.self.now in
    let h = c.has_a_history.ensures in
    let struck = after_strike h.view old.book c.strike-struck.new.self c.args.request.number c.strike-struck.result (c.strike-struck.ensures.answer h.view h.kept) in
    let own = still_own k old.book c.strike-struck.new.self h.view struck.view old.tied c.strike-struck.ensures.same h.kept struck.kept struck.limit in
    let now = rests laws k struck.view c.strike-struck.new.self c.serve.new.book c.serve.result own struck.kept c.serve.ensures.same (c.serve.ensures.served struck.view struck.kept) in
    record { has_queues = old.has_queues; tied = now.own; room = c.serve.ensures.same.room ∙ (c.strike-struck.ensures.same.room ∙ old.room); each_slot = old.each_slot; stopped = now.stopped }
