-- The book is the level's still, and at rest.
use Rattle.std.proofs.Common.{◌∙◌}
use Rattle.apf_level.proofs.LifeHistories.{still_own, after_settle, rests, opened}
use Rattle.apf_level.proofs.life.queued.Queued.finish.Goals as goal

pub invariant_of-self : goal.invariant_of-self
invariant_of-self g c =
    let k = g.K.Naming.level in
    let laws = opened c.every_level_has_histories.ensures in
    let old = c.args.self.now in
    let h = c.has_a_history.ensures in
    let settled = after_settle h.view old.book c.settle.new.self c.args.pass.now.pass.number c.args.amount c.settle.result h.kept (c.settle.ensures.answer h.view h.kept) in
    let own = still_own k old.book c.settle.new.self h.view settled.view old.tied c.settle.ensures.same h.kept settled.kept settled.limit in
    let now = rests laws k settled.view c.settle.new.self c.serve.new.book c.serve.result own settled.kept c.serve.ensures.same (c.serve.ensures.served settled.view settled.kept) in
    record { has_queues = old.has_queues; tied = now.own; room = c.serve.ensures.same.room ∙ (c.settle.ensures.same.room ∙ old.room); each_slot = old.each_slot; stopped = now.stopped }

pub returns-clause-finished : goal.returns-clause-finished
returns-clause-finished g c = record {
  between = c.settle.new.self;
  settled = c.settle.result;
  count = c.serve.result;
  same = c.settle.ensures.same;
  settles = c.settle.ensures.answer;
  same_then = c.serve.ensures.same;
  serves = c.serve.ensures.served;
}
