-- What follows of the events so far and of the next one.
use Rattle.std.proofs.Common.{rules, ◌∙◌}
use Rattle.std.proofs.Math.Seq.{take-suc}
use Rattle.apf_service.proofs.Follow.{next_more}
use Rattle.apf_service.proofs.following.follow_all.Goals as goal

pub loop-event-preserved : goal.loop-event-preserved
loop-event-preserved c = record {
  tallied = c.follow.ensures.tallied;
  count = c.follow.ensures.count ∙ c.loop-event.invariant.count;
  seen = c.follow.ensures.seen ∙ c.loop-event.invariant.seen;
  follows = next_more c.args.log.now c.loop-event.event-index _ _ _ _ (search (take-suc, rules)) c.loop-event.invariant.follows c.follow.ensures.follows;
}
