use Rattle.std.proofs.Common.{take, ◌≡◌}
use Rattle.std.proofs.lemmas.List.{take_all}
use Rattle.apf_lending.specs.Breaks.{Reaches}
use Rattle.apf_lending.proofs.Order.{least_step}
use Rattle.apf_lending.proofs.factor.least_reaching.Goals as goal

pub loop-at-preserved : goal.loop-at-preserved
loop-at-preserved c = record {
  small = c.lesser_reaching-least.ensures.small;
  reaches = c.lesser_reaching-least.ensures.reaches;
  least = least_step (Reaches c.args.seats c.args.claims.now) c.args.breaks.now c.loop-at.at-index _ c.loop-at.least c.lesser_reaching-least.result
      c.loop-at-test.true c.loop-at.invariant.small.some c.loop-at.invariant.least c.lesser_reaching-least.ensures.up_to_least
      c.lesser_reaching-least.ensures.up_to_at;
}

pub returns-clause-least : goal.returns-clause-least
returns-clause-least c =
    let whole : take c.loop-at.at-index c.args.breaks.now ≡ c.args.breaks.now = take_all c.loop-at.at-index c.args.breaks.now c.loop-at-test.false in
    rw whole at c.loop-at.invariant.least
