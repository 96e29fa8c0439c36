use Rattle.std.proofs.Common.{take, ◌≡◌}
use Rattle.std.proofs.lemmas.List.{take_all}
use Rattle.apf_lending.specs.Breaks.{IsLess}
use Rattle.apf_lending.proofs.Order.{below_step, one_step}
use Rattle.apf_lending.proofs.factor.greatest_below.Goals as goal

pub loop-at-preserved : goal.loop-at-preserved
loop-at-preserved c = record {
  small = c.greater_below-below.ensures.small;
  less = c.greater_below-below.ensures.less;
  apart = below_step (λ b. IsLess b c.args.from) c.args.breaks.now c.loop-at.at-index _ c.loop-at.below c.greater_below-below.result
      c.loop-at-test.true c.loop-at.invariant.small.some c.loop-at.invariant.apart c.greater_below-below.ensures.from_below
      c.greater_below-below.ensures.from_at;
  one = one_step c.args.breaks.now c.loop-at.at-index _ c.loop-at.below c.greater_below-below.result
      c.loop-at-test.true c.loop-at.invariant.one c.greater_below-below.ensures.one;
}

pub returns-clause-apart : goal.returns-clause-apart
returns-clause-apart c =
    let whole : take c.loop-at.at-index c.args.breaks.now ≡ c.args.breaks.now = take_all c.loop-at.at-index c.args.breaks.now c.loop-at-test.false in
    rw whole at c.loop-at.invariant.apart
