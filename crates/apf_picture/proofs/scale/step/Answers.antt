-- The steps are powers of ten, and the answer is the least round number that is enough.
use Rattle.std.proofs.Common.{arith}
use Rattle.apf_picture.proofs.Steps.{power_first, power_more, few_first, few_more, step_one, step_two, step_five}
use Rattle.apf_picture.proofs.scale.step.Goals as goal

pub loop-one-init : goal.loop-one-init
loop-one-init c = record { power = power_first c.args.unit; positive = omega (arith, c.requires.0); short = omega (arith, c.requires.1); few = few_first c.args.end c.args.unit }

pub loop-one-preserved : goal.loop-one-preserved
loop-one-preserved c =
    let one = c.loop-one.one in
    let small = c.tenth-least.ensures.small in
    let less = c.loop-one-test.true in
    record {
      power = power_more c.args.unit one c.loop-one.invariant.power;
      positive = omega (arith, c.loop-one.invariant.positive);
      short = omega (arith, small, less, c.ranges.end.fits);
      few = few_more c.args.end c.args.unit one c.loop-one.invariant.power c.loop-one.invariant.positive (omega (arith, small, less));
    }

pub returns-then-one-least-clause-step : goal.returns-then-one-least-clause-step
returns-then-one-least-clause-step c = step_one c.args.end c.args.unit c.loop-one.one c.loop-one.invariant.power c.loop-one.invariant.few (omega (arith, c.tenth-least.ensures.enough, c.if-one-least.true))

pub returns-then-one-least-2-clause-step : goal.returns-then-one-least-2-clause-step
returns-then-one-least-2-clause-step c =
    step_two c.args.end c.args.unit c.loop-one.one c.loop-one.invariant.power c.loop-one.invariant.positive c.loop-one.invariant.few (omega (arith, c.tenth-least.ensures.small, c.if-one-least.false)) (omega (arith, c.tenth-least.ensures.enough, c.if-one-least-2.true))

pub returns-else-one-least-2-clause-step : goal.returns-else-one-least-2-clause-step
returns-else-one-least-2-clause-step c =
    step_five c.args.end c.args.unit c.loop-one.one c.loop-one.invariant.power c.loop-one.invariant.positive c.loop-one.invariant.few (omega (arith, c.tenth-least.ensures.small, c.if-one-least-2.false)) (omega (arith, c.tenth-least.ensures.enough, c.loop-one-test.false))
