use Rattle.std.proofs.Common.{take, ◌≡◌}
use Rattle.std.proofs.lemmas.List.{take_all}
use Rattle.apf_lending.proofs.Order.{greatest_step}
use Rattle.apf_lending.proofs.breaks.greatest_of.Goals as goal

pub loop-at-preserved : goal.loop-at-preserved
loop-at-preserved c = record {
  small = c.greater_of-greatest.ensures.small;
  greatest = greatest_step c.args.breaks.now c.loop-at.at-index _ c.loop-at.greatest c.greater_of-greatest.result c.loop-at-test.true
      c.loop-at.invariant.small.some c.loop-at.invariant.greatest c.greater_of-greatest.ensures.from_one c.greater_of-greatest.ensures.from_other;
}

pub returns-clause-greatest : goal.returns-clause-greatest
returns-clause-greatest c =
    let whole : take c.loop-at.at-index c.args.breaks.now ≡ c.args.breaks.now = take_all c.loop-at.at-index c.args.breaks.now c.loop-at-test.false in
    rw whole at c.loop-at.invariant.greatest
