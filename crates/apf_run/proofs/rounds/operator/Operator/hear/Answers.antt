use Rattle.apf_run.proofs.Known.{keeps_on}
use Rattle.apf_run.proofs.rounds.operator.Operator.hear.Goals as goal

pub loop-preserved : goal.loop-preserved
loop-preserved g c = record {
  next = tt;
  ends = tt;
  knows = keeps_on c.args.self.now c.loop.self c.was_told.new.self c.loop.invariant.knows c.was_told.ensures.knows;
}

pub returns-then-was_told-clause-knows : goal.returns-then-was_told-clause-knows
returns-then-was_told-clause-knows g c = keeps_on c.args.self.now c.loop.self c.was_told.new.self c.loop.invariant.knows c.was_told.ensures.knows
