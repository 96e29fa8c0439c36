-- One thing more was done, or nothing is due.
use Rattle.std.proofs.Common.{[], arith}
use Rattle.apf_stream.specs.States.{state_of}
use Rattle.apf_stream.proofs.Chains.{ran_then}
use Rattle.apf_stream.proofs.stream.Stream.advance.Goals as goal

pub loop-preserved : goal.loop-preserved
loop-preserved c = record {
  tied = c.in_ok-step.ensures.tied;
  run = ran_then [] [] (state_of c.args.self.now) (state_of c.loop.self) (state_of c.step.new.self) c.args.ends.now.items c.loop.ends.items c.step.new.ends.items c.loop.invariant.run c.in_ok-step.ensures.run;
  in_time = λ early. c.in_ok-step.ensures.in_time c.if-branch.true;
}

pub returns-clause-run : goal.returns-clause-run
returns-clause-run c =
    ran_then [] [] (state_of c.args.self.now) (state_of c.loop.self) (state_of c.step.new.self) c.args.ends.now.items c.loop.ends.items c.step.new.ends.items c.loop.invariant.run c.in_ok-step.ensures.run

pub returns-clause-in_time : goal.returns-clause-in_time
returns-clause-in_time c early =
    let a = c.loop.invariant.in_time early in
    let b = c.in_ok-step.ensures.still c.if-branch.false in
    omega arith
