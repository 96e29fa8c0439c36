-- A request that waits has its event, and its Pass knows of all that it knew of.
use Rattle.std.proofs.Common.{rules, ◌≡◌, ◌∙◌, true, ap, inr}
use Rattle.apf_gate.specs.declared.record.PassRecord.{PassRecord}
use Rattle.apf_flow.specs.Deal.{hand_of}
use Rattle.apf_level.specs.declared.life.answers.Begin.TheVariants as begun
use Rattle.apf_level.proofs.LifeAsks.{on_then, logs_since}
use Rattle.apf_level.proofs.life.level.Level.arrive_and_wait.Goals as goal

pub returns-in-Run-read_decision-clause-goes_on : goal.returns-in-Run-read_decision-clause-goes_on
returns-in-Run-read_decision-clause-goes_on g c = on_then c.args.pass.now.pass.knows.trace c.loop.pass.pass.knows.trace c.read_decision.new.pass.pass.knows.trace c.loop.invariant.goes_on c.read_decision.ensures.goes_on

pub returns-in-Over-read_decision-clause-goes_on : goal.returns-in-Over-read_decision-clause-goes_on
returns-in-Over-read_decision-clause-goes_on g c = on_then c.args.pass.now.pass.knows.trace c.loop.pass.pass.knows.trace c.read_decision.new.pass.pass.knows.trace c.loop.invariant.goes_on c.read_decision.ensures.goes_on

pub returns-in-Run-read_decision-clause-logs : goal.returns-in-Run-read_decision-clause-logs
returns-in-Run-read_decision-clause-logs g c =
    let k = g.K.Naming.level in
    let entered : c.read_decision.new.pass.pass.entered ≡ true = ap (λ (p : PassRecord). p.entered) c.in-Run-read_decision.ensures.answer.5 ∙ c.loop.invariant.waits.entered in
    (c.loop.invariant.logs.0, logs_since k c.args.pass.now.pass.knows.trace c.args.pass.now.pass.number (hand_of k.sizes c.args.hash) c.args.cost c.loop.pass (begun.Run c.read_decision.new.pass) c.loop.invariant.logs.0 c.read_decision.ensures.goes_on entered c.loop.invariant.logs.1)

pub returns-in-Over-read_decision-clause-logs : goal.returns-in-Over-read_decision-clause-logs
returns-in-Over-read_decision-clause-logs g c =
    let k = g.K.Naming.level in
    (c.loop.invariant.logs.0, logs_since k c.args.pass.now.pass.knows.trace c.args.pass.now.pass.number (hand_of k.sizes c.args.hash) c.args.cost c.loop.pass (begun.Over c.read_decision.new.pass c.in-Over-read_decision.decision) c.loop.invariant.logs.0 c.read_decision.ensures.goes_on (inr c.in-Over-read_decision.ensures.answer.3) c.loop.invariant.logs.1)

pub loop-preserved-then-readings-lt-READINGS_AWAKE : goal.loop-preserved-then-readings-lt-READINGS_AWAKE
loop-preserved-then-readings-lt-READINGS_AWAKE g c =
    let k = g.K.Naming.level in
    let left = c.in-Waits-read_decision.ensures.left in record {
      next = tt;
      ends = tt;
      same = search rules;
      waits = left;
      few = search rules;
      goes_on = on_then c.args.pass.now.pass.knows.trace c.loop.pass.pass.knows.trace c.read_decision.new.pass.pass.knows.trace c.loop.invariant.goes_on c.read_decision.ensures.goes_on;
      logs = (c.loop.invariant.logs.0, logs_since k c.args.pass.now.pass.knows.trace c.args.pass.now.pass.number (hand_of k.sizes c.args.hash) c.args.cost c.loop.pass (begun.Waiting c.read_decision.new.pass) c.loop.invariant.logs.0 c.read_decision.ensures.goes_on left.entered c.loop.invariant.logs.1);
    }

pub loop-preserved : goal.loop-preserved
loop-preserved g c =
    let k = g.K.Naming.level in
    let left = c.in-Waits-read_decision.ensures.left in record {
      next = tt;
      ends = tt;
      same = search rules;
      waits = left;
      few = search rules;
      goes_on = on_then c.args.pass.now.pass.knows.trace c.loop.pass.pass.knows.trace c.read_decision.new.pass.pass.knows.trace c.loop.invariant.goes_on c.read_decision.ensures.goes_on;
      logs = (c.loop.invariant.logs.0, logs_since k c.args.pass.now.pass.knows.trace c.args.pass.now.pass.number (hand_of k.sizes c.args.hash) c.args.cost c.loop.pass (begun.Waiting c.read_decision.new.pass) c.loop.invariant.logs.0 c.read_decision.ensures.goes_on left.entered c.loop.invariant.logs.1);
    }
