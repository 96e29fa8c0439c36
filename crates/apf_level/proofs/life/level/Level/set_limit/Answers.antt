-- Each try set this limit or none.
use Rattle.std.proofs.Common.{◌∙◌, subst}
use Rattle.apf_gate.specs.declared.answers.TrySetLimit.{TrySetLimit}
use Rattle.apf_gate.specs.StationCalls.{TriesToSet}
use Rattle.apf_level.proofs.Knowing.{more_then}
use Rattle.apf_level.proofs.Setting.{sets_any, sets_last}
use Rattle.apf_level.proofs.life.level.Level.set_limit.Goals as goal

pub loop-preserved : goal.loop-preserved
loop-preserved g c =
    let tried = c.try_set_limit-tried in
    let any = sets_any c.args.station.now.station c.args.limit tried.result.0 c.loop.station.station tried.new.station.station c.loop.invariant.number c.loop.invariant.no_other tried.ensures.answer in
    record {
      next = tt;
      ends = tt;
      same = tried.ensures.same.gate ∙ c.loop.invariant.same;
      more = more_then c.args.station.now.station.knows c.loop.station.station.knows tried.new.station.station.knows c.loop.invariant.more tried.ensures.same.more;
      number = any.0;
      no_other = any.1;
    }

pub returns-in-Set-clause-answer : goal.returns-in-Set-clause-answer
returns-in-Set-clause-answer g c =
    let tried = c.try_set_limit-tried in
    let steps = subst (λ (a : TrySetLimit). TriesToSet c.loop.station.station c.args.limit a tried.new.station.station) c.in-Set.is tried.ensures.answer in
    record {
      before = c.loop.station.station;
      more = c.loop.invariant.more;
      waiting = c.in-Set._waiting;
      steps = steps;
      no_other = sets_last c.args.station.now.station c.args.limit c.in-Set.old c.in-Set._waiting c.loop.station.station tried.new.station.station c.loop.invariant.number c.loop.invariant.no_other steps;
    }
