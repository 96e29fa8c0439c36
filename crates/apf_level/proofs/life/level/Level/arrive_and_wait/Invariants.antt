use Rattle.std.proofs.Common.{◌≤◌}
use Rattle.apf_line.specs.Tokens.{IsOf, IsInLine}
use Rattle.apf_level.proofs.life.level.Level.arrive_and_wait.Given as goal
use Rattle.std.specs.Prelude.{Option}
use Rattle.apf_book.specs.declared.life_event.LifeEvent.{LifeEvent}
use Rattle.apf_flow.specs.Deal.{hand_of}
use Rattle.apf_level.specs.declared.life.answers.Begin.TheVariants as begun
use Rattle.apf_level.specs.LifeArrivals.{Logs, TraceGoesOn}

abbrev pub invariant-loop : goal.invariant-loop
invariant-loop g l =
    record {
      next : (goal.iterator-loop g).can_next l.iterator';
      ends : (goal.iterator-loop g).is_finite l.iterator';
      same : IsOf l.fn.pass l.pass;
      waits : IsInLine l.pass;
      few : l.readings ≤ 100;
      goes_on : TraceGoesOn l.fn.pass l.pass;
      logs : (event : Option LifeEvent) × Logs g.K.Naming.level l.fn.pass.pass.knows.trace l.fn.pass.pass.number (hand_of g.K.Naming.level.sizes l.fn.hash) l.fn.cost (begun.Waiting l.pass) event;
    }
