use Rattle.std.proofs.Common.{◌≤◌}
use Rattle.apf_line.specs.Tokens.{IsOf}
use Rattle.apf_level.specs.Tokens.{IsInLine}
use Rattle.apf_level.proofs.level.Level.arrive_and_wait.Given as goal

abbrev pub invariant-loop : goal.invariant-loop
invariant-loop g l =
    record {
      next : (goal.iterator-loop g).can_next l.iterator';
      ends : (goal.iterator-loop g).is_finite l.iterator';
      same : IsOf l.fn.pass l.pass;
      waits : IsInLine l.pass;
      few : l.readings ≤ 100;
    }
