-- Between two tries the Station set no other limit.
use Rattle.std.proofs.Common.{◌≡◌}
use Rattle.apf_gate.specs.Records.{KnowsMore}
use Rattle.apf_gate.specs.Tokens.{station_gate}
use Rattle.apf_level.specs.Limits.{SetsSince}
use Rattle.apf_level.proofs.life.level.Level.set_limit.Given as goal

abbrev pub invariant-loop : goal.invariant-loop
invariant-loop g l =
    record {
      next : (goal.iterator-loop g).can_next l.iterator';
      ends : (goal.iterator-loop g).is_finite l.iterator';
      same : station_gate l.station ≡ station_gate l.fn.station;
      more : KnowsMore l.fn.station.station.knows l.station.station.knows;
      number : l.station.station.number ≡ l.fn.station.station.number;
      no_other : SetsSince l.fn.station.station l.fn.limit l.station.station;
    }
