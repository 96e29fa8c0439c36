use Rattle.std.proofs.Common.{rules, arith, subst}
use Rattle.apf_gate.specs.Records.{KnowsMore}
use Rattle.apf_gate.specs.Rule.{station_of}
use Rattle.apf_gate.specs.Tokens.{StationToken}
use Rattle.apf_gate.proofs.More.{closing_more}
use Rattle.apf_gate.proofs.StationSteps.{station_closes_level}
use Rattle.apf_gate.proofs.gate.Gate.close.Goals as goal

pub fetch_or-found-requires : goal.fetch_or-found-requires
fetch_or-found-requires g c =
    let i = c.self.invariant in
    (search rules, omega (arith, i.has_words), rw (i.same_key, c.station.invariant) (station_closes_level _ i.shape i.laws _ _ _ c.to_close.result c.to_close.ensures))

pub returns-clause-same : goal.returns-clause-same
returns-clause-same g c =
    let more = closing_more c.station.inside.seat.me c.fetch_or-found.new.seat.me _ c.fetch_or-found.ensures.2 in record {
      gate = search rules;
      number = search rules;
      more = subst (λ (s : StationToken). KnowsMore s.station.knows (station_of c.fetch_or-found.new.seat.me.0).knows) c.station.view_is more;
    }
