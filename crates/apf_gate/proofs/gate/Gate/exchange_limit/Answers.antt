use Rattle.std.proofs.Common.{rules, arith, ap, ◌∙◌}
use Rattle.apf_words.specs.Level.{packed}
use Rattle.apf_gate.proofs.StationSteps.{station_exchanges_level}
use Rattle.apf_gate.proofs.gate.Gate.exchange_limit.Goals as goal

pub compare_exchange-found-requires : goal.compare_exchange-found-requires
compare_exchange-found-requires g c =
    let i = c.self.invariant in
    let new = c.pack-new.ensures.value ∙ ap packed c.with_limit.ensures in
    (search rules, omega (arith, i.has_words), rw (i.same_key, c.station.invariant) (station_exchanges_level _ i.shape i.laws _ _ _ c.pack-word.result _ c.args.limit c.args.level c.pack-word.ensures.value c.requires.in_range c.requires.some_limit c.requires.small_limit new))
