-- The texts so far were carried out.
use Rattle.std.proofs.Common.{◌≡◌, drop, map, string_bytes}
use Rattle.apf_changes.specs.Applying.{with_texts}
use Rattle.apf_changes.specs.Scenarios.{scenario_view}
use Rattle.apf_changes.proofs.applying.apply_all.Given as goal

abbrev pub invariant-loop-place : goal.invariant-loop-place
invariant-loop-place l =
    with_texts l.place (map string_bytes (drop l.place l.texts)) (scenario_view l.scenario) ≡ with_texts 0 (map string_bytes l.texts) (scenario_view l.fn.scenario)
