-- The rate of a schema.
use Rattle.std.proofs.Common.{◌≡◌, ℕ, List, Ok, Err, map, refl}
use Rattle.apf_objects.specs.Rules.{Text}
use Rattle.apf_objects.specs.Schemas.{schema_view}
use Rattle.apf_changes.specs.Applying.{with_rate, with_schema_rate}
use Rattle.apf_changes.specs.Lists.{is_schema}
use Rattle.apf_changes.specs.Scenarios.{AssignedSaid, scenario_view}
use Rattle.apf_changes.specs.Schemas.{absent}
use Rattle.apf_changes.specs.declared.change.Amount.{Amount}
use Rattle.apf_changes.specs.declared.fault.ChangeFault.{ChangeFault}
use Rattle.apf_changes.specs.declared.scenario.Scenario.{Scenario}
use Rattle.apf_changes.proofs.Firsts.{first_at, nothing}
use Rattle.apf_changes.proofs.Rescheduling.{IsAt, IsNowhere}

pub rate_gone : (name : Text) (amount : Amount) (scenario : Scenario) → IsNowhere name scenario.cluster.schemas.items
    → with_schema_rate name amount (scenario_view scenario) ≡ Err (absent name (map schema_view scenario.cluster.dangling.items))
unfolding with_schema_rate
rate_gone name amount scenario nowhere = rw (nothing (is_schema name) 0 (map schema_view scenario.cluster.schemas.items) nowhere) refl

pub rate_refused : (name : Text) (amount : Amount) (scenario : Scenario) (i : ℕ) (fault : ChangeFault) → IsAt name scenario.cluster.schemas.items i
    → with_rate name amount (scenario_view scenario).schema_rates ≡ Err fault → with_schema_rate name amount (scenario_view scenario) ≡ Err fault
unfolding with_schema_rate
rate_refused name amount scenario i fault at refused = rw ((first_at (is_schema name) schema_view scenario.cluster.schemas.items i at).found, refused) refl

pub rate_changed : (name : Text) (amount : Amount) (scenario : Scenario) (i : ℕ) (rates : List AssignedSaid) → IsAt name scenario.cluster.schemas.items i
    → with_rate name amount (scenario_view scenario).schema_rates ≡ Ok rates
    → with_schema_rate name amount (scenario_view scenario) ≡ Ok (record (scenario_view scenario) { schema_rates = rates })
unfolding with_schema_rate
rate_changed name amount scenario i rates at changed = rw ((first_at (is_schema name) schema_view scenario.cluster.schemas.items i at).found, changed) refl
