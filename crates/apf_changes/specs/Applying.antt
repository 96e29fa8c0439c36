-- A scenario with changes.
use Rattle.std.specs.Prelude.{◌≡◌, ⊤, ℕ, suc, List, [], ◌∷◌, ◌++◌, Some, find, Result, Ok, Err}
use Rattle.apf_files.specs.FirstFault.{◌>>=◌, or_fault}
use Rattle.apf_objects.specs.Cluster.{ClusterSaid}
use Rattle.apf_objects.specs.Levels.{LevelSaid, AreSettingsInRange}
use Rattle.apf_objects.specs.Order.{in_order}
use Rattle.apf_objects.specs.Rules.{Text}
use Rattle.apf_objects.specs.Schemas.{SchemaSaid}
use Rattle.apf_matching.specs.Limits.{max_seats}
use Rattle.apf_changes.specs.Amounts.{judged}
use Rattle.apf_changes.specs.Changes.{ChangeSaid, server_seats, level_seats, user_rate, schema_rate, of_level, of_schema, schema_level}
use Rattle.apf_changes.specs.Levels.{levels_with}
use Rattle.apf_changes.specs.Lists.{is_level}
use Rattle.apf_changes.specs.Reading.{change_of}
use Rattle.apf_changes.specs.Scenarios.{AssignedSaid, ScenarioSaid, nominal_of, rate_in}
use Rattle.apf_changes.specs.Schemas.{the_schema, with_schema_change, with_schema_level}
use Rattle.apf_changes.specs.declared.applying.Refused.{Refused}
use Rattle.apf_changes.specs.declared.change.Amount.{Amount}
use Rattle.apf_changes.specs.declared.change.LevelChange.{LevelChange}
use Rattle.apf_changes.specs.declared.change.SchemaChange.{SchemaChange}
use Rattle.apf_changes.specs.declared.fault.ChangeFault.{ChangeFault}
use Rattle.apf_changes.specs.declared.fault.ChangeFault.TheVariants.{NoLevel}

-- how often a request comes at most
abbrev pub max_rate : ℕ
max_rate = 1000

-- this number of this name behind those that were set
abbrev pub assigned : Text → ℕ → List AssignedSaid → List AssignedSaid
assigned name number others = others ++ record { name = name; number = number } ∷ []

-- the rates with this one, which is judged beside the rate of this name
unfoldable pub with_rate : Text → Amount → List AssignedSaid → Result (List AssignedSaid) ChangeFault
with_rate name amount rates = do
  rate ← judged amount (Some (rate_in rates name)) (record { low = 0; high = max_rate })
  Ok (assigned name rate rates)

-- with other seats of the server
unfoldable pub with_server_seats : Amount → ScenarioSaid → Result ScenarioSaid ChangeFault
with_server_seats amount scenario = do
  seats ← judged amount (Some scenario.seats) (record { low = 1; high = max_seats })
  Ok (record scenario { seats = seats })

-- with a fixed nominal limit of the level of this name
unfoldable pub with_level_seats : Text → Amount → ScenarioSaid → Result ScenarioSaid ChangeFault
with_level_seats name amount scenario = do
  level ← or_fault NoLevel (find (is_level name) scenario.cluster.levels)
  seats ← judged amount (Some (nominal_of scenario level)) (record { low = 0; high = max_seats })
  Ok (record scenario { nominal = assigned name seats scenario.nominal })

-- with another rate of the schema of this name
unfoldable pub with_schema_rate : Text → Amount → ScenarioSaid → Result ScenarioSaid ChangeFault
with_schema_rate name amount scenario = do
  schema ← the_schema name scenario.cluster.dangling scenario.cluster.schemas
  rates ← with_rate name amount scenario.schema_rates
  Ok (record scenario { schema_rates = rates })

-- with another rate of the user of this name
unfoldable pub with_user_rate : Text → Amount → ScenarioSaid → Result ScenarioSaid ChangeFault
with_user_rate name amount scenario = with_rate name amount scenario.user_rates >>= (λ rates. Ok (record scenario { user_rates = rates }))

-- with another cluster
abbrev pub with_cluster : ScenarioSaid → ClusterSaid → ScenarioSaid
with_cluster scenario cluster = record scenario { cluster = cluster }

-- the cluster with other levels
abbrev pub with_levels : ClusterSaid → List LevelSaid → ClusterSaid
with_levels cluster levels = record cluster { levels = levels }

-- with a change of the level of this name
unfoldable pub with_level : Text → LevelChange → ScenarioSaid → Result ScenarioSaid ChangeFault
with_level name change scenario =
    levels_with change name scenario.cluster.levels >>= (λ levels. Ok (with_cluster scenario (with_levels scenario.cluster levels)))

-- with a change of the schema of this name
unfoldable pub with_schema : Text → SchemaChange → ScenarioSaid → Result ScenarioSaid ChangeFault
with_schema name change scenario = with_schema_change change name scenario.cluster >>= (λ cluster. Ok (with_cluster scenario cluster))

-- with another level of the schema of this name
unfoldable pub with_level_of : (name level : Text) → ScenarioSaid → Result ScenarioSaid ChangeFault
with_level_of name level scenario = with_schema_level name level scenario.cluster >>= (λ cluster. Ok (with_cluster scenario cluster))

-- a scenario with a change, or the change's first fault
abbrev pub with_change : ChangeSaid → ScenarioSaid → Result ScenarioSaid ChangeFault
with_change (server_seats amount) scenario = with_server_seats amount scenario
with_change (level_seats name amount) scenario = with_level_seats name amount scenario
with_change (user_rate name amount) scenario = with_user_rate name amount scenario
with_change (schema_rate name amount) scenario = with_schema_rate name amount scenario
with_change (of_level name change) scenario = with_level name change scenario
with_change (of_schema name change) scenario = with_schema name change scenario
with_change (schema_level name level) scenario = with_level_of name level scenario

-- a scenario with the change that a text asks for
unfoldable pub with_text : Text → ScenarioSaid → Result ScenarioSaid ChangeFault
with_text text scenario = change_of text >>= (λ change. with_change change scenario)

-- the fault of the text at this place
abbrev pub at_place : {A : Type 0} → ℕ → Result A ChangeFault → Result A Refused
at_place place (Ok x) = Ok x
at_place place (Err fault) = Err (record { place = place; fault = fault })

-- a scenario with the changes of texts, of which the first has this place, one after the other, or the first fault
abbrev pub with_texts : ℕ → List Text → ScenarioSaid → Result ScenarioSaid Refused
with_texts place [] scenario = Ok scenario
with_texts place (text ∷ texts) scenario = at_place place (with_text text scenario) >>= (λ after. with_texts (suc place) texts after)

-- the schemas stand in their order: putting them in it changes nothing
abbrev pub AreInOrder : List SchemaSaid → Type 0
AreInOrder schemas = in_order schemas ≡ schemas

-- the settings of each level are in their ranges, as those of objects are
abbrev pub AreInRange : List LevelSaid → Type 0
AreInRange [] = ⊤
AreInRange (level ∷ levels) = AreSettingsInRange level.settings × AreInRange levels
