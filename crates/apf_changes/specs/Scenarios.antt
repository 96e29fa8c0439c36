-- A cluster, the seats of its server, and how often each request comes.
use Rattle.std.specs.Prelude.{ℕ, ◌*◌, List, [], ◌∷◌, map, Option, Some, None, unwrap_or, if◌then◌else◌, bytes_eq, string_bytes}
use Rattle.apf_objects.specs.Cluster.{ClusterSaid, cluster_view}
use Rattle.apf_objects.specs.Levels.{LevelSaid}
use Rattle.apf_objects.specs.Rules.{Text}
use Rattle.apf_matching.specs.Limits.{nominal_of as share_of, sum_of_shares}
use Rattle.apf_changes.specs.declared.scenario.Assigned.{Assigned}
use Rattle.apf_changes.specs.declared.scenario.Scenario.{Scenario}

-- a number that was set of what has this name
pub record AssignedSaid : Type 0 where
  pub name : Text
  pub number : ℕ

-- the cluster, its server's seats, and what was set: nominal limits by level, and rates by user and by schema
pub record ScenarioSaid : Type 0 where
  pub cluster : ClusterSaid
  pub seats : ℕ
  pub nominal : List AssignedSaid
  pub user_rates : List AssignedSaid
  pub schema_rates : List AssignedSaid

-- what the code holds
abbrev pub assigned_view : Assigned → AssignedSaid
assigned_view assigned = record { name = string_bytes assigned.name; number = assigned.number }

abbrev pub scenario_view : Scenario → ScenarioSaid
scenario_view scenario = record {
  cluster = cluster_view scenario.cluster;
  seats = scenario.seats;
  nominal = map assigned_view scenario.nominal.items;
  user_rates = map assigned_view scenario.user_rates.items;
  schema_rates = map assigned_view scenario.schema_rates.items;
}

-- a cluster as it is
abbrev pub unchanged : ClusterSaid → ℕ → ScenarioSaid
unchanged cluster seats = record { cluster = cluster; seats = seats; nominal = []; user_rates = []; schema_rates = [] }

-- the last number that was set of this name, begun with this one
abbrev pub last_from : Option ℕ → Text → List AssignedSaid → Option ℕ
last_from last name [] = last
last_from last name (one ∷ others) = last_from (if bytes_eq one.name name then Some one.number else last) name others

abbrev pub last_of : Text → List AssignedSaid → Option ℕ
last_of name assigned = last_from None name assigned

-- how often each request of this name comes: once where nothing was set
abbrev pub rate_in : List AssignedSaid → Text → ℕ
rate_in rates name = unwrap_or (last_of name rates) 1

-- how often each request of this user and of this schema comes
abbrev pub rate_of : ScenarioSaid → (user schema : Text) → ℕ
rate_of scenario user schema = rate_in scenario.user_rates user * rate_in scenario.schema_rates schema

-- a level's nominal limit: the one that was fixed, or its share of the server's seats
abbrev pub nominal_of : ScenarioSaid → LevelSaid → ℕ
nominal_of scenario level =
    unwrap_or (last_of level.name scenario.nominal) (share_of scenario.seats level.settings.shares (sum_of_shares scenario.cluster.levels))
