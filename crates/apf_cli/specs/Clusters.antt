-- The clusters that a command reads, by what each file may hold.
use Rattle.std.specs.Prelude.{◌≡◌, ℕ, List, Option, Some, None, Ok}
use Rattle.std.specs.Borrow.{Bor}
use Rattle.clap.specs.Walk.{texts}
use Rattle.apf_changes.specs.Applying.{with_texts}
use Rattle.apf_changes.specs.Scenarios.{scenario_view, unchanged}
use Rattle.apf_changes.specs.declared.scenario.Scenario.{Scenario}
use Rattle.apf_objects.specs.Cluster.{ClusterSaid, IsClusterOf}
use Rattle.apf_cli.specs.declared.second.Second.{Second}

-- the objects of the file of this name are this cluster
abbrev pub AreObjectsOf : (holds : (name bytes : List ℕ) → Type 0) → (name : List ℕ) → ClusterSaid → Type 0
AreObjectsOf holds name cluster = (bytes : List ℕ) × holds name bytes × IsClusterOf bytes (Ok cluster)

-- the second cluster before it is changed is that of the objects of this name; or, where none is given, the first one
abbrev pub IsOther : (holds : (name bytes : List ℕ) → Type 0) → (against : Option (Bor (List ℕ))) → (first other : ClusterSaid) → Type 0
IsOther holds None first other = other ≡ first
IsOther holds (Some name) first other = AreObjectsOf holds name.now other

-- The first cluster is that of the objects of this name. The second one has all changes, in their order, on a server that has this many seats before them.
pub record AreScenarios (holds : (name bytes : List ℕ) → Type 0) (objects : List ℕ) (second : Second) (seats : ℕ) (first : ClusterSaid) (scenario : Scenario) : Type 0 where
  pub read : AreObjectsOf holds objects first
  pub other : ClusterSaid
  pub is : IsOther holds second.against first other
  pub changed : with_texts 0 (texts second.changes.now) (unchanged other seats) ≡ Ok (scenario_view scenario)
