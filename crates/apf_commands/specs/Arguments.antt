-- The arguments that a command has once `clap` has accepted its words, which the readers require.
use Rattle.std.specs.Prelude.{◌≡◌, ℕ, Bool, List, Some, codes}
use Rattle.clap.specs.Words.{Row, Text}
use Rattle.apf_commands.specs.Meaning.{IsFlag, IsFlowCount, IsNumber, IsRoundCount, IsSeatCount, IsSlotCount, IsText, IsWorkerCount}
use Rattle.apf_commands.specs.Commands.{kind_named}
use Rattle.apf_commands.specs.declared.entries.Kind.{Kind}
use Rattle.apf_commands.specs.declared.entries.Kind.TheVariants.{Flow, Deck, Script, Workers, Level, Simulation, Bounded, Comparison, Trace, Picture, Flows, AuditLog, Objects, Match, Cluster}

-- the argument has a text
abbrev pub HasText : List Row → Text → Type 0
HasText rows id = (t : Text) × IsText rows id t

-- the argument has a number of k bits
abbrev pub HasNumber : ℕ → List Row → Text → Type 0
HasNumber k rows id = (n : ℕ) × IsNumber k rows id n

-- the option with no value is given or not
abbrev pub HasFlag : List Row → Text → Type 0
HasFlag rows id = (b : Bool) × IsFlag rows id b

-- the arguments of a flow
pub record HasFlow (rows : List Row) : Type 0 where
  pub schema : HasText rows (codes "SCHEMA")
  pub distinguisher : HasText rows (codes "DISTINGUISHER")

-- the arguments of a deck
pub record HasDeck (rows : List Row) : Type 0 where
  pub deck : HasNumber 32 rows (codes "DECK")
  pub hand : HasNumber 32 rows (codes "HAND")
  pub hash : HasNumber 64 rows (codes "HASH")

-- the arguments of a script
pub record HasScript (rows : List Row) : Type 0 where
  pub config : HasText rows (codes "CONFIG")
  pub requests : HasText rows (codes "REQUESTS")
  pub script : HasText rows (codes "SCRIPT")

-- the arguments of workers
pub record HasWorkersOf (rows : List Row) : Type 0 where
  pub config : HasText rows (codes "CONFIG")
  pub requests : HasText rows (codes "REQUESTS")
  pub workers : (n : ℕ) × IsWorkerCount rows n
  pub rounds : (n : ℕ) × IsRoundCount rows n

-- the arguments of a level that stays open but for its name, which may be any text here
pub record HasLevel (rows : List Row) : Type 0 where
  pub config : HasText rows (codes "CONFIG")
  pub slots : (n : ℕ) × IsSlotCount rows n

-- the arguments of a simulation
pub record HasSimulation (rows : List Row) : Type 0 where
  pub config : HasText rows (codes "CONFIG")
  pub trace : HasText rows (codes "TRACE")
  pub patience : HasText rows (codes "PATIENCE")

-- the arguments of a simulation of which both sides of the bound may be told
pub record HasBounded (rows : List Row) : Type 0 where
  pub config : HasText rows (codes "CONFIG")
  pub trace : HasText rows (codes "TRACE")
  pub patience : HasText rows (codes "PATIENCE")
  pub bound : HasFlag rows (codes "bound")

-- the arguments of a comparison
pub record HasComparison (rows : List Row) : Type 0 where
  pub config : HasText rows (codes "CONFIG")
  pub other : HasText rows (codes "OTHER")
  pub trace : HasText rows (codes "TRACE")
  pub patience : HasText rows (codes "PATIENCE")

-- the argument of a trace
pub record HasTrace (rows : List Row) : Type 0 where
  pub trace : HasText rows (codes "TRACE")

-- the arguments of a picture
pub record HasPicture (rows : List Row) : Type 0 where
  pub config : HasText rows (codes "CONFIG")
  pub trace : HasText rows (codes "TRACE")
  pub patience : HasText rows (codes "PATIENCE")

-- the arguments of the flows of a trace
pub record HasFlows (rows : List Row) : Type 0 where
  pub config : HasText rows (codes "CONFIG")
  pub trace : HasText rows (codes "TRACE")

-- the arguments of an audit log
pub record HasAuditLog (rows : List Row) : Type 0 where
  pub log : HasText rows (codes "AUDITLOG")
  pub schema : HasText rows (codes "SCHEMA")

-- the arguments of a cluster's objects
pub record HasObjects (rows : List Row) : Type 0 where
  pub objects : HasText rows (codes "OBJECTS")
  pub seats : (n : ℕ) × IsSeatCount rows n

-- the arguments of a request that is matched
pub record HasMatch (rows : List Row) : Type 0 where
  pub objects : HasText rows (codes "OBJECTS")

-- the arguments of a whole cluster
pub record HasCluster (rows : List Row) : Type 0 where
  pub objects : HasText rows (codes "OBJECTS")
  pub log : HasText rows (codes "AUDITLOG")
  pub patience : HasText rows (codes "PATIENCE")
  pub seats : (n : ℕ) × IsSeatCount rows n
  pub flows : (n : ℕ) × IsFlowCount rows n
  pub json : HasFlag rows (codes "json")
  pub no_lending : HasFlag rows (codes "no-lending")
  pub trace : HasFlag rows (codes "trace")

-- the arguments of a kind
abbrev pub HasArguments : Kind → List Row → Type 0
HasArguments Flow rows = HasFlow rows
HasArguments Deck rows = HasDeck rows
HasArguments Script rows = HasScript rows
HasArguments Workers rows = HasWorkersOf rows
HasArguments Level rows = HasLevel rows
HasArguments Simulation rows = HasSimulation rows
HasArguments Bounded rows = HasBounded rows
HasArguments Comparison rows = HasComparison rows
HasArguments Trace rows = HasTrace rows
HasArguments Picture rows = HasPicture rows
HasArguments Flows rows = HasFlows rows
HasArguments AuditLog rows = HasAuditLog rows
HasArguments Objects rows = HasObjects rows
HasArguments Match rows = HasMatch rows
HasArguments Cluster rows = HasCluster rows

-- the command is one of the program's, with its arguments
pub record IsCommand (name : Text) (rows : List Row) : Type 0 where
  pub kind : Kind
  pub named : kind_named name ≡ Some kind
  pub arguments : HasArguments kind rows
