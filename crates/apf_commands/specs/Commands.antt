-- The program's commands, as `clap` declares them.
use Rattle.std.specs.Prelude.{◌≡◌, Bool, List, [], ◌∷◌, ◌++◌, ◌&&◌, ◌||◌, Option, Some, None, true, false, codes, pos, bytes_eq, if◌then◌else◌}
use Rattle.clap.specs.Words.{App, Rule, Shape, Text, app_of, new_app, new_rule}
use Rattle.clap.specs.Simple.{with_rule, with_subcommand}
use Rattle.clap.specs.declared.builder.command.Command.{Command}
use Rattle.clap.specs.declared.builder.command.Command.TheViews.{out-Command}
use Rattle.clap.specs.declared.builder.action.ArgAction.TheVariants.{Append, SetTrue}
use Rattle.clap.specs.declared.builder.value_parser.ValueParser.{ValueParser}
use Rattle.clap.specs.declared.builder.value_parser.ValueParser.TheVariants.{Signed, Unsigned}
use Rattle.apf_commands.specs.declared.entries.Entry.{Entry}
use Rattle.apf_commands.specs.declared.entries.Kind.{Kind}
use Rattle.apf_commands.specs.declared.entries.Kind.TheVariants.{Flow, Deck, Script, Workers, Level, Simulation, Bounded, Comparison, Trace, Picture, Flows, AuditLog, Objects, Match, Cluster}

-- a command: its name, and the kind of its arguments
abbrev pub Named : Type 0
Named = Text × Kind

-- the commands on flows and on a level, in the order in which help has them
abbrev pub level_commands : List Named
level_commands =
    (codes "hash", Flow) ∷ (codes "deal", Deck) ∷ (codes "replay", Script) ∷ (codes "run", Workers) ∷ (codes "services", Script)
    ∷ (codes "waits", Script) ∷ (codes "explain", Script) ∷ (codes "serve", Level) ∷ []

-- the commands on traces, on audit logs and on a cluster's objects
abbrev pub trace_commands : List Named
trace_commands =
    (codes "simulate", Bounded) ∷ (codes "timeline", Simulation) ∷ (codes "compare", Comparison) ∷ (codes "fates", Simulation)
    ∷ (codes "requests", Trace) ∷ (codes "picture", Picture) ∷ (codes "hands", Flows) ∷ (codes "trace", AuditLog)
    ∷ (codes "objects", Objects) ∷ (codes "match", Match) ∷ (codes "cluster", Cluster) ∷ []

-- the program's commands
unfoldable pub commands : List Named
commands = level_commands ++ trace_commands

-- the command of an entry
abbrev pub listed : Entry → Named
listed entry = (entry.name.now, entry.kind)

-- the kind of the first command of this name
abbrev pub kind_in : List Named → Text → Option Kind
kind_in [] name = None
kind_in (c ∷ rest) name = if bytes_eq name c.0 then Some c.1 else kind_in rest name

-- the kind of the arguments of the program's command of this name
unfoldable pub kind_named : Text → Option Kind
kind_named name = kind_in commands name

-- two kinds are the same
abbrev pub is_same : Kind → Kind → Bool
is_same Flow Flow = true
is_same Deck Deck = true
is_same Script Script = true
is_same Workers Workers = true
is_same Level Level = true
is_same Simulation Simulation = true
is_same Bounded Bounded = true
is_same Comparison Comparison = true
is_same Trace Trace = true
is_same Picture Picture = true
is_same Flows Flows = true
is_same AuditLog AuditLog = true
is_same Objects Objects = true
is_same Match Match = true
is_same Cluster Cluster = true
is_same _ _ = false

-- one of these commands of this name has this kind
abbrev pub has_kind_in : List Named → Kind → Text → Bool
has_kind_in [] kind name = false
has_kind_in (c ∷ rest) kind name = (is_same kind c.1 && bytes_eq name c.0) || has_kind_in rest kind name

-- one of the program's commands of this name has this kind
abbrev pub has_kind : Kind → Text → Bool
has_kind = has_kind_in (level_commands ++ trace_commands)

-- a command that runs a script has this name
abbrev pub is_script_command : Text → Bool
is_script_command = has_kind Script

-- a command that shows what a simulation of a trace on one level did has this name
abbrev pub is_simulation_command : Text → Bool
is_simulation_command = has_kind Simulation

-- the arguments are those of a level that stays open, which has a name
abbrev pub is_open_level : Option Kind → Bool
is_open_level (Some Level) = true
is_open_level _ = false

-- a text that must be given
abbrev pub text_rule : Text → Rule
text_rule id = record (new_rule id) { required = true }

-- a number that must be given
abbrev pub number_rule : Text → ValueParser → Rule
number_rule id parser = record (text_rule id) { parser = Some parser }

-- an option with a text, which may be left out
abbrev pub option_rule : Text → Rule
option_rule name = record (new_rule name) { long = Some name; value_names = 1 }

-- an option with a number, which may be left out
abbrev pub number_option_rule : Text → ValueParser → Rule
number_option_rule name parser = record (option_rule name) { parser = Some parser }

-- an option with a text, which may be left out, and given as often as wanted
abbrev pub repeated_rule : Text → Rule
repeated_rule name = record (option_rule name) { action = Some Append }

-- an option with no value, which may be left out
abbrev pub flag_rule : Text → Rule
flag_rule name = record (new_rule name) { long = Some name; action = Some SetTrue }

-- the whole numbers of 32 bits
abbrev pub any_u32 : ValueParser
any_u32 = Signed (pos 0) (pos 4294967295)

-- the whole numbers of 64 bits
abbrev pub any_u64 : ValueParser
any_u64 = Unsigned 0 18446744073709551615

-- how many workers may be asked for
abbrev pub worker_count : ValueParser
worker_count = Signed (pos 1) (pos 64)

-- how many rounds may be asked for
abbrev pub round_count : ValueParser
round_count = Signed (pos 1) (pos 1000000)

-- how many slots a level for life may have
abbrev pub slot_count : ValueParser
slot_count = Signed (pos 1) (pos 10000)

-- how many seats a server may have
abbrev pub seat_count : ValueParser
seat_count = Signed (pos 1) (pos 1000000)

-- how many flows may be told
abbrev pub flow_count : ValueParser
flow_count = Signed (pos 0) (pos 1000000)

-- a cluster, the log of its requests, and the seats of its server
abbrev pub cluster_log_rules : List Rule
cluster_log_rules =
    text_rule (codes "OBJECTS") ∷ text_rule (codes "AUDITLOG") ∷ text_rule (codes "PATIENCE") ∷ number_option_rule (codes "seats") seat_count ∷ []

-- the same, and what is simulated and printed
abbrev pub cluster_print_rules : List Rule
cluster_print_rules =
    text_rule (codes "OBJECTS") ∷ text_rule (codes "AUDITLOG") ∷ text_rule (codes "PATIENCE") ∷ number_option_rule (codes "seats") seat_count
    ∷ number_option_rule (codes "flows") flow_count ∷ flag_rule (codes "json") ∷ flag_rule (codes "no-lending") ∷ option_rule (codes "level")
    ∷ flag_rule (codes "trace") ∷ []

-- the arguments of a kind, in their order
abbrev pub rules_of : Kind → List Rule
rules_of Flow = text_rule (codes "SCHEMA") ∷ text_rule (codes "DISTINGUISHER") ∷ []
rules_of Deck = number_rule (codes "DECK") any_u32 ∷ number_rule (codes "HAND") any_u32 ∷ number_rule (codes "HASH") any_u64 ∷ []
rules_of Script = text_rule (codes "CONFIG") ∷ text_rule (codes "REQUESTS") ∷ text_rule (codes "SCRIPT") ∷ []
rules_of Workers =
    text_rule (codes "CONFIG") ∷ text_rule (codes "REQUESTS") ∷ number_rule (codes "WORKERS") worker_count
    ∷ number_option_rule (codes "rounds") round_count ∷ []
rules_of Level =
    text_rule (codes "CONFIG") ∷ number_option_rule (codes "slots") slot_count ∷ option_rule (codes "name") ∷ option_rule (codes "charge") ∷ []
rules_of Simulation = text_rule (codes "CONFIG") ∷ text_rule (codes "TRACE") ∷ text_rule (codes "PATIENCE") ∷ option_rule (codes "charge") ∷ []
rules_of Bounded =
    text_rule (codes "CONFIG") ∷ text_rule (codes "TRACE") ∷ text_rule (codes "PATIENCE") ∷ option_rule (codes "charge") ∷ flag_rule (codes "bound") ∷ []
rules_of Comparison =
    text_rule (codes "CONFIG") ∷ text_rule (codes "OTHER") ∷ text_rule (codes "TRACE") ∷ text_rule (codes "PATIENCE")
    ∷ option_rule (codes "charge") ∷ []
rules_of Trace = text_rule (codes "TRACE") ∷ []
rules_of Picture =
    text_rule (codes "CONFIG") ∷ text_rule (codes "TRACE") ∷ text_rule (codes "PATIENCE") ∷ option_rule (codes "charge")
    ∷ option_rule (codes "from") ∷ option_rule (codes "to") ∷ []
rules_of Flows = text_rule (codes "CONFIG") ∷ text_rule (codes "TRACE") ∷ option_rule (codes "flow") ∷ []
rules_of AuditLog =
    text_rule (codes "AUDITLOG") ∷ text_rule (codes "SCHEMA") ∷ option_rule (codes "by") ∷ option_rule (codes "user")
    ∷ option_rule (codes "since") ∷ option_rule (codes "until") ∷ []
rules_of Objects = text_rule (codes "OBJECTS") ∷ number_option_rule (codes "seats") seat_count ∷ []
rules_of Match =
    text_rule (codes "OBJECTS") ∷ option_rule (codes "user") ∷ repeated_rule (codes "group") ∷ option_rule (codes "verb")
    ∷ option_rule (codes "resource") ∷ option_rule (codes "api-group") ∷ option_rule (codes "namespace") ∷ option_rule (codes "path")
    ∷ option_rule (codes "log") ∷ []
rules_of Cluster =
    text_rule (codes "OBJECTS") ∷ text_rule (codes "AUDITLOG") ∷ text_rule (codes "PATIENCE") ∷ number_option_rule (codes "seats") seat_count
    ∷ number_option_rule (codes "flows") flow_count ∷ flag_rule (codes "json") ∷ flag_rule (codes "no-lending") ∷ option_rule (codes "level")
    ∷ flag_rule (codes "trace") ∷ repeated_rule (codes "set") ∷ option_rule (codes "against") ∷ option_rule (codes "warm-up")
    ∷ option_rule (codes "picture") ∷ option_rule (codes "http-log") ∷ []

-- a command that takes these arguments
abbrev pub command_shape : Text → List Rule → Shape
command_shape name rules = record (new_app name).top { rules = rules }

-- the command, as `clap` has it
unfoldable pub shape_for : Named → Shape
shape_for c = command_shape c.0 (rules_of c.1)

-- a command with these arguments behind its own
abbrev pub with_rules : List Rule → App → App
with_rules [] app = app
with_rules (rule ∷ rules) app = with_rules rules (with_rule app rule)

-- the program with these commands behind its own
abbrev pub with_commands : List Named → App → App
with_commands [] app = app
with_commands (command ∷ rest) app = with_commands rest (with_subcommand app (shape_for command))

-- the program before it has a command: one must be named, and it has a version
abbrev pub bare_app : App
bare_app = record {
  top = record (command_shape (codes "apf") []) { subcommand_required = true; has_version = true };
  subs = [];
}

-- the program with its commands
unfoldable pub apf_app : App
apf_app = with_commands trace_commands (with_commands level_commands bare_app)

-- the command is read as `app`, and has no global argument
pub record IsMade (c : Command) (app : App) : Type 0 where
  pub app_is : app_of c ≡ app
  pub local : (out-Command c).has_globals ≡ false

-- the second command is the first with these arguments behind its own
abbrev pub AddsRules : List Rule → Command → Command → Type 0
AddsRules rules old new = (app : App) → IsMade old app → IsMade new (with_rules rules app)
