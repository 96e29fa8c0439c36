-- What a command line asks for, by what `clap` reads of its words.
use Rattle.std.specs.Prelude.{◌≡◌, ◌<◌, ◌≤◌, ◌⊎◌, ◌&&◌, ℕ, Bool, List, [], ◌∷◌, map, Option, Some, None, Ok, true, false, not, if◌then◌else◌, codes, option_map, unwrap_or}
use Rattle.std.specs.Borrow.{Bor}
use Rattle.std.specs.Str.Parse.{ParsesUnsigned}
use Rattle.clap.specs.Words.{Kinds, Row, Text, all_of, fault_of, first_of, one_of, subcommand_of}
use Rattle.clap.specs.Kinds.{or_else}
use Rattle.clap.specs.Values.{bool_text}
use Rattle.clap.specs.declared.error.kind.ErrorKind.TheVariants.{ValueValidation}
use Rattle.apf_commands.specs.Commands.{apf_app, has_kind, is_open_level, kind_named}
use Rattle.apf_commands.specs.LevelName.{is_level_name}
use Rattle.apf_commands.specs.declared.entries.Kind.{Kind}
use Rattle.apf_commands.specs.declared.entries.Kind.TheVariants as of_kind
use Rattle.apf_commands.specs.declared.words.Action.{Action}
use Rattle.apf_commands.specs.declared.words.Arguments.{Arguments}
use Rattle.apf_commands.specs.declared.words.Asked.{Asked}
use Rattle.apf_commands.specs.declared.words.Chosen.{Chosen}
use Rattle.apf_commands.specs.declared.words.Arguments.TheVariants.{Flow, Deck, Script, Workers, Level, Simulation, Bounded, Comparison, Trace, Picture, Flows, AuditLog, Objects, Match, Cluster}

-- the argument's text
abbrev pub IsText : List Row → Text → Text → Type 0
IsText rows id t = first_of id rows ≡ Some t

-- the option's text, if it is given
abbrev pub IsOption : List Row → Text → Option (Bor Text) → Type 0
IsOption rows id given = first_of id rows ≡ option_map (λ t. t.now) given

-- the option's text, or this one where it is not given
abbrev pub IsTextOr : Text → List Row → Text → Text → Type 0
IsTextOr otherwise rows id t = unwrap_or (first_of id rows) otherwise ≡ t

-- the texts of an option that may be given as often as wanted, in the order of the words; none where it is not given
abbrev pub AreTexts : List Row → Text → List (Bor Text) → Type 0
AreTexts rows id given = unwrap_or (all_of id rows) [] ≡ map (λ t. t.now) given

-- whether the option with no value is given: its text is `true` then, and `false` where it is not
abbrev pub IsFlag : List Row → Text → Bool → Type 0
IsFlag rows id is_given = one_of id rows ≡ Some (bool_text is_given)

-- the texts of the options that choose requests
pub record AreChosen (rows : List Row) (chosen : Chosen) : Type 0 where
  pub by : IsOption rows (codes "by") chosen.by
  pub user : IsOption rows (codes "user") chosen.user
  pub since : IsOption rows (codes "since") chosen.since
  pub until : IsOption rows (codes "until") chosen.until

-- the argument's text is the whole decimal number n, which fits k bits
abbrev pub IsNumber : ℕ → List Row → Text → ℕ → Type 0
IsNumber k rows id n =
    (t : Text) × (one_of id rows ≡ Some t) × ParsesUnsigned {E = Unit {0}} k 10 t (Ok n)

-- the option's text is the whole decimal number n, which fits k bits, or n is this one where it is not given
abbrev pub IsNumberOr : (k otherwise : ℕ) → List Row → Text → ℕ → Type 0
IsNumberOr k otherwise rows id n = IsNumber k rows id n ⊎ ((one_of id rows ≡ None) × (n ≡ otherwise))

-- the number of workers is in its range
abbrev pub IsWorkerCount : List Row → ℕ → Type 0
IsWorkerCount rows n = IsNumber 32 rows (codes "WORKERS") n × (1 ≤ n) × (n ≤ 64)

-- the number of rounds is in its range, and 1 where none is given
abbrev pub IsRoundCount : List Row → ℕ → Type 0
IsRoundCount rows n = IsNumberOr 32 1 rows (codes "rounds") n × (1 ≤ n) × (n ≤ 1000000)

-- the number of slots is in its range, and 10,000 where none is given
abbrev pub IsSlotCount : List Row → ℕ → Type 0
IsSlotCount rows n = IsNumberOr 32 10000 rows (codes "slots") n × (1 ≤ n) × (n ≤ 10000)

-- the number of a server's seats is in its range, and 600 where none is given
abbrev pub IsSeatCount : List Row → ℕ → Type 0
IsSeatCount rows n = IsNumberOr 32 600 rows (codes "seats") n × (1 ≤ n) × (n ≤ 1000000)

-- the number of flows that are told is in its range, and 12 where none is given
abbrev pub IsFlowCount : List Row → ℕ → Type 0
IsFlowCount rows n = IsNumberOr 32 12 rows (codes "flows") n × (n ≤ 1000000)

-- the texts of the options that say a request
pub record AreAsked (rows : List Row) (asked : Asked) : Type 0 where
  pub user : IsOption rows (codes "user") asked.user
  pub groups : AreTexts rows (codes "group") asked.groups.items
  pub verb : IsOption rows (codes "verb") asked.verb
  pub resource : IsOption rows (codes "resource") asked.resource
  pub api_group : IsOption rows (codes "api-group") asked.api_group
  pub namespace : IsOption rows (codes "namespace") asked.namespace
  pub path : IsOption rows (codes "path") asked.path
  pub log : IsOption rows (codes "log") asked.log

-- the rows of a command are read as these arguments
abbrev pub AreArguments : List Row → Arguments → Type 0
AreArguments rows (Flow schema distinguisher) = IsText rows (codes "SCHEMA") schema.now
    × IsText rows (codes "DISTINGUISHER") distinguisher.now
AreArguments rows (Deck deck hand hash) = IsNumber 32 rows (codes "DECK") deck
    × IsNumber 32 rows (codes "HAND") hand
    × IsNumber 64 rows (codes "HASH") hash
AreArguments rows (Script config requests script) = IsText rows (codes "CONFIG") config.now
    × IsText rows (codes "REQUESTS") requests.now
    × IsText rows (codes "SCRIPT") script.now
AreArguments rows (Workers config requests workers rounds) = IsText rows (codes "CONFIG") config.now
    × IsText rows (codes "REQUESTS") requests.now
    × IsWorkerCount rows workers
    × IsRoundCount rows rounds
AreArguments rows (Level config slots name charge) = IsText rows (codes "CONFIG") config.now
    × IsSlotCount rows slots
    × IsTextOr (codes "level") rows (codes "name") name.now
    × IsOption rows (codes "charge") charge
AreArguments rows (Simulation config trace patience charge) = IsText rows (codes "CONFIG") config.now
    × IsText rows (codes "TRACE") trace.now
    × IsText rows (codes "PATIENCE") patience.now
    × IsOption rows (codes "charge") charge
AreArguments rows (Bounded config trace patience charge bound) = IsText rows (codes "CONFIG") config.now
    × IsText rows (codes "TRACE") trace.now
    × IsText rows (codes "PATIENCE") patience.now
    × IsOption rows (codes "charge") charge
    × IsFlag rows (codes "bound") bound
AreArguments rows (Comparison config other trace patience charge) = IsText rows (codes "CONFIG") config.now
    × IsText rows (codes "OTHER") other.now
    × IsText rows (codes "TRACE") trace.now
    × IsText rows (codes "PATIENCE") patience.now
    × IsOption rows (codes "charge") charge
AreArguments rows (Trace trace) = IsText rows (codes "TRACE") trace.now
AreArguments rows (Picture config trace patience charge from to) = IsText rows (codes "CONFIG") config.now
    × IsText rows (codes "TRACE") trace.now
    × IsText rows (codes "PATIENCE") patience.now
    × IsOption rows (codes "charge") charge
    × IsOption rows (codes "from") from
    × IsOption rows (codes "to") to
AreArguments rows (Flows config trace flow) = IsText rows (codes "CONFIG") config.now
    × IsText rows (codes "TRACE") trace.now
    × IsOption rows (codes "flow") flow
AreArguments rows (AuditLog log schema chosen) = IsText rows (codes "AUDITLOG") log.now
    × IsText rows (codes "SCHEMA") schema.now
    × AreChosen rows chosen
AreArguments rows (Objects objects seats) = IsText rows (codes "OBJECTS") objects.now
    × IsSeatCount rows seats
AreArguments rows (Match objects asked) = IsText rows (codes "OBJECTS") objects.now
    × AreAsked rows asked
AreArguments rows (Cluster objects log patience seats flows json no_lending level trace changes against warm_up picture http_log) = IsText rows (codes "OBJECTS") objects.now
    × IsText rows (codes "AUDITLOG") log.now
    × IsText rows (codes "PATIENCE") patience.now
    × IsSeatCount rows seats
    × IsFlowCount rows flows
    × IsFlag rows (codes "json") json
    × IsFlag rows (codes "no-lending") no_lending
    × IsOption rows (codes "level") level
    × IsFlag rows (codes "trace") trace
    × AreTexts rows (codes "set") changes.items
    × IsOption rows (codes "against") against
    × IsOption rows (codes "warm-up") warm_up
    × IsOption rows (codes "picture") picture
    × IsOption rows (codes "http-log") http_log

-- the kind of arguments
abbrev pub kind_of : Arguments → Kind
kind_of (Flow a b) = of_kind.Flow
kind_of (Deck a b c) = of_kind.Deck
kind_of (Script a b c) = of_kind.Script
kind_of (Workers a b c d) = of_kind.Workers
kind_of (Level a b c d) = of_kind.Level
kind_of (Simulation a b c d) = of_kind.Simulation
kind_of (Bounded a b c d e) = of_kind.Bounded
kind_of (Comparison a b c d e) = of_kind.Comparison
kind_of (Trace a) = of_kind.Trace
kind_of (Picture a b c d e f) = of_kind.Picture
kind_of (Flows a b c) = of_kind.Flows
kind_of (AuditLog a b c) = of_kind.AuditLog
kind_of (Objects a b) = of_kind.Objects
kind_of (Match a b) = of_kind.Match
kind_of (Cluster a b c d e f g h i j k l m n) = of_kind.Cluster

-- a command of this name with these rows asks for the action: it is named so, and its arguments are of the kind that the command has
pub record AsksFor (name : Text) (rows : List Row) (action : Action) : Type 0 where
  pub named : action.command.now ≡ name
  pub kind : kind_named name ≡ Some (kind_of action.arguments)
  pub arguments : AreArguments rows action.arguments

-- who runs requests by workers has some
abbrev pub HasWorkers : Arguments → Type 0
HasWorkers (Workers config requests workers rounds) = 0 < workers
HasWorkers _ = Unit {0}

-- who runs requests by workers does so in 1 to 1,000,000 rounds
abbrev pub HasRounds : Arguments → Type 0
HasRounds (Workers config requests workers rounds) = (1 ≤ rounds) × (rounds ≤ 1000000)
HasRounds _ = Unit {0}

-- a level that stays open has 1 to 10,000 slots
abbrev pub HasSlots : Arguments → Type 0
HasSlots (Level config slots name charge) = (1 ≤ slots) × (slots ≤ 10000)
HasSlots _ = Unit {0}

-- a server whose limits are told has 1 to 1,000,000 seats
abbrev pub HasSeats : Arguments → Type 0
HasSeats (Objects objects seats) = (1 ≤ seats) × (seats ≤ 1000000)
HasSeats (Cluster objects log patience seats flows json no_lending level trace changes against warm_up picture http_log) = (1 ≤ seats) × (seats ≤ 1000000)
HasSeats _ = Unit {0}

-- a level that stays open has a name that a level may have
abbrev pub HasLevelName : Arguments → Type 0
HasLevelName (Level config slots name charge) = is_level_name name.now ≡ true
HasLevelName _ = Unit {0}

-- a level that stays open has a name that none may have
abbrev pub HasBadName : Arguments → Type 0
HasBadName (Level config slots name charge) = is_level_name name.now ≡ false
HasBadName _ = ⊥

-- the numbers and the name of an action are in their ranges, and its command is one of those that have its kind of arguments
pub record IsInRange (action : Action) : Type 0 where
  pub command : has_kind (kind_of action.arguments) action.command.now ≡ true
  pub workers : HasWorkers action.arguments
  pub rounds : HasRounds action.arguments
  pub slots : HasSlots action.arguments
  pub seats : HasSeats action.arguments
  pub name : HasLevelName action.arguments

-- the words name a command that asks for the action
abbrev pub IsActionOf : List Text → Action → Type 0
IsActionOf words action = (name : Text) × ((rows : List Row)
    × (subcommand_of apf_app words ≡ Some (name, rows)) × AsksFor name rows action × HasLevelName action.arguments)

-- the kinds of error of the name that the words of a command give a level
abbrev pub name_fault : Option (Text × List Row) → Kinds
name_fault None = []
name_fault (Some (name, rows)) =
    if is_open_level (kind_named name) && not (is_level_name (unwrap_or (first_of (codes "name") rows) (codes "level"))) then ValueValidation ∷ [] else []

-- the kinds of error that words may have: `clap`'s, and where it finds none that of a level's name
abbrev pub words_fault : List Text → Kinds
words_fault words = or_else (fault_of apf_app words) (name_fault (subcommand_of apf_app words))
