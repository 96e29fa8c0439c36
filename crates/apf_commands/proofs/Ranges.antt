-- The numbers and the names of actions are in their ranges, or the words have the fault of a level's name.
use Rattle.std.proofs.Common.{◌≡◌, ◌∙◌, ◌⊎◌, ◌&&◌, ap₂, inl, inr, Bool, true, false, not, refl, sym, ap, subst, arith, List, [], ◌∷◌, Some, Result, Ok, Err, unwrap_or, cond, codes}
use Rattle.std.specs.Prelude.{IfErr, IfOk}
use Rattle.clap.specs.Words.{Kinds, Row, Text, first_of}
use Rattle.clap.specs.Kinds.{FailsBy, HasKind, IsAmong, or_else}
use Rattle.clap.specs.Values.{kind_of as kind_of_error}
use Rattle.clap.specs.declared.error.Error.{Error}
use Rattle.clap.specs.declared.error.kind.ErrorKind.TheVariants.{OutOfMemory, ValueValidation}
use Rattle.apf_commands.specs.Commands.{commands, has_kind, is_open_level, kind_named}
use Rattle.apf_commands.specs.LevelName.{is_level_name}
use Rattle.apf_commands.specs.Meaning.{AreArguments, AsksFor, HasBadName, HasLevelName, IsInRange, kind_of, name_fault}
use Rattle.apf_commands.specs.declared.entries.Kind.{Kind}
use Rattle.apf_commands.specs.declared.entries.Kind.TheVariants as of_kind
use Rattle.apf_commands.specs.declared.words.Action.{Action}
use Rattle.apf_commands.specs.declared.words.Arguments.{Arguments}
use Rattle.apf_commands.specs.declared.words.Arguments.TheVariants.{Flow, Deck, Script, Workers, Level, Simulation, Bounded, Comparison, Trace, Picture, Flows, AuditLog, Objects, Match, Cluster}
use Rattle.apf_commands.proofs.Named.{kind_had}

-- an action that words ask for is in its ranges, once its level's name is
pub in_range : (name : Text) (rows : List Row) (action : Action) → AsksFor name rows action → HasLevelName action.arguments → IsInRange action
unfolding kind_named commands
in_range name rows action is named = go action.arguments known is.arguments named
  where
    known : has_kind (kind_of action.arguments) action.command.now ≡ true
    known = kind_had action.command.now (kind_of action.arguments) commands (ap kind_named is.named ∙ is.kind)

    go : (arguments : Arguments) → has_kind (kind_of arguments) action.command.now ≡ true → AreArguments rows arguments → HasLevelName arguments
        → IsInRange (record { command = action.command; arguments = arguments })
    go (Workers config requests workers rounds) known read named = record { command = known; workers = (let some = read.2.1 in omega arith); rounds = (read.3.1, read.3.2); slots = tt; seats = tt; name = tt }
    go (Level config slots level charge) known read named = record { command = known; workers = tt; rounds = tt; slots = (read.1.1, read.1.2); seats = tt; name = named }
    go (Flow schema distinguisher) known read named = record { command = known; workers = tt; rounds = tt; slots = tt; seats = tt; name = tt }
    go (Deck deck hand hash) known read named = record { command = known; workers = tt; rounds = tt; slots = tt; seats = tt; name = tt }
    go (Script config requests script) known read named = record { command = known; workers = tt; rounds = tt; slots = tt; seats = tt; name = tt }
    go (Simulation config trace patience charge) known read named = record { command = known; workers = tt; rounds = tt; slots = tt; seats = tt; name = tt }
    go (Bounded config trace patience charge bound) known read named = record { command = known; workers = tt; rounds = tt; slots = tt; seats = tt; name = tt }
    go (Comparison config other trace patience charge) known read named = record { command = known; workers = tt; rounds = tt; slots = tt; seats = tt; name = tt }
    go (Trace trace) known read named = record { command = known; workers = tt; rounds = tt; slots = tt; seats = tt; name = tt }
    go (Picture config trace patience charge from to) known read named = record { command = known; workers = tt; rounds = tt; slots = tt; seats = tt; name = tt }
    go (Flows config trace flow) known read named = record { command = known; workers = tt; rounds = tt; slots = tt; seats = tt; name = tt }
    go (AuditLog log schema chosen) known read named = record { command = known; workers = tt; rounds = tt; slots = tt; seats = tt; name = tt }
    go (Objects objects seats) known read named = record { command = known; workers = tt; rounds = tt; slots = tt; seats = (read.1.1, read.1.2); name = tt }
    go (Match objects asked) known read named = record { command = known; workers = tt; rounds = tt; slots = tt; seats = tt; name = tt }
    go (Cluster objects log patience seats flows json no_lending level trace changes against warm_up picture http_log) known read named = record { command = known; workers = tt; rounds = tt; slots = tt; seats = (read.3.1, read.3.2); name = tt }

-- the arguments of another command have no fault of a level's name
other_kind : (name : Text) (rows : List Row) (kind : Kind) → kind_named name ≡ Some kind → is_open_level (Some kind) ≡ false → name_fault (Some (name, rows)) ≡ []
other_kind name rows kind is differs =
    ap (λ b. cond (b && not (is_level_name (unwrap_or (first_of (codes "name") rows) (codes "level")))) (ValueValidation ∷ []) []) (ap is_open_level is ∙ differs)

served : (name : Text) (rows : List Row) (level : Text) (b : Bool) → kind_named name ≡ Some of_kind.Level → unwrap_or (first_of (codes "name") rows) (codes "level") ≡ level
    → is_level_name level ≡ b → name_fault (Some (name, rows)) ≡ cond (not b) (ValueValidation ∷ []) []
served name rows level b is told named =
    ap₂ (λ x y. cond (x && not y) (ValueValidation ∷ []) []) (ap is_open_level is) (ap is_level_name told ∙ named)

-- words whose action has a name that a level may have have no fault of it
pub no_name_fault : (name : Text) (rows : List Row) (action : Action) → AsksFor name rows action → HasLevelName action.arguments → name_fault (Some (name, rows)) ≡ []
no_name_fault name rows action is named = go action.arguments is.kind is.arguments named
  where
    go : (arguments : Arguments) → kind_named name ≡ Some (kind_of arguments) → AreArguments rows arguments → HasLevelName arguments → name_fault (Some (name, rows)) ≡ []
    go (Workers config requests workers rounds) kind read named = other_kind name rows _ kind refl
    go (Level config slots level charge) kind read named = served name rows level.now true kind read.2 named
    go (Flow schema distinguisher) kind read named = other_kind name rows _ kind refl
    go (Deck deck hand hash) kind read named = other_kind name rows _ kind refl
    go (Script config requests script) kind read named = other_kind name rows _ kind refl
    go (Simulation config trace patience charge) kind read named = other_kind name rows _ kind refl
    go (Bounded config trace patience charge bound) kind read named = other_kind name rows _ kind refl
    go (Comparison config other trace patience charge) kind read named = other_kind name rows _ kind refl
    go (Trace trace) kind read named = other_kind name rows _ kind refl
    go (Picture config trace patience charge from to) kind read named = other_kind name rows _ kind refl
    go (Flows config trace flow) kind read named = other_kind name rows _ kind refl
    go (AuditLog log schema chosen) kind read named = other_kind name rows _ kind refl
    go (Objects objects seats) kind read named = other_kind name rows _ kind refl
    go (Match objects asked) kind read named = other_kind name rows _ kind refl
    go (Cluster objects log patience seats flows json no_lending level trace changes against warm_up picture http_log) kind read named = other_kind name rows _ kind refl

-- words whose action has another have it
pub has_name_fault : (name : Text) (rows : List Row) (action : Action) → AsksFor name rows action → HasBadName action.arguments
    → name_fault (Some (name, rows)) ≡ ValueValidation ∷ []
has_name_fault name rows action is named = go action.arguments is.kind is.arguments named
  where
    go : (arguments : Arguments) → kind_named name ≡ Some (kind_of arguments) → AreArguments rows arguments → HasBadName arguments
        → name_fault (Some (name, rows)) ≡ ValueValidation ∷ []
    go (Workers config requests workers rounds) kind read named = absurd named
    go (Level config slots level charge) kind read named = served name rows level.now false kind read.2 named
    go (Flow schema distinguisher) kind read named = absurd named
    go (Deck deck hand hash) kind read named = absurd named
    go (Script config requests script) kind read named = absurd named
    go (Simulation config trace patience charge) kind read named = absurd named
    go (Bounded config trace patience charge bound) kind read named = absurd named
    go (Comparison config other trace patience charge) kind read named = absurd named
    go (Trace trace) kind read named = absurd named
    go (Picture config trace patience charge from to) kind read named = absurd named
    go (Flows config trace flow) kind read named = absurd named
    go (AuditLog log schema chosen) kind read named = absurd named
    go (Objects objects seats) kind read named = absurd named
    go (Match objects asked) kind read named = absurd named
    go (Cluster objects log patience seats flows json no_lending level trace changes against warm_up picture http_log) kind read named = absurd named

-- an action that is judged is answered where nothing is wrong with its name, and fails by the fault of that
pub judged_fails : (kinds : Kinds) (action : Action) (r : Result Action Error) → (HasLevelName action.arguments → kinds ≡ []) → (HasBadName action.arguments → kinds ≡ ValueValidation ∷ [])
    → IfOk r (λ a. (a ≡ action) × HasLevelName action.arguments) → IfErr r (λ e. (kind_of_error e ≡ OutOfMemory) ⊎ ((kind_of_error e ≡ ValueValidation) × HasBadName action.arguments)) → FailsBy kinds r
judged_fails kinds action (Ok a) good bad ok err = good ok.1
judged_fails kinds action (Err e) good bad ok err =
    elim err [
      | inl memory ↦ inl memory
      | inr named ↦ inr (subst (IsAmong (kind_of_error e)) (sym (bad named.1)) (inl named.0))
    ]

-- an error of a first kind is one of the whole
pub first_kind : (first then : Kinds) (e : Error) → HasKind first e → HasKind (or_else first then) e
first_kind [] then e (inl memory) = inl memory
first_kind [] then e (inr none) = absurd none
first_kind (k ∷ ks) then e has = has

-- where there is none of the first kinds, the kinds are the others
pub then_kinds : (first then : Kinds) → first ≡ [] → or_else first then ≡ then
then_kinds first then none = ap (λ ks. or_else ks then) none
