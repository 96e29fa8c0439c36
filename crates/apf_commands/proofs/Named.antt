-- What is found among commands by a name.
use Rattle.std.proofs.Common.{◌≡◌, ◌&&◌, ◌||◌, Bool, cond, true, false, not, refl, ap, subst, List, [], ◌∷◌, ◌++◌, Option, Some, None}
use Rattle.std.specs.List.{list_all}
use Rattle.std.specs.Str.{bytes_eq}
use Rattle.std.proofs.lemmas.Slice.Eq.{bytes_eq-Decides}
use Rattle.clap.specs.Simple.{App, with_subcommand}
use Rattle.clap.specs.Walk.{Text}
use Rattle.apf_commands.specs.Commands.{Named, has_kind_in, is_same, kind_in, shape_for, with_commands}
use Rattle.clap.proofs.WalkLemmas.{both}
use Rattle.apf_commands.proofs.Taken.{Each, each_passes}
use Rattle.apf_commands.specs.declared.entries.Kind.{Kind}
use Rattle.apf_commands.specs.declared.entries.Kind.TheVariants.{Flow, Deck, Script, Workers, Level, Simulation, Bounded, Comparison, Trace, Picture, Flows, AuditLog, Objects, Match, Cluster}

-- one more command
pub with_commands_last : (cs : List Named) (c : Named) (app : App) → with_commands (cs ++ c ∷ []) app ≡ with_subcommand (with_commands cs app) (shape_for c)
with_commands_last [] c app = refl
with_commands_last (d ∷ cs) c app = with_commands_last cs c (with_subcommand app (shape_for d))

-- what is found among the first commands is found among all
pub kind_first : (name : Text) (kind : Kind) (first then : List Named) → kind_in first name ≡ Some kind → kind_in (first ++ then) name ≡ Some kind
kind_first name kind [] then e = cc
kind_first name kind (c ∷ rest) then e = go (bytes_eq name c.0) e (kind_first name kind rest then)
  where
    go : (b : Bool) → cond b (Some c.1) (kind_in rest name) ≡ Some kind → (kind_in rest name ≡ Some kind → kind_in (rest ++ then) name ≡ Some kind)
        → cond b (Some c.1) (kind_in (rest ++ then) name) ≡ Some kind
    go true e later = e
    go false e later = later e

-- and else what is found among the others
pub kind_then : (name : Text) (first then : List Named) → kind_in first name ≡ None → kind_in (first ++ then) name ≡ kind_in then name
kind_then name [] then e = refl
kind_then name (c ∷ rest) then e = go (bytes_eq name c.0) e (kind_then name rest then)
  where
    go : (b : Bool) → cond b (Some c.1) (kind_in rest name) ≡ None → (kind_in rest name ≡ None → kind_in (rest ++ then) name ≡ kind_in then name)
        → cond b (Some c.1) (kind_in (rest ++ then) name) ≡ kind_in then name
    go true e later = cc
    go false e later = later e

is_same_self : (kind : Kind) → is_same kind kind ≡ true
is_same_self Flow = refl
is_same_self Deck = refl
is_same_self Script = refl
is_same_self Workers = refl
is_same_self Level = refl
is_same_self Simulation = refl
is_same_self Bounded = refl
is_same_self Comparison = refl
is_same_self Trace = refl
is_same_self Picture = refl
is_same_self Flows = refl
is_same_self AuditLog = refl
is_same_self Objects = refl
is_same_self Match = refl
is_same_self Cluster = refl

-- a command that is found has its kind
pub kind_had : (name : Text) (kind : Kind) (commands : List Named) → kind_in commands name ≡ Some kind → has_kind_in commands kind name ≡ true
kind_had name kind [] e = cc
kind_had name kind (c ∷ rest) e = go (bytes_eq name c.0) e (kind_had name kind rest)
  where
    here : (same later : Bool) → same ≡ true → ((same && true) || later) ≡ true
    here true later e = refl
    here false later e = cc

    there : (same later : Bool) → later ≡ true → ((same && false) || later) ≡ true
    there true later e = e
    there false later e = e

    go : (b : Bool) → cond b (Some c.1) (kind_in rest name) ≡ Some kind → (kind_in rest name ≡ Some kind → has_kind_in rest kind name ≡ true)
        → ((is_same kind c.1 && b) || has_kind_in rest kind name) ≡ true
    go true e later =
        let same : kind ≡ c.1 = cc in
        here (is_same kind c.1) (has_kind_in rest kind name) (subst (λ (k : Kind). is_same kind k ≡ true) same (is_same_self kind))
    go false e later = there (is_same kind c.1) (has_kind_in rest kind name) (later e)

-- no two commands have one name
abbrev is_distinct : List Named → Bool
is_distinct [] = true
is_distinct (c ∷ rest) = list_all (λ d. not (bytes_eq d.0 c.0)) rest && is_distinct rest

-- each command of such a list is found by its name
pub each_own : (commands : List Named) → is_distinct commands ≡ true → Each (λ c. kind_in commands c.0 ≡ Some c.1) commands
each_own [] e = tt
each_own (c ∷ rest) e =
    let parts = both (list_all (λ d. not (bytes_eq d.0 c.0)) rest) (is_distinct rest) e in
    (first, later rest (each_passes (λ d. not (bytes_eq d.0 c.0)) rest parts.0) (each_own rest parts.1))
  where
    first : cond (bytes_eq c.0 c.0) (Some c.1) (kind_in rest c.0) ≡ Some c.1
    first = ap (λ b. cond b (Some c.1) (kind_in rest c.0)) ((bytes_eq-Decides c.0 c.0).1 refl)

    behind : (b : Bool) (found : Option Kind) (kind : Kind) → not b ≡ true → found ≡ Some kind → cond b (Some c.1) found ≡ Some kind
    behind true found kind other is = cc
    behind false found kind other is = is

    later : (ds : List Named) → Each (λ d. not (bytes_eq d.0 c.0) ≡ true) ds → Each (λ d. kind_in rest d.0 ≡ Some d.1) ds
        → Each (λ d. kind_in (c ∷ rest) d.0 ≡ Some d.1) ds
    later [] other own = tt
    later (d ∷ ds) other own = (behind (bytes_eq d.0 c.0) (kind_in rest d.0) d.1 other.0 own.0, later ds other.1 own.1)
