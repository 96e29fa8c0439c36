-- Words in which `clap` finds no fault name one of the program's commands, with its arguments.
use Rattle.std.proofs.Common.{◌≡◌, ◌∙◌, ◌&&◌, ◌||◌, inl, inr, arith, Bool, true, false, not, refl, sym, ap, List, [], ◌∷◌, ◌++◌, map, Option, Some, None, is_some, option_map, true≢false, codes, lit<}
use Rattle.std.specs.List.{find, list_all}
use Rattle.std.specs.Option.{option_map_or}
use Rattle.std.specs.Str.{bytes_eq}
use Rattle.std.proofs.lemmas.Slice.Eq.{bytes_eq-Decides}
use Rattle.clap.specs.Walk.{Row, Text, answers_to, nothing_held, rows_after, walk, walk_from}
use Rattle.clap.specs.Simple.{Shape, argument_words, built, built_leaf, entered, help_shape, inherited, is_simple, label_of, marked_built, names_of, rows_at, subcommand_of, with_leaf_noted}
use Rattle.clap.specs.Faults.{entered_fault, fault_of, is_simple_and_free, level_fault}
use Rattle.clap.proofs.OnLiterals.{clap_on_literals}
use Rattle.apf_commands.specs.Commands.{Named, apf_app, command_shape, commands, kind_named, rules_of, shape_for}
use Rattle.apf_commands.specs.declared.entries.Kind.{Kind}
use Rattle.apf_commands.specs.declared.entries.Kind.TheVariants.{Flow, Deck, Script, Workers, Level, Simulation, Bounded, Comparison, Trace, Picture, Flows, AuditLog, Objects, Match, Cluster}
use Rattle.apf_commands.specs.Arguments.{HasArguments, IsCommand}
use Rattle.apf_commands.proofs.Taken.{Each, MayStop, OwnIds, found, is_plain_rule, walk_holds}
use Rattle.apf_commands.proofs.Named.{each_own}
use Rattle.apf_commands.proofs.Given.{IsPlainShape, all_filled, all_given, all_met, bool_reads, level_parts, no_check, signed_reads, unsigned_reads}

-- the program's commands have the form of which `clap` says what a parse gives, and when it fails
pub apf_is_simple : is_simple apf_app ≡ true
unfolding clap_on_literals apf_app shape_for
apf_is_simple = refl

pub apf_is_free : is_simple_and_free apf_app ≡ true
unfolding clap_on_literals apf_app shape_for
apf_is_free = refl

-- the command as the parse has it
abbrev ready : Shape → Shape
ready s = built_leaf (inherited (with_leaf_noted (marked_built apf_app.top)) s)

-- a command with the arguments of this kind, as the parse has it
abbrev of_kind : Text → Kind → Shape
of_kind name kind = ready (command_shape name (rules_of kind))

-- the words of the command have no fault
abbrev IsFaultFree : Shape → List Text → Type 0
IsFaultFree s words = level_fault s [] nothing_held words false [] ≡ []

flow_given : (name : Text) (words : List Text) → IsFaultFree (of_kind name Flow) words → HasArguments Flow (rows_after (of_kind name Flow).rules [] words)
unfolding apf_app
flow_given name words e =
    let given = all_given (of_kind name Flow) (record { rules = refl; own_ids = (refl, (refl, (refl, tt))); negates = refl }) words e in
    let schema = given.0 refl refl in
    let distinguisher = given.1.0 refl refl in
    record { schema = (schema.text, schema.first); distinguisher = (distinguisher.text, distinguisher.first) }

deck_given : (name : Text) (words : List Text) → IsFaultFree (of_kind name Deck) words → HasArguments Deck (rows_after (of_kind name Deck).rules [] words)
unfolding apf_app
deck_given name words e =
    let given = all_given (of_kind name Deck) (record { rules = refl; own_ids = (refl, (refl, (refl, (refl, tt)))); negates = refl }) words e in
    let deck = given.0 refl refl in
    let hand = given.1.0 refl refl in
    let hash = given.1.1.0 refl refl in
    let deck_reads = signed_reads 32 0 4294967295 deck.text (lit< tt) deck.accepted in
    let hand_reads = signed_reads 32 0 4294967295 hand.text (lit< tt) hand.accepted in
    let hash_reads = unsigned_reads 0 18446744073709551615 hash.text hash.accepted in
    record {
      deck = (deck_reads.0, (_, deck.one, deck_reads.1));
      hand = (hand_reads.0, (_, hand.one, hand_reads.1));
      hash = (hash_reads.0, (_, hash.one, hash_reads.1));
    }

script_given : (name : Text) (words : List Text) → IsFaultFree (of_kind name Script) words → HasArguments Script (rows_after (of_kind name Script).rules [] words)
unfolding apf_app
script_given name words e =
    let given = all_given (of_kind name Script) (record { rules = refl; own_ids = (refl, (refl, (refl, (refl, tt)))); negates = refl }) words e in
    let config = given.0 refl refl in
    let requests = given.1.0 refl refl in
    let script = given.1.1.0 refl refl in
    record { config = (config.text, config.first); requests = (requests.text, requests.first); script = (script.text, script.first) }

workers_given : (name : Text) (words : List Text) → IsFaultFree (of_kind name Workers) words → HasArguments Workers (rows_after (of_kind name Workers).rules [] words)
unfolding apf_app
workers_given name words e =
    let plain : IsPlainShape (of_kind name Workers) = record { rules = refl; own_ids = (refl, (refl, (refl, (refl, (refl, tt))))); negates = refl } in
    let given = all_given (of_kind name Workers) plain words e in
    let met = all_met (of_kind name Workers) plain words e in
    let config = given.0 refl refl in
    let requests = given.1.0 refl refl in
    let workers = given.1.1.0 refl refl in
    let reads = signed_reads 32 1 64 workers.text (lit< tt) workers.accepted in
    record {
      config = (config.text, config.first);
      requests = (requests.text, requests.first);
      workers = (reads.0, ((_, workers.one, reads.1), reads.2, reads.3));
      rounds = elim met.1.1.1.0 [
        | inl none ↦ (1, (inr (none, refl), omega arith, omega arith))
        | inr rounds ↦
            let counts = signed_reads 32 1 1000000 rounds.text (lit< tt) rounds.accepted in
            (counts.0, (inl (_, rounds.one, counts.1), counts.2, counts.3))
      ];
    }

level_given : (name : Text) (words : List Text) → IsFaultFree (of_kind name Level) words → HasArguments Level (rows_after (of_kind name Level).rules [] words)
unfolding apf_app
level_given name words e =
    let plain : IsPlainShape (of_kind name Level) = record { rules = refl; own_ids = (refl, (refl, (refl, (refl, (refl, tt))))); negates = refl } in
    let given = all_given (of_kind name Level) plain words e in
    let met = all_met (of_kind name Level) plain words e in
    let config = given.0 refl refl in
    record {
      config = (config.text, config.first);
      slots = elim met.1.0 [
        | inl none ↦ (10000, (inr (none, refl), omega arith, omega arith))
        | inr slots ↦
            let counts = signed_reads 32 1 10000 slots.text (lit< tt) slots.accepted in
            (counts.0, (inl (_, slots.one, counts.1), counts.2, counts.3))
      ];
    }

simulation_given : (name : Text) (words : List Text) → IsFaultFree (of_kind name Simulation) words → HasArguments Simulation (rows_after (of_kind name Simulation).rules [] words)
unfolding apf_app
simulation_given name words e =
    let given = all_given (of_kind name Simulation) (record { rules = refl; own_ids = (refl, (refl, (refl, (refl, (refl, tt))))); negates = refl }) words e in
    let config = given.0 refl refl in
    let trace = given.1.0 refl refl in
    let patience = given.1.1.0 refl refl in
    record { config = (config.text, config.first); trace = (trace.text, trace.first); patience = (patience.text, patience.first) }

bounded_given : (name : Text) (words : List Text) → IsFaultFree (of_kind name Bounded) words → HasArguments Bounded (rows_after (of_kind name Bounded).rules [] words)
unfolding apf_app
bounded_given name words e =
    let plain : IsPlainShape (of_kind name Bounded) = record { rules = refl; own_ids = (refl, (refl, (refl, (refl, (refl, (refl, tt)))))); negates = refl } in
    let given = all_given (of_kind name Bounded) plain words e in
    let filled = all_filled (of_kind name Bounded) plain words e in
    let config = given.0 refl refl in
    let trace = given.1.0 refl refl in
    let patience = given.1.1.0 refl refl in
    let bound = filled.1.1.1.1.0 refl refl in
    let reads = bool_reads bound.text bound.accepted in
    record {
      config = (config.text, config.first);
      trace = (trace.text, trace.first);
      patience = (patience.text, patience.first);
      bound = (reads.0, bound.one ∙ ap (λ t. Some t) reads.1);
    }

comparison_given : (name : Text) (words : List Text) → IsFaultFree (of_kind name Comparison) words → HasArguments Comparison (rows_after (of_kind name Comparison).rules [] words)
unfolding apf_app
comparison_given name words e =
    let given = all_given (of_kind name Comparison) (record { rules = refl; own_ids = (refl, (refl, (refl, (refl, (refl, (refl, tt)))))); negates = refl }) words e in
    let config = given.0 refl refl in
    let other = given.1.0 refl refl in
    let trace = given.1.1.0 refl refl in
    let patience = given.1.1.1.0 refl refl in
    record { config = (config.text, config.first); other = (other.text, other.first); trace = (trace.text, trace.first); patience = (patience.text, patience.first) }

trace_given : (name : Text) (words : List Text) → IsFaultFree (of_kind name Trace) words → HasArguments Trace (rows_after (of_kind name Trace).rules [] words)
unfolding apf_app
trace_given name words e =
    let given = all_given (of_kind name Trace) (record { rules = refl; own_ids = (refl, (refl, tt)); negates = refl }) words e in
    let trace = given.0 refl refl in
    record { trace = (trace.text, trace.first) }

flows_given : (name : Text) (words : List Text) → IsFaultFree (of_kind name Flows) words → HasArguments Flows (rows_after (of_kind name Flows).rules [] words)
unfolding apf_app
flows_given name words e =
    let given = all_given (of_kind name Flows) (record { rules = refl; own_ids = (refl, (refl, (refl, (refl, tt)))); negates = refl }) words e in
    let config = given.0 refl refl in
    let trace = given.1.0 refl refl in
    record { config = (config.text, config.first); trace = (trace.text, trace.first) }

audit_log_given : (name : Text) (words : List Text) → IsFaultFree (of_kind name AuditLog) words → HasArguments AuditLog (rows_after (of_kind name AuditLog).rules [] words)
unfolding apf_app
audit_log_given name words e =
    let given = all_given (of_kind name AuditLog) (record { rules = refl; own_ids = (refl, (refl, (refl, (refl, (refl, (refl, (refl, tt))))))); negates = refl }) words e in
    let log = given.0 refl refl in
    let schema = given.1.0 refl refl in
    record { log = (log.text, log.first); schema = (schema.text, schema.first) }

objects_given : (name : Text) (words : List Text) → IsFaultFree (of_kind name Objects) words → HasArguments Objects (rows_after (of_kind name Objects).rules [] words)
unfolding apf_app
objects_given name words e =
    let plain : IsPlainShape (of_kind name Objects) = record { rules = refl; own_ids = (refl, (refl, (refl, tt))); negates = refl } in
    let given = all_given (of_kind name Objects) plain words e in
    let met = all_met (of_kind name Objects) plain words e in
    let objects = given.0 refl refl in
    record {
      objects = (objects.text, objects.first);
      seats = elim met.1.0 [
        | inl none ↦ (600, (inr (none, refl), omega arith, omega arith))
        | inr seats ↦
            let counts = signed_reads 32 1 1000000 seats.text (lit< tt) seats.accepted in
            (counts.0, (inl (_, seats.one, counts.1), counts.2, counts.3))
      ];
    }

match_given : (name : Text) (words : List Text) → IsFaultFree (of_kind name Match) words → HasArguments Match (rows_after (of_kind name Match).rules [] words)
unfolding apf_app
match_given name words e =
    let given = all_given (of_kind name Match) (record { rules = refl; own_ids = (refl, (refl, (refl, (refl, (refl, (refl, (refl, (refl, (refl, (refl, tt)))))))))); negates = refl }) words e in
    let objects = given.0 refl refl in
    record { objects = (objects.text, objects.first) }

cluster_given : (name : Text) (words : List Text) → IsFaultFree (of_kind name Cluster) words → HasArguments Cluster (rows_after (of_kind name Cluster).rules [] words)
unfolding apf_app
cluster_given name words e =
    let plain : IsPlainShape (of_kind name Cluster) = record { rules = refl; own_ids = (refl, (refl, (refl, (refl, (refl, (refl, (refl, (refl, (refl, (refl, (refl, (refl, (refl, (refl, (refl, tt))))))))))))))); negates = refl } in
    let given = all_given (of_kind name Cluster) plain words e in
    let met = all_met (of_kind name Cluster) plain words e in
    let filled = all_filled (of_kind name Cluster) plain words e in
    let objects = given.0 refl refl in
    let log = given.1.0 refl refl in
    let patience = given.1.1.0 refl refl in
    let json = filled.1.1.1.1.1.0 refl refl in
    let reads = bool_reads json.text json.accepted in
    let fixed = filled.1.1.1.1.1.1.0 refl refl in
    let reads_fixed = bool_reads fixed.text fixed.accepted in
    let traced = filled.1.1.1.1.1.1.1.1.0 refl refl in
    let reads_traced = bool_reads traced.text traced.accepted in
    record {
      objects = (objects.text, objects.first);
      log = (log.text, log.first);
      patience = (patience.text, patience.first);
      seats = elim met.1.1.1.0 [
        | inl none ↦ (600, (inr (none, refl), omega arith, omega arith))
        | inr seats ↦
            let counts = signed_reads 32 1 1000000 seats.text (lit< tt) seats.accepted in
            (counts.0, (inl (_, seats.one, counts.1), counts.2, counts.3))
      ];
      flows = elim met.1.1.1.1.0 [
        | inl none ↦ (12, (inr (none, refl), omega arith))
        | inr flows ↦
            let counts = signed_reads 32 0 1000000 flows.text (lit< tt) flows.accepted in
            (counts.0, (inl (_, flows.one, counts.1), counts.3))
      ];
      json = (reads.0, json.one ∙ ap (λ t. Some t) reads.1);
      no_lending = (reads_fixed.0, fixed.one ∙ ap (λ t. Some t) reads_fixed.1);
      trace = (reads_traced.0, traced.one ∙ ap (λ t. Some t) reads_traced.1);
    }

picture_given : (name : Text) (words : List Text) → IsFaultFree (of_kind name Picture) words → HasArguments Picture (rows_after (of_kind name Picture).rules [] words)
unfolding apf_app
picture_given name words e =
    let given = all_given (of_kind name Picture) (record { rules = refl; own_ids = (refl, (refl, (refl, (refl, (refl, (refl, (refl, tt))))))); negates = refl }) words e in
    let config = given.0 refl refl in
    let trace = given.1.0 refl refl in
    let patience = given.1.1.0 refl refl in
    record { config = (config.text, config.first); trace = (trace.text, trace.first); patience = (patience.text, patience.first) }

-- a command whose words have no fault has its arguments
arguments_given : (kind : Kind) (name : Text) (words : List Text) → IsFaultFree (of_kind name kind) words → HasArguments kind (rows_after (of_kind name kind).rules [] words)
arguments_given Flow name words e = flow_given name words e
arguments_given Deck name words e = deck_given name words e
arguments_given Script name words e = script_given name words e
arguments_given Workers name words e = workers_given name words e
arguments_given Level name words e = level_given name words e
arguments_given Simulation name words e = simulation_given name words e
arguments_given Bounded name words e = bounded_given name words e
arguments_given Comparison name words e = comparison_given name words e
arguments_given Trace name words e = trace_given name words e
arguments_given Picture name words e = picture_given name words e
arguments_given Flows name words e = flows_given name words e
arguments_given AuditLog name words e = audit_log_given name words e
arguments_given Objects name words e = objects_given name words e
arguments_given Match name words e = match_given name words e
arguments_given Cluster name words e = cluster_given name words e

-- a walk that stops at a name of this command leaves it words with no fault only where they are those of one of these
abbrev IsEntered : Shape → Type 0
IsEntered s = (name : Text) (words : List Text) → answers_to name (label_of s) ≡ true → MayStop (built apf_app).top (Some name) → IsFaultFree s words
    → IsCommand s.name (rows_after s.rules [] words)

-- no walk enters `help`
help_stays : (name : Text) → (bytes_eq (codes "help") name || false) ≡ true → (bytes_eq name (codes "help") && true) ≡ false → ⊥
help_stays name met stays = true≢false (sym here ∙ stays)
  where
    or_false : (b : Bool) → (b || false) ≡ true → b ≡ true
    or_false true e = refl
    or_false false e = e

    is : codes "help" ≡ name
    is = (bytes_eq-Decides (codes "help") name).0 (or_false _ met)

    here : (bytes_eq name (codes "help") && true) ≡ true
    here = ap (λ n. bytes_eq n (codes "help") && true) (sym is)

-- each command is found by its name
abbrev IsFound : Named → Type 0
IsFound c = kind_named c.0 ≡ Some c.1

each_found : Each IsFound commands
unfolding clap_on_literals commands kind_named
each_found = each_own commands refl

-- a walk that stops at the name of a command
enters : (c : Named) → IsFound c → IsEntered (ready (shape_for c))
unfolding shape_for
enters c is_found name words met stays e = record { kind = c.1; named = is_found; arguments = arguments_given c.1 c.0 words e }

-- and so it is of each command, and of `help` behind them
all_entered : (rest : List Shape) → Each IsEntered rest → (cs : List Named) → Each IsFound cs → Each IsEntered (map (λ c. ready (shape_for c)) cs ++ rest)
all_entered rest help [] h = help
all_entered rest help (c ∷ cs) h = (enters c h.0, all_entered rest help cs h.1)

-- `help`, as the parse has it
abbrev ready_help : Shape
ready_help = ready help_shape

each_entered : Each IsEntered (built apf_app).subs
unfolding apf_app commands
each_entered = all_entered (ready_help ∷ []) ((λ name words met stays e. absurd (help_stays name met stays)), tt) commands each_found

top_rules : list_all is_plain_rule (built apf_app).top.rules ≡ true
unfolding apf_app shape_for
top_rules = refl

top_own_ids : OwnIds (built apf_app).top.rules
unfolding apf_app shape_for
top_own_ids = (refl, (refl, tt))

top_wants_command : (built apf_app).top.subcommand_required ≡ true
unfolding apf_app shape_for
top_wants_command = refl

-- the command that the walk stopped at
abbrev pub Entered : Option (Text × List Row) → Type 0
Entered o = (name : Text) × ((rows : List Row) × (o ≡ Some (name, rows)) × IsCommand name rows)

entered_at : (stop : Option (Text × List Text)) → entered_fault (built apf_app) stop ≡ [] → is_some (entered (built apf_app) stop) ≡ true
    → MayStop (built apf_app).top (option_map (λ p. p.0) stop) → Entered (entered (built apf_app) stop)
entered_at None below some stays = absurd (true≢false (sym some))
entered_at (Some p) below some stays = go (find (λ s. answers_to p.0 (label_of s)) (built apf_app).subs) refl below some
  where
    go : (o : Option Shape) → find (λ s. answers_to p.0 (label_of s)) (built apf_app).subs ≡ o
        → option_map_or (λ s. level_fault s [] nothing_held p.1 false []) o [] ≡ [] → is_some (option_map (λ s. rows_at s p.1) o) ≡ true
        → Entered (option_map (λ s. rows_at s p.1) o)
    go None is below some = absurd (true≢false (sym some))
    go (Some s) is below some =
        let here = found IsEntered (λ s. answers_to p.0 (label_of s)) (built apf_app).subs s each_entered is in
        (s.name, (rows_after s.rules [] p.1, refl, here.0 p.0 p.1 here.1 stays below))

wanted : (b c : Bool) → (not b && c) ≡ false → c ≡ true → b ≡ true
wanted true c e k = refl
wanted false c e k = absurd (true≢false (sym k ∙ e))

-- words with no fault name a command, with its arguments
pub command_of : (words : List Text) → fault_of apf_app words ≡ [] → Entered (subcommand_of apf_app words)
command_of words e =
    let b = built apf_app in
    let rest = argument_words apf_app words in
    let stop = (walk b.top.rules (names_of b) nothing_held rest).stopped in
    let parts = level_parts b.top (names_of b) rest (is_some (entered b stop)) (entered_fault b stop) e in
    let holds = walk_holds b.top top_rules top_own_ids (names_of b) rest (walk_from nothing_held) (record { rows = tt; stop = tt }) parts.walked in
    let some = wanted (is_some (entered b stop)) b.top.subcommand_required (no_check _ _ _ parts.check).0 top_wants_command in
    entered_at stop parts.below some holds.stop
