-- What the arguments of a command are, where its words have no fault.
use Rattle.std.proofs.Common.{◌≡◌, ◌∙◌, ◌⊎◌, inl, inr, ◌<◌, ◌≤◌, ◌==◌, ◌&&◌, ◌||◌, ◌^◌, ℕ, Bool, cond, true, false, not, refl, sym, ap, subst, arith, List, [], ◌∷◌, drop, length, ◌++◌, Option, Some, None, Ok, is_some, codes, option_map, true≢false}
use Rattle.std.specs.Prelude.{pos, option_and_then, slice_get}
use Rattle.std.specs.List.{find, fold, list_all, list_any}
use Rattle.std.specs.Option.{option_map_or, unwrap_or}
use Rattle.std.specs.Str.{bytes_eq}
use Rattle.std.specs.Str.Parse.{IsNumeral, ParsesUnsigned, digits_value, starts_with_minus, without_leading_plus}
use Rattle.std.proofs.lemmas.Bool.{ne_eqb}
use Rattle.std.proofs.lemmas.Int.{ints}
use Rattle.std.proofs.lemmas.Slice.Eq.{bytes_eq-Decides}
use Rattle.std.proofs.lemmas.Str.Parse.{digit_from_value}
use Rattle.clap.specs.Facts.{explicit_source, parser_of_value}
use Rattle.clap.specs.Lexer.{without_minus}
use Rattle.clap.specs.Values.{Accepts, bool_text, IsSignedIn, IsUnsignedIn, read_as, refused_kind}
use Rattle.clap.specs.ValueTests.{accepts}
use Rattle.clap.specs.Walk.{Names, Row, Rule, Text, action_of, arg_by_id, default_rows, finished, first_of, has_row, is_empty, more_values, nothing_held, one_of, reading_by, row_text, rows_after, settled, walk, walk_from, with_default, with_values}
use Rattle.clap.specs.Simple.{Shape}
use Rattle.clap.specs.Takes.{is_given}
use Rattle.clap.specs.Kinds.{Kinds, check_kinds, request_kinds, value_kinds}
use Rattle.clap.specs.declared.builder.value_parser.Reading.{Reading}
use Rattle.clap.specs.declared.parser.matches.ValueSource.{ValueSource}
use Rattle.clap.specs.declared.parser.matches.ValueSource.TheVariants.{DefaultValue}
use Rattle.clap.specs.Faults.{check_fault, default_fault, defaults_fault, given_default_fault, values_fault, level_fault, settle_fault, walk_fault}
use Rattle.clap.proofs.ValueTestLemmas.{accepts-Accepts}
use Rattle.apf_commands.proofs.Taken.{Each, Each-weaker, IsTaken, IsTakenBy, OwnIds, found, is_plain_rule, no_fault, put_taken, settled_taken, some_kind, walk_holds}

-- ---- one level of the parse

-- a level with no fault has none in its steps
pub record IsFaultless (s : Shape) (names : Names) (words : List Text) (has_subcommand : Bool) (later : Kinds) : Type 0 where
  pub walked : walk_fault s names (walk_from nothing_held) words ≡ []
  pub below : later ≡ []
  pub settle : settle_fault s.rules s.args_override_self (walk s.rules names nothing_held words).held ≡ []
  pub defaults : defaults_fault (settled s.rules (walk s.rules names nothing_held words).held).rows s.rules ≡ []
  pub check : check_fault s (finished s.rules (walk s.rules names nothing_held words).held) has_subcommand ≡ []

pub level_parts : (s : Shape) (names : Names) (words : List Text) (has_subcommand : Bool) (below : Kinds)
    → level_fault s names nothing_held words has_subcommand below ≡ [] → IsFaultless s names words has_subcommand below
level_parts s names words has_subcommand below e =
    let end = (walk s.rules names nothing_held words).held in
    let walked = no_fault (walk_fault s names (walk_from nothing_held) words) _ e in
    let entered = no_fault below _ walked.1 in
    let settle = no_fault (settle_fault s.rules s.args_override_self end) _ entered.1 in
    let defaults = no_fault (defaults_fault (settled s.rules end).rows s.rules) _ settle.1 in
    record { walked = walked.0; below = entered.0; settle = settle.0; defaults = defaults.0; check = defaults.1 }

-- the checks found nothing missing
pub no_check : (help subcommand argument : Bool) → check_kinds help subcommand argument ≡ [] → (subcommand ≡ false) × (argument ≡ false)
no_check true subcommand argument e = absurd (some_kind e)
no_check false true argument e = absurd (some_kind e)
no_check false false true e = absurd (some_kind e)
no_check false false false e = (refl, refl)

-- ---- defaults

-- an argument's default leaves rows that are taken
default_taken : (c : List Rule) (a : Rule) (rows : List Row) → arg_by_id c a.id ≡ Some a → default_fault rows a ≡ [] → Each (IsTaken c) rows
    → Each (IsTaken c) (with_default rows a)
default_taken c a rows own e taken = go (has_row a.id rows) (is_empty a.defaults) a.defaults refl e
  where
    some : (v : Text) (vs : List Text) → is_empty (v ∷ vs) ≡ false
    some v vs = ne_eqb (length (v ∷ vs)) 0 (λ e. omega arith)

    go : (b d : Bool) (values : List Text) → is_empty values ≡ d → cond (b || d) [] (given_default_fault a values) ≡ []
        → Each (IsTaken c) (cond b rows (default_rows a.id (reading_by a) values rows))
    go true d values is e = taken
    go false d [] is e = taken
    go false true (v ∷ vs) is e = absurd (true≢false (sym is ∙ some v vs))
    go false false (v ∷ vs) is e =
        let passed = (no_fault (request_kinds (action_of a)) (values_fault a (v ∷ vs)) e).1 in
        put_taken c a DefaultValue v vs rows own (no_fault (value_kinds a.ignore_case (parser_of_value a.parser) v) _ passed).0 taken

defaults_taken : (c xs : List Rule) (rows : List Row) → Each (λ a. arg_by_id c a.id ≡ Some a) xs → defaults_fault rows xs ≡ [] → Each (IsTaken c) rows
    → Each (IsTaken c) (fold with_default rows xs)
unfolding defaults_fault
defaults_taken c [] rows own e taken = taken
defaults_taken c (a ∷ xs) rows own e taken =
    let parts = no_fault (default_fault rows a) (defaults_fault (with_default rows a) xs) e in
    defaults_taken c xs (with_default rows a) own.1 parts.1 (default_taken c a rows own.0 parts.0 taken)

-- values leave each row, and one of the argument
or_true : (b c : Bool) → c ≡ true → (b || c) ≡ true
or_true true c e = refl
or_true false c e = e

keeps_row : (i id : Text) (how : Reading) (s : ValueSource) (values : List Text) (rows : List Row) → has_row i rows ≡ true
    → has_row i (with_values id how s values rows) ≡ true
keeps_row i id how s values [] e = cc
keeps_row i id how s values (r ∷ rs) e = go (bytes_eq r.id id) (bytes_eq r.id i) e (keeps_row i id how s values rs) refl
  where
    go : (b d : Bool) → (d || has_row i rs) ≡ true → (has_row i rs ≡ true → has_row i (with_values id how s values rs) ≡ true)
        → bytes_eq r.id i ≡ d → list_any (λ x. bytes_eq x.id i) (cond b (more_values s values r ++ rs) (r ∷ with_values id how s values rs)) ≡ true
    go true d e later is = ap (λ b. b || has_row i rs) is ∙ e
    go false true e later is = ap (λ b. b || has_row i (with_values id how s values rs)) is
    go false false e later is = or_true (bytes_eq r.id i) _ (later e)

puts_row : (id : Text) (how : Reading) (s : ValueSource) (values : List Text) (rows : List Row) → has_row id (with_values id how s values rows) ≡ true
puts_row id how s values [] = ap (λ b. b || false) ((bytes_eq-Decides id id).1 refl)
puts_row id how s values (r ∷ rs) = go (bytes_eq r.id id) refl (puts_row id how s values rs)
  where
    go : (b : Bool) → bytes_eq r.id id ≡ b → has_row id (with_values id how s values rs) ≡ true
        → list_any (λ x. bytes_eq x.id id) (cond b (more_values s values r ++ rs) (r ∷ with_values id how s values rs)) ≡ true
    go true is later = ap (λ b. b || has_row id rs) is
    go false is later = or_true (bytes_eq r.id id) _ later

default_keeps : (i : Text) (a : Rule) (rows : List Row) → has_row i rows ≡ true → has_row i (with_default rows a) ≡ true
default_keeps i a rows e = go (has_row a.id rows) a.defaults
  where
    go : (b : Bool) (values : List Text) → has_row i (cond b rows (default_rows a.id (reading_by a) values rows)) ≡ true
    go true values = e
    go false [] = e
    go false (v ∷ vs) = keeps_row i a.id (reading_by a) DefaultValue (v ∷ vs) rows e

defaults_keep : (i : Text) (xs : List Rule) (rows : List Row) → has_row i rows ≡ true → has_row i (fold with_default rows xs) ≡ true
defaults_keep i [] rows e = e
defaults_keep i (a ∷ xs) rows e = defaults_keep i xs (with_default rows a) (default_keeps i a rows e)

default_puts : (a : Rule) (rows : List Row) → is_empty a.defaults ≡ false → has_row a.id (with_default rows a) ≡ true
default_puts a rows some = go (has_row a.id rows) a.defaults refl some
  where
    go : (b : Bool) (values : List Text) → has_row a.id rows ≡ b → is_empty values ≡ false → has_row a.id (cond b rows (default_rows a.id (reading_by a) values rows)) ≡ true
    go true values is some = is
    go false [] is some = cc
    go false (v ∷ vs) is some = puts_row a.id (reading_by a) DefaultValue (v ∷ vs) rows

-- an argument with a default has a row
abbrev DefaultHasRow : List Row → Rule → Type 0
DefaultHasRow rows a = is_empty a.defaults ≡ false → has_row a.id rows ≡ true

defaults_put : (xs : List Rule) (rows : List Row) → Each (DefaultHasRow (fold with_default rows xs)) xs
defaults_put [] rows = tt
defaults_put (a ∷ xs) rows = ((λ some. defaults_keep a.id xs (with_default rows a) (default_puts a rows some)), defaults_put xs (with_default rows a))

-- ---- the arguments of a command

-- a command of positionals and options with one value each, and of flags
pub record IsPlainShape (s : Shape) : Type 0 where
  pub rules : list_all is_plain_rule s.rules ≡ true
  pub own_ids : OwnIds s.rules
  pub negates : s.subcommand_negates_reqs ≡ false

-- the argument has a value that its parser accepts
pub record IsGiven (a : Rule) (rows : List Row) : Type 0 where
  pub text : Text
  pub first : first_of a.id rows ≡ Some text
  pub one : one_of a.id rows ≡ Some (read_as (reading_by a) text)
  pub accepted : Accepts a.ignore_case (parser_of_value a.parser) text

accepted_by : (a : Rule) (t : Text) → value_kinds a.ignore_case (parser_of_value a.parser) t ≡ [] → Accepts a.ignore_case (parser_of_value a.parser) t
accepted_by a t e = accepts-Accepts _ _ _ (go (accepts a.ignore_case (parser_of_value a.parser) t) e)
  where
    go : (b : Bool) → cond b [] (refused_kind (parser_of_value a.parser) ∷ []) ≡ [] → b ≡ true
    go true e = refl
    go false e = absurd (some_kind e)

either_false : (a b : Bool) → (a || b) ≡ false → (a ≡ false) × (b ≡ false)
either_false true b e = absurd (true≢false e)
either_false false b e = (refl, e)

each_fails : {X : Type 0} (p : X → Bool) (xs : List X) → list_any p xs ≡ false → Each (λ x. p x ≡ false) xs
each_fails p [] e = tt
each_fails p (x ∷ xs) e =
    let parts = either_false (p x) (list_any p xs) e in
    (parts.0, each_fails p xs parts.1)

-- the row of an argument has a value that its parser accepts
row_given : (c : List Rule) (a : Rule) (rows : List Row) (r : Row) → Each (IsTaken c) rows → arg_by_id c a.id ≡ Some a
    → find (λ r. bytes_eq r.id a.id) rows ≡ Some r → IsGiven a rows
row_given c a rows r taken own is = at r is (here.0.by a (subst (λ (i : Text). arg_by_id c i ≡ Some a) (sym same) own))
  where
    here : IsTaken c r × (bytes_eq r.id a.id ≡ true)
    here = found (IsTaken c) (λ r. bytes_eq r.id a.id) rows r taken is

    same : r.id ≡ a.id
    same = (bytes_eq-Decides r.id a.id).0 here.1

    at : (r : Row) → find (λ r. bytes_eq r.id a.id) rows ≡ Some r → IsTakenBy a r → IsGiven a rows
    at r is by =
        let first : first_of a.id rows ≡ slice_get r.values 0 = ap (option_and_then (λ (x : Row). slice_get x.values 0)) is in
        let one : one_of a.id rows ≡ option_map (read_as r.reading) (slice_get r.values 0)
        = ap (option_and_then (λ (x : Row). option_map (read_as x.reading) (slice_get x.values 0))) is in
        let start : slice_get r.values 0 ≡ Some by.text = ap (λ (vs : List Text). slice_get vs 0) by.values in
        record {
          text = by.text;
          first = first ∙ start;
          one = one ∙ (ap (option_map (read_as r.reading)) start ∙ ap (λ how. Some (read_as how by.text)) by.reading);
          accepted = accepted_by a by.text by.taken;
        }

given_by : (c : List Rule) (a : Rule) (rows : List Row) → Each (IsTaken c) rows → arg_by_id c a.id ≡ Some a → is_given a.id rows ≡ true → IsGiven a rows
given_by c a rows taken own given = go (find (λ r. bytes_eq r.id a.id) rows) refl given
  where
    go : (o : Option Row) → find (λ r. bytes_eq r.id a.id) rows ≡ o → option_map_or (λ r. explicit_source r.source) o false ≡ true → IsGiven a rows
    go None is e = absurd (true≢false (sym e))
    go (Some r) is e = row_given c a rows r taken own is

-- an argument is not given, or has a value that its parser accepts
abbrev pub IsMet : List Row → Rule → Type 0
IsMet rows a = (one_of a.id rows ≡ None) ⊎ IsGiven a rows

met_by : (c : List Rule) (rows : List Row) → Each (IsTaken c) rows → (a : Rule) → arg_by_id c a.id ≡ Some a → IsMet rows a
met_by c rows taken a own = go (find (λ r. bytes_eq r.id a.id) rows) refl
  where
    go : (o : Option Row) → find (λ r. bytes_eq r.id a.id) rows ≡ o → IsMet rows a
    go None is = inl (ap (option_and_then row_text) is)
    go (Some r) is = inr (row_given c a rows r taken own is)

-- an argument that must be given is
abbrev pub RequiredIsGiven : List Rule → List Row → Rule → Type 0
RequiredIsGiven c rows a = a.required ≡ true → arg_by_id c a.id ≡ Some a → IsGiven a rows

required_given : (c : List Rule) (rows : List Row) → Each (IsTaken c) rows → (a : Rule) → (a.required && not (is_given a.id rows)) ≡ false → RequiredIsGiven c rows a
required_given c rows taken a e required own = given_by c a rows taken own (go (is_given a.id rows) (rw required at e))
  where
    go : (b : Bool) → not b ≡ false → b ≡ true
    go true e = refl
    go false e = absurd (true≢false e)

-- where the words of a command have no fault, each row has a value that its argument takes
all_taken : (s : Shape) → IsPlainShape s → (words : List Text) → level_fault s [] nothing_held words false [] ≡ [] → Each (IsTaken s.rules) (rows_after s.rules [] words)
all_taken s plain words e =
    let parts = level_parts s [] words false [] e in
    let end = (walk s.rules [] nothing_held words).held in
    let walked = walk_holds s plain.rules plain.own_ids [] words (walk_from nothing_held) (record { rows = tt; stop = tt }) parts.walked in
    let held = settled_taken s.rules plain.rules plain.own_ids s.args_override_self end parts.settle walked.rows in
    defaults_taken s.rules s.rules (settled s.rules end).rows plain.own_ids parts.defaults held

-- there each argument that must be given is
pub all_given : (s : Shape) → IsPlainShape s → (words : List Text) → level_fault s [] nothing_held words false [] ≡ []
    → Each (RequiredIsGiven s.rules (rows_after s.rules [] words)) s.rules
all_given s plain words e =
    let parts = level_parts s [] words false [] e in
    let rows = rows_after s.rules [] words in
    let taken = all_taken s plain words e in
    let none_missing = (no_check _ _ _ parts.check).1 in
    let nothing_missing : list_any (λ a. a.required && not (is_given a.id rows)) s.rules ≡ false = rw plain.negates at none_missing in
    Each-weaker (λ a. (a.required && not (is_given a.id rows)) ≡ false) (RequiredIsGiven s.rules rows) (required_given s.rules rows taken) s.rules
    (each_fails (λ a. a.required && not (is_given a.id rows)) s.rules nothing_missing)

-- there each argument is not given, or has a value that its parser accepts
pub all_met : (s : Shape) → IsPlainShape s → (words : List Text) → level_fault s [] nothing_held words false [] ≡ []
    → Each (IsMet (rows_after s.rules [] words)) s.rules
all_met s plain words e =
    let rows = rows_after s.rules [] words in
    Each-weaker (λ a. arg_by_id s.rules a.id ≡ Some a) (IsMet rows) (met_by s.rules rows (all_taken s plain words e)) s.rules plain.own_ids

-- what passes a test is found by it
found_where : (p : Row → Bool) (xs : List Row) → list_any p xs ≡ true → is_some (find p xs) ≡ true
found_where p [] e = cc
found_where p (x ∷ xs) e = go (p x) e (found_where p xs)
  where
    go : (b : Bool) → (b || list_any p xs) ≡ true → (list_any p xs ≡ true → is_some (find p xs) ≡ true) → is_some (cond b (Some x) (find p xs)) ≡ true
    go true e later = refl
    go false e later = later e

-- an argument with a default has a value that its parser accepts
abbrev pub DefaultIsGiven : List Rule → List Row → Rule → Type 0
DefaultIsGiven c rows a = is_empty a.defaults ≡ false → arg_by_id c a.id ≡ Some a → IsGiven a rows

default_given : (c : List Rule) (rows : List Row) → Each (IsTaken c) rows → (a : Rule) → DefaultHasRow rows a → DefaultIsGiven c rows a
default_given c rows taken a has some own = go (find (λ r. bytes_eq r.id a.id) rows) refl (found_where (λ r. bytes_eq r.id a.id) rows (has some))
  where
    go : (o : Option Row) → find (λ r. bytes_eq r.id a.id) rows ≡ o → is_some o ≡ true → IsGiven a rows
    go None is e = cc
    go (Some r) is e = row_given c a rows r taken own is

-- there each argument with a default has a value that its parser accepts
pub all_filled : (s : Shape) → IsPlainShape s → (words : List Text) → level_fault s [] nothing_held words false [] ≡ []
    → Each (DefaultIsGiven s.rules (rows_after s.rules [] words)) s.rules
all_filled s plain words e =
    let rows = rows_after s.rules [] words in
    let settled_at = (settled s.rules (walk s.rules [] nothing_held words).held).rows in
    Each-weaker (DefaultHasRow rows) (DefaultIsGiven s.rules rows) (default_given s.rules rows (all_taken s plain words e)) s.rules (defaults_put s.rules settled_at)

-- ---- flags

-- the text of a flag is `true` or `false`
pub bool_reads : (t : Text) → (bytes_eq t (codes "true") || bytes_eq t (codes "false")) ≡ true → (b : Bool) × (t ≡ bool_text b)
bool_reads t e = go (bytes_eq t (codes "true")) refl e
  where
    go : (b : Bool) → bytes_eq t (codes "true") ≡ b → (b || bytes_eq t (codes "false")) ≡ true → (b : Bool) × (t ≡ bool_text b)
    go true is e = (true, (bytes_eq-Decides t (codes "true")).0 is)
    go false is e = (false, (bytes_eq-Decides t (codes "false")).0 e)

-- ---- numbers

without_minus-cond : (t : Text) → without_minus t ≡ cond (starts_with_minus t) (drop 1 t) t
without_minus-cond [] = refl
without_minus-cond (x ∷ xs) = go (x == 45)
  where
    go : (b : Bool) → unwrap_or (cond b (Some xs) None) (x ∷ xs) ≡ cond b xs (x ∷ xs)
    go true = refl
    go false = refl

no_plus : (ds : Text) → IsNumeral 10 ds → without_leading_plus ds ≡ ds
no_plus [] h = refl
no_plus (d ∷ ds) h =
    let plus : (d == 43) ≡ false = ne_eqb _ _ (λ e. omega (arith, digit_from_value d h.1.0)) in
    ap (λ (b : Bool). drop (cond b 1 0) (d ∷ ds)) plus

-- the text reads as a number of k bits in the range
abbrev pub ReadsIn : ℕ → ℕ → ℕ → Text → Type 0
ReadsIn k low high t = (n : ℕ) × ParsesUnsigned {E = Unit {0}} k 10 t (Ok n) × (low ≤ n) × (n ≤ high)

pub signed_reads : (k low high : ℕ) (t : Text) → high < 2 ^ k → IsSignedIn (pos low) (pos high) t → ReadsIn k low high (without_minus t)
signed_reads k low high t fits passed = subst (ReadsIn k low high) (sym (without_minus-cond t)) (go (starts_with_minus t) refl)
  where
    go : (b : Bool) → starts_with_minus t ≡ b → ReadsIn k low high (cond b (drop 1 t) t)
    go true minus =
        let low_ok = rw minus at passed.2 in
        let high_ok = rw minus at passed.3 in
        let numeral : IsNumeral 10 (drop 1 t) = rw minus at passed.0 in
        let same = no_plus (drop 1 t) numeral in
        let n = digits_value 10 (drop 1 t) in
        (n, ((rw same numeral, rw same (omega (arith, ints))), sym (ap (digits_value 10) same)), omega (arith, ints), omega (arith, ints))
    go false minus =
        let low_ok = rw minus at passed.2 in
        let high_ok = rw minus at passed.3 in
        let numeral = rw minus at passed.0 in
        (digits_value 10 (without_leading_plus t), ((numeral, omega (arith, ints)), refl), omega (arith, ints), omega (arith, ints))

pub unsigned_reads : (low high : ℕ) (t : Text) → IsUnsignedIn low high t → ReadsIn 64 low high t
unsigned_reads low high t h = (digits_value 10 (without_leading_plus t), ((h.0, h.1), refl), h.2, h.3)
