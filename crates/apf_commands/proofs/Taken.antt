-- What a walk over words with no fault holds: each row has a value that its argument takes.
use Rattle.std.proofs.Common.{◌≡◌, ◌∙◌, ◌==◌, ◌&&◌, ◌||◌, ◌⊎◌, inl, inr, ℕ, Bool, cond, true, false, not, zero, suc, refl, sym, ap, ap₂, subst, arith, List, [], ◌∷◌, ◌++◌, length, Option, Some, None, is_some, option_map, true≢false, codes}
use Rattle.std.specs.Prelude.{slice_get, encode_utf8, drop}
use Rattle.std.specs.List.{find, fold, list_all}
use Rattle.std.specs.Option.{option_map_or}
use Rattle.std.specs.Str.{bytes_eq, chars}
use Rattle.std.proofs.lemmas.Bool.{eqb-true}
use Rattle.std.proofs.lemmas.Slice.Eq.{bytes_eq-Decides}
use Rattle.clap.specs.Facts.{parser_of_value, unwrap_or_range}
use Rattle.clap.specs.Lexer.{long_of, short_of}
use Rattle.clap.specs.Walk.{Held, Names, Outcome, Row, Rule, Step, Text, Waiting, Walk, action_of, after_flag, after_step, arg_by_id, arg_by_index, arg_by_long, arg_by_short, at_row, attached_value, bundle, bundle_met, bundle_step, done, has_long, has_short, idle, is_empty, is_pending, long_or_other, flag_met, long_met, more_values, most_values, next, option, option_met, option_word, short_met, plain, plain_word, positional, reacted, reading_by, refused, settled, settled_rows, short_or_plain, subcommand, subcommand_met, subcommand_or_other, takes_several, takes_values, to_positional, trailing, used, used_by_id, value, values_or_missing, waits, walked, walked_from, with_values, without, word_met}
use Rattle.clap.specs.Simple.{Shape}
use Rattle.clap.specs.Kinds.{Kinds, or_else, range_kinds, value_kinds}
use Rattle.clap.specs.Faults.{bundle_fault, bundle_step_fault, flag_word_fault, flags_fault, long_fault, other_fault, positional_fault, option_fault, react_fault, repeat_fault, set_fault, stray_fault, settle_fault, values_fault, short_fault, step_fault, turn_fault, use_fault, walk_fault, word_fault, action_fault}
use Rattle.clap.specs.declared.builder.action.ArgAction.{ArgAction}
use Rattle.clap.specs.declared.builder.action.ArgAction.TheVariants.{Set, Append, SetTrue, SetFalse, Count, Help, HelpShort, HelpLong, Version}
use Rattle.clap.specs.declared.parser.matches.ValueSource.TheVariants.{CommandLine}
use Rattle.clap.specs.declared.parser.matches.ValueSource.{ValueSource}
use Rattle.clap.specs.declared.error.kind.ErrorKind.{ErrorKind}
use Rattle.clap.specs.declared.error.kind.ErrorKind.TheVariants as kind
use Rattle.clap.proofs.WalkLemmas.{both}
use Rattle.clap.proofs.SimpleLemmas.{is_false}

-- ---- lists

-- the fact holds of each element
abbrev pub Each : {X : Type 0} → (X → Type 0) → List X → Type 0
Each P [] = Unit {0}
Each P (x ∷ xs) = P x × Each P xs

pub each_passes : {X : Type 0} (p : X → Bool) (xs : List X) → list_all p xs ≡ true → Each (λ x. p x ≡ true) xs
each_passes p [] e = tt
each_passes p (x ∷ xs) e =
    let parts = both (p x) (list_all p xs) e in
    (parts.0, each_passes p xs parts.1)

pub Each-weaker : {X : Type 0} (P Q : X → Type 0) → ((x : X) → P x → Q x) → (xs : List X) → Each P xs → Each Q xs
Each-weaker P Q step [] h = tt
Each-weaker P Q step (x ∷ xs) h = (step x h.0, Each-weaker P Q step xs h.1)

Each-append : {X : Type 0} (P : X → Type 0) (xs ys : List X) → Each P xs → Each P ys → Each P (xs ++ ys)
Each-append P [] ys h k = k
Each-append P (x ∷ xs) ys h k = (h.0, Each-append P xs ys h.1 k)

-- the element that a search finds is one of them, and passes the test
pub found : {X : Type 0} (P : X → Type 0) (p : X → Bool) (xs : List X) (x : X) → Each P xs → find p xs ≡ Some x → P x × (p x ≡ true)
found P p [] x h e = cc
found {X} P p (y ∷ ys) x h e = go (p y) refl e (found P p ys x h.1)
  where
    go : (b : Bool) → p y ≡ b → cond b (Some y) (find p ys) ≡ Some x → (find p ys ≡ Some x → P x × (p x ≡ true)) → P x × (p x ≡ true)
    go true is s later =
        let same : y ≡ x = cc in
        let Q : X → Type 0 = λ z. P z × (p z ≡ true) in
        subst Q same (h.0, is)
    go false is s later = later s

-- ---- faults

pub no_fault : (a b : Kinds) → or_else a b ≡ [] → (a ≡ []) × (b ≡ [])
no_fault [] b e = (refl, e)
no_fault (k ∷ ks) b e = cc

pub some_kind : {k : ErrorKind} {ks : Kinds} → k ∷ ks ≡ [] → ⊥
some_kind e = cc

-- ---- arguments

-- a use puts one value
abbrev is_put : ArgAction → Bool
is_put Set = true
is_put Append = true
is_put _ = false

abbrev is_set_true : ArgAction → Bool
is_set_true SetTrue = true
is_set_true _ = false

abbrev is_request : ArgAction → Bool
is_request Help = true
is_request Version = true
is_request _ = false

put_only : (x : ArgAction) → is_put x ≡ true → (x ≡ Set) ⊎ (x ≡ Append)
put_only Set e = inl refl
put_only Append e = inr refl
put_only SetTrue e = cc
put_only SetFalse e = cc
put_only Count e = cc
put_only Help e = cc
put_only HelpShort e = cc
put_only HelpLong e = cc
put_only Version e = cc

set_true_only : (x : ArgAction) → is_set_true x ≡ true → x ≡ SetTrue
set_true_only SetTrue e = refl
set_true_only Set e = cc
set_true_only Append e = cc
set_true_only SetFalse e = cc
set_true_only Count e = cc
set_true_only Help e = cc
set_true_only HelpShort e = cc
set_true_only HelpLong e = cc
set_true_only Version e = cc

-- no use of an argument that asks for help or the version passes
request_fails : (x : ArgAction) (again : Bool) (a : Rule) (values : List Text) (rows : List Row) → is_request x ≡ true → action_fault x again a values rows ≡ [] → ⊥
request_fails Help again a values rows e f = some_kind f
request_fails Version again a values rows e f = some_kind f
request_fails Set again a values rows e f = cc
request_fails Append again a values rows e f = cc
request_fails SetTrue again a values rows e f = cc
request_fails SetFalse again a values rows e f = cc
request_fails Count again a values rows e f = cc
request_fails HelpShort again a values rows e f = cc
request_fails HelpLong again a values rows e f = cc

-- an argument of which a use has one value
abbrev is_single : Rule → Bool
is_single a = is_put (action_of a) && ((unwrap_or_range a.range).start_inclusive == 1 && most_values a == 1)

-- what is given or not, and has a value that stands for its use
abbrev is_switch : Rule → Bool
is_switch a = is_set_true (action_of a) && not (is_empty a.missing)

-- a flag that asks for help or the version, or that is given or not
abbrev is_flag : Rule → Bool
is_flag a = not (takes_values a) && (is_request (action_of a) || is_switch a)

-- each argument has one value, as a positional or an option, or is such a flag
abbrev pub is_plain_rule : Rule → Bool
is_plain_rule a = cond (is_some a.index) (is_single a) (is_single a || is_flag a)

-- each argument is the first of its id
abbrev pub OwnIds : List Rule → Type 0
OwnIds c = Each (λ a. arg_by_id c a.id ≡ Some a) c

-- the row has a value that the argument takes
pub record IsTakenBy (a : Rule) (r : Row) : Type 0 where
  pub text : Text
  pub rest : List Text
  pub values : r.values ≡ text ∷ rest
  pub reading : r.reading ≡ reading_by a
  pub taken : value_kinds a.ignore_case (parser_of_value a.parser) text ≡ []

-- the row has a value that its argument takes
pub record IsTaken (c : List Rule) (r : Row) : Type 0 where
  pub by : (a : Rule) → arg_by_id c r.id ≡ Some a → IsTakenBy a r

-- one value is wanted, so there is one
one_wanted : (n : ℕ) → range_kinds 1 1 n ≡ [] → n ≡ 1
one_wanted n e = go (n == 0) (1 == n) refl e
  where
    go : (b d : Bool) → (1 == n) ≡ d → cond b (kind.InvalidValue ∷ []) (cond d [] (kind.WrongNumberOfValues ∷ [])) ≡ [] → n ≡ 1
    go true d is h = cc
    go false true is h = sym (eqb-true 1 n is)
    go false false is h = cc

one_value : (values : List Text) → length values ≡ 1 → (t : Text) × (values ≡ t ∷ [])
one_value [] e = absurd (omega arith)
one_value (t ∷ []) e = (t, refl)
one_value (t ∷ u ∷ rest) e = absurd (omega arith)

-- a list of values, with a first one
abbrev HasFirst : List Text → Type 0
HasFirst values = (t : Text) × ((rest : List Text) × (values ≡ t ∷ rest))

first_value : (values : List Text) → not (is_empty values) ≡ true → HasFirst values
first_value [] e = cc
first_value (t ∷ rest) e = (t, (rest, refl))

-- a use has values, or those that stand for a use with none
use_values : (a : Rule) (values : List Text) → not (is_empty a.missing) ≡ true → HasFirst (values_or_missing a values)
use_values a [] e = first_value a.missing e
use_values a (t ∷ rest) e = (t, (rest, refl))

-- ---- rows

rows_changed : (P : Row → Type 0) (id : Text) (change : Row → List Row) (missing rows : List Row)
    → ((r : Row) → bytes_eq r.id id ≡ true → P r → Each P (change r)) → Each P missing → Each P rows → Each P (at_row id change missing rows)
rows_changed P id change missing [] one new h = new
rows_changed P id change missing (r ∷ rs) one new h = go (bytes_eq r.id id) refl (rows_changed P id change missing rs one new h.1)
  where
    go : (b : Bool) → bytes_eq r.id id ≡ b → Each P (at_row id change missing rs) → Each P (cond b (change r ++ rs) (r ∷ at_row id change missing rs))
    go true is later = Each-append P (change r) rs (one r is h.0) h.1
    go false is later = (h.0, later)

more_taken : (c : List Rule) (s : ValueSource) (values : List Text) (r : Row) → IsTaken c r → Each (IsTaken c) (more_values s values r)
more_taken c s values r h = (
  record {
    by = λ a is.
        let t = h.by a is in
        record { text = t.text; rest = t.rest ++ values; values = ap (λ vs. vs ++ values) t.values; reading = t.reading; taken = t.taken };
  },
  tt,
)

new_taken : (c : List Rule) (a : Rule) (t : Text) (rest : List Text) (r : Row) → arg_by_id c r.id ≡ Some a → r.values ≡ t ∷ rest → r.reading ≡ reading_by a
    → value_kinds a.ignore_case (parser_of_value a.parser) t ≡ [] → IsTaken c r
new_taken c a t rest r is values reading taken = record {
  by = λ b found_b.
      let same : a ≡ b = cc in
      let P : Rule → Type 0 = λ z. IsTakenBy z r in
      subst P same (record { text = t; rest = rest; values = values; reading = reading; taken = taken });
}

-- an argument gets values, the first of which it takes
pub put_taken : (c : List Rule) (a : Rule) (s : ValueSource) (t : Text) (rest : List Text) (rows : List Row) → arg_by_id c a.id ≡ Some a
    → value_kinds a.ignore_case (parser_of_value a.parser) t ≡ [] → Each (IsTaken c) rows
    → Each (IsTaken c) (with_values a.id (reading_by a) s (t ∷ rest) rows)
put_taken c a s t rest rows is taken h =
    let new : Row = record { id = a.id; values = t ∷ rest; count = None; source = Some s; reading = reading_by a } in
    rows_changed (IsTaken c) a.id (more_values s (t ∷ rest)) (new ∷ []) rows
    (λ r e p. more_taken c s (t ∷ rest) r p) (new_taken c a t rest new is refl refl taken, tt) h

-- they take the place of those that it had
with_taken : (c : List Rule) (a : Rule) (t : Text) (rest : List Text) (rows : List Row) → arg_by_id c a.id ≡ Some a
    → value_kinds a.ignore_case (parser_of_value a.parser) t ≡ [] → Each (IsTaken c) rows
    → Each (IsTaken c) (with_values a.id (reading_by a) CommandLine (t ∷ rest) (without a.id rows))
with_taken c a t rest rows is taken h =
    put_taken c a CommandLine t rest (without a.id rows) is taken (rows_changed (IsTaken c) a.id (λ _. []) [] rows (λ r e p. tt) tt h)

-- ---- one use of an argument

either_true : (a b : Bool) → (a || b) ≡ true → (a ≡ true) ⊎ (b ≡ true)
either_true true b e = inl refl
either_true false b e = inr e

-- a rule that takes one value takes values
single_takes : (a : Rule) → is_single a ≡ true → takes_values a ≡ true
single_takes a single =
    let most : most_values a ≡ 1 = eqb-true _ _ (both _ _ (both _ _ single).1).1 in
    ap (λ n. not (n == 0)) most

module _ (c : List Rule) (plain_rules : list_all is_plain_rule c ≡ true) (own_ids : OwnIds c) where
  -- an argument that is found by a test is plain, and passes the test
  plain_found : (p : Rule → Bool) (a : Rule) → find p c ≡ Some a → (is_plain_rule a ≡ true) × (p a ≡ true)
  plain_found p a is = found (λ x. is_plain_rule x ≡ true) p c a (each_passes is_plain_rule c plain_rules) is

  -- no use of a flag that asks for help or the version passes
  flag_fails : (again : Bool) (a : Rule) (values : List Text) (rows : List Row) → is_request (action_of a) ≡ true → use_fault again a values rows ≡ [] → ⊥
  flag_fails again a values rows request e =
      request_fails (action_of a) again a (values_or_missing a values) rows request
      (no_fault (range_kinds (unwrap_or_range a.range).start_inclusive (most_values a) (length values)) _ e).1

  -- what is put are values that the argument takes
  put_passes : (again : Bool) (a : Rule) (values : List Text) (rows : List Row) → is_put (action_of a) ≡ true → action_fault (action_of a) again a values rows ≡ []
      → values_fault a values ≡ []
  put_passes again a values rows put e =
      elim (put_only (action_of a) put) [
        | inl set ↦ (let fault : set_fault again a values rows ≡ [] = rw set at e in (no_fault (repeat_fault again a.id rows) (values_fault a values) fault).1)
        | inr append ↦ rw append at e
      ]

  single_value : (again : Bool) (a : Rule) (values : List Text) (rows : List Row) → is_single a ≡ true → use_fault again a values rows ≡ []
      → (t : Text) × (values ≡ t ∷ []) × (value_kinds a.ignore_case (parser_of_value a.parser) t ≡ [])
  single_value again a values rows single e =
      let tests = both _ _ single in
      let ends = both _ _ tests.1 in
      let least : (unwrap_or_range a.range).start_inclusive ≡ 1 = eqb-true _ _ ends.0 in
      let most : most_values a ≡ 1 = eqb-true _ _ ends.1 in
      let parts = no_fault (range_kinds (unwrap_or_range a.range).start_inclusive (most_values a) (length values)) _ e in
      let range : range_kinds 1 1 (length values) ≡ [] = ap₂ (λ i j. range_kinds i j (length values)) (sym least) (sym most) ∙ parts.0 in
      let one = one_value values (one_wanted (length values) range) in
      let passed = put_passes again a (values_or_missing a values) rows tests.0 parts.1 in
      let first : values_fault a (one.0 ∷ []) ≡ [] = rw one.1 at passed in
      (one.0, one.1, (no_fault _ _ first).0)

  -- a use of a flag that is given or not has values, the first of which it takes
  switch_value : (again : Bool) (a : Rule) (values : List Text) (rows : List Row) → is_switch a ≡ true → use_fault again a values rows ≡ []
      → (t : Text) × ((rest : List Text) × (values_or_missing a values ≡ t ∷ rest) × (value_kinds a.ignore_case (parser_of_value a.parser) t ≡ []))
  switch_value again a values rows switch e =
      let tests = both (is_set_true (action_of a)) (not (is_empty a.missing)) switch in
      let action : action_of a ≡ SetTrue = set_true_only (action_of a) tests.0 in
      let has = use_values a values tests.1 in
      let parts = no_fault (range_kinds (unwrap_or_range a.range).start_inclusive (most_values a) (length values)) _ e in
      let set : set_fault again a (values_or_missing a values) rows ≡ [] = rw action at parts.1 in
      let passed : values_fault a (values_or_missing a values) ≡ [] = (no_fault _ _ set).1 in
      let first : values_fault a (has.0 ∷ has.1.0) ≡ [] = subst (λ (vs : List Text). values_fault a vs ≡ []) has.1.1 passed in
      (has.0, (has.1.0, has.1.1, (no_fault _ _ first).0))

  used_taken : (again : Bool) (a : Rule) (id : Text) (values : List Text) (rows : List Row) → arg_by_id c id ≡ Some a
      → use_fault again a values rows ≡ [] → Each (IsTaken c) rows → Each (IsTaken c) (used a values rows)
  used_taken again a id values rows is e h = go (is_some a.index) got.0
    where
      got : (is_plain_rule a ≡ true) × (bytes_eq a.id id ≡ true)
      got = plain_found (λ x. bytes_eq x.id id) a is

      by_own_id : arg_by_id c a.id ≡ Some a
      by_own_id = subst (λ (i : Text). arg_by_id c i ≡ Some a) (sym ((bytes_eq-Decides a.id id).0 got.1)) is

      by_value : is_single a ≡ true → Each (IsTaken c) (used a values rows)
      by_value single =
          let one = single_value again a values rows single e in
          elim (put_only (action_of a) (both _ _ single).0) [
            | inl set ↦ rw (set, one.1) (with_taken c a one.0 [] rows by_own_id one.2 h)
            | inr append ↦ rw (append, one.1) (put_taken c a CommandLine one.0 [] rows by_own_id one.2 h)
          ]

      by_switch : is_switch a ≡ true → Each (IsTaken c) (used a values rows)
      by_switch switch =
          let action : action_of a ≡ SetTrue = set_true_only (action_of a) (both (is_set_true (action_of a)) (not (is_empty a.missing)) switch).0 in
          let has = switch_value again a values rows switch e in
          let taken = with_taken c a has.0 has.1.0 rows by_own_id has.1.2 h in
          rw action (subst (λ (vs : List Text). Each (IsTaken c) (with_values a.id (reading_by a) CommandLine vs (without a.id rows))) (sym has.1.1) taken)

      by_flag : is_flag a ≡ true → Each (IsTaken c) (used a values rows)
      by_flag flag =
          elim (either_true (is_request (action_of a)) (is_switch a) (both (not (takes_values a)) (is_request (action_of a) || is_switch a) flag).1) [
            | inl request ↦ absurd (flag_fails again a values rows request e)
            | inr switch ↦ by_switch switch
          ]

      go : (b : Bool) → cond b (is_single a) (is_single a || is_flag a) ≡ true → Each (IsTaken c) (used a values rows)
      go true single = by_value single
      go false either =
          elim (either_true (is_single a) (is_flag a) either) [
            | inl single ↦ by_value single
            | inr flag ↦ by_flag flag
          ]

  pub settled_taken : (again : Bool) (h : Held) → settle_fault c again h ≡ [] → Each (IsTaken c) h.rows → Each (IsTaken c) (settled c h).rows
  settled_taken again h e taken = go h.pending e
    where
      use_one : (p : Text × List Text) (o : Option Rule) → arg_by_id c p.0 ≡ o → option_map_or (λ a. use_fault again a p.1 h.rows) o [] ≡ []
          → Each (IsTaken c) (used_by_id o p.1 h.rows)
      use_one p None is e = taken
      use_one p (Some a) is e = used_taken again a p.0 p.1 h.rows is e taken

      go : (o : Option (Text × List Text)) → option_map_or (λ p. option_map_or (λ a. use_fault again a p.1 h.rows) (arg_by_id c p.0) []) o [] ≡ []
          → Each (IsTaken c) (settled_rows c o h.rows)
      go None e = taken
      go (Some p) e = use_one p (arg_by_id c p.0) refl e

  -- ---- the walk

  -- a use leaves rows that are taken
  reacted_taken : (again : Bool) (a : Rule) (values : List Text) (h : Held) → arg_by_id c a.id ≡ Some a → react_fault c again a values h ≡ []
      → Each (IsTaken c) h.rows → Each (IsTaken c) (reacted c a values h).rows
  reacted_taken again a values h is e taken =
      let parts = no_fault (settle_fault c again h) (use_fault again a values (settled c h).rows) e in
      used_taken again a a.id values (settled c h).rows is parts.1 (settled_taken again h parts.0 taken)

  -- an option with its value, or one that waits for it, does so too
  option_taken : (again : Bool) (a : Rule) (v : Option Text) (h : Held) → arg_by_id c a.id ≡ Some a → option_fault c again a v h ≡ []
      → Each (IsTaken c) h.rows → Each (IsTaken c) (option_met c a v h).0.rows
  option_taken again a None h is e taken = settled_taken again h e taken
  option_taken again a (Some v) h is e taken = reacted_taken again a (v ∷ []) h is e taken

  -- what is found by a name is an option with one value, or a flag, and is the first of its id
  record IsNamed (a : Rule) : Type 0 where
    kind : (is_single a || is_flag a) ≡ true
    own : arg_by_id c a.id ≡ Some a

  named_found : (p : Rule → Bool) (a : Rule) → find (λ x. not (is_some x.index) && p x) c ≡ Some a → IsNamed a
  named_found p a is = record { kind = go (is_some a.index) got.0 (is_false _ (both _ _ got.1).0); own = (found (λ x. arg_by_id c x.id ≡ Some x) _ c a own_ids is).0 }
    where
      got : (is_plain_rule a ≡ true) × ((not (is_some a.index) && p a) ≡ true)
      got = plain_found (λ x. not (is_some x.index) && p x) a is

      go : (b : Bool) → cond b (is_single a) (is_single a || is_flag a) ≡ true → b ≡ false → (is_single a || is_flag a) ≡ true
      go true kind miss = absurd (true≢false miss)
      go false kind miss = kind

  long_named : (again : Bool) (a : Rule) (v : Option Text) (h : Held) → IsNamed a → long_fault c again (Some a) v h ≡ []
      → Each (IsTaken c) h.rows → Each (IsTaken c) (long_met c (Some a) v h).0.rows
  long_named again a v h named e taken =
      elim (either_true (is_single a) (is_flag a) named.kind) [
        | inl single ↦ go (takes_values a) (single_takes a single) e
        | inr flag ↦ flag_case (takes_values a) (is_false _ (both _ _ flag).0) v e
      ]
    where
      go : (b : Bool) → b ≡ true
          → cond b (option_fault c again a v h) (cond (is_some v) (kind.TooManyValues ∷ []) (react_fault c again a [] h)) ≡ []
          → Each (IsTaken c) (cond b (option_met c a v h) (flag_met c a v h)).0.rows
      go true is e = option_taken again a v h named.own e taken
      go false is e = absurd (true≢false (sym is))

      flag_case : (b : Bool) → b ≡ false → (v : Option Text)
          → cond b (option_fault c again a v h) (cond (is_some v) (kind.TooManyValues ∷ []) (react_fault c again a [] h)) ≡ []
          → Each (IsTaken c) (cond b (option_met c a v h) (flag_met c a v h)).0.rows
      flag_case true miss v e = absurd (true≢false miss)
      flag_case false miss (Some t) e = absurd (some_kind e)
      flag_case false miss None e = reacted_taken again a [] h named.own e taken

  long_taken : (again : Bool) (name : Text) (v : Option Text) (h : Held) → long_fault c again (arg_by_long c name) v h ≡ []
      → Each (IsTaken c) h.rows → Each (IsTaken c) (long_met c (arg_by_long c name) v h).0.rows
  long_taken again name v h e taken = go (arg_by_long c name) refl e
    where
      go : (o : Option Rule) → arg_by_long c name ≡ o → long_fault c again o v h ≡ [] → Each (IsTaken c) (long_met c o v h).0.rows
      go None is e = absurd (some_kind e)
      go (Some a) is e = long_named again a v h (named_found (λ x. has_long x name) a is) e taken

  -- what comes later in a bundle leaves rows that are taken
  abbrev LaterTaken : (Held → Kinds) → (Held → Held × Outcome) → Type 0
  LaterTaken after later = (h : Held) → after h ≡ [] → Each (IsTaken c) h.rows → Each (IsTaken c) (later h).0.rows

  -- what a flag of a bundle leaves, where what comes after it does so too
  short_named : (again : Bool) (a : Rule) (rest : Text) (h : Held) (after : Held → Kinds) (later : Held → Held × Outcome) → LaterTaken after later → IsNamed a
      → short_fault c again (Some a) rest h after ≡ [] → Each (IsTaken c) h.rows → Each (IsTaken c) (short_met c (Some a) rest h later).0.rows
  short_named again a rest h after later passes named e taken =
      elim (either_true (is_single a) (is_flag a) named.kind) [
        | inl single ↦ go (takes_values a) (single_takes a single) e
        | inr flag ↦ flag_case (takes_values a) (is_false _ (both _ _ flag).0) e
      ]
    where
      go : (b : Bool) → b ≡ true
          → cond b (option_fault c again a (attached_value rest) h) (or_else (react_fault c again a [] h) (after (reacted c a [] h))) ≡ []
          → Each (IsTaken c) (cond b (option_met c a (attached_value rest) h) (later (reacted c a [] h))).0.rows
      go true is e = option_taken again a (attached_value rest) h named.own e taken
      go false is e = absurd (true≢false (sym is))

      flag_case : (b : Bool) → b ≡ false
          → cond b (option_fault c again a (attached_value rest) h) (or_else (react_fault c again a [] h) (after (reacted c a [] h))) ≡ []
          → Each (IsTaken c) (cond b (option_met c a (attached_value rest) h) (later (reacted c a [] h))).0.rows
      flag_case true miss e = absurd (true≢false miss)
      flag_case false miss e =
          let parts = no_fault (react_fault c again a [] h) (after (reacted c a [] h)) e in
          passes (reacted c a [] h) parts.1 (reacted_taken again a [] h named.own parts.0 taken)

  short_taken : (again : Bool) (x : ℕ) (rest : Text) (h : Held) (after : Held → Kinds) (later : Held → Held × Outcome) → LaterTaken after later
      → short_fault c again (arg_by_short c x) rest h after ≡ [] → Each (IsTaken c) h.rows → Each (IsTaken c) (short_met c (arg_by_short c x) rest h later).0.rows
  short_taken again x rest h after later passes e taken = go (arg_by_short c x) refl e
    where
      go : (o : Option Rule) → arg_by_short c x ≡ o → short_fault c again o rest h after ≡ [] → Each (IsTaken c) (short_met c o rest h later).0.rows
      go None is e = absurd (some_kind e)
      go (Some a) is e = short_named again a rest h after later passes (named_found (λ y. has_short y x) a is) e taken

  -- the flags of a bundle leave rows that are taken
  bundle_taken : (again : Bool) (k : ℕ) (flags : Text) (skip : ℕ) (so_far : Outcome) (h : Held) → flags_fault c again k flags skip h ≡ []
      → Each (IsTaken c) h.rows → Each (IsTaken c) (bundle_met c k flags skip so_far h).0.rows
  unfolding flags_fault bundle_met
  bundle_taken again zero flags skip so_far h e taken = taken
  bundle_taken again (suc k) flags skip so_far h e taken = go (slice_get (chars flags) 0) skip e (bundle_taken again k)
    where
      go : (o : Option ℕ) (skip : ℕ) → bundle_step_fault c again o flags skip h (flags_fault c again k) ≡ []
          → ((flags : Text) (skip : ℕ) (so_far : Outcome) (h : Held) → flags_fault c again k flags skip h ≡ [] → Each (IsTaken c) h.rows
          → Each (IsTaken c) (bundle_met c k flags skip so_far h).0.rows)
          → Each (IsTaken c) (bundle_step c o flags skip so_far h (bundle_met c k)).0.rows
      go None skip e later = taken
      go (Some x) zero e later =
          let rest = drop (length (encode_utf8 x)) flags in
          short_taken again x rest h (flags_fault c again k rest 0) (bundle_met c k rest 0 done) (later rest 0 done) e taken
      go (Some x) (suc skip) e later = later (drop (length (encode_utf8 x)) flags) skip so_far h e taken

-- ---- what a word leaves

-- the walk may stop at this name
abbrev pub MayStop : Shape → Option Text → Type 0
MayStop s None = Unit {0}
MayStop s (Some name) = (bytes_eq name (codes "help") && not s.disable_help_subcommand) ≡ false

abbrev StepMayStop : Shape → Step → Type 0
StepMayStop s (subcommand name) = MayStop s (Some name)
StepMayStop s _ = Unit {0}

-- the rows are taken, and the step is no call for help
record Passes (s : Shape) (met : Held × Step) : Type 0 where
  pub rows : Each (IsTaken s.rules) met.0.rows
  pub step : StepMayStop s met.1

plain_passes : (s : Shape) (waiting : Waiting) (word : Text) (h : Held) → Each (IsTaken s.rules) h.rows → Passes s (plain_word s.rules waiting word h)
plain_passes s idle word h taken = record { rows = taken; step = tt }
plain_passes s positional word h taken = record { rows = taken; step = tt }
plain_passes s (option id) word h taken = go (arg_by_id s.rules id)
  where
    go : (o : Option Rule) → Passes s ((option_word o id word h).0, next (option_word o id word h).1)
    go None = record { rows = taken; step = tt }
    go (Some a) = record { rows = taken; step = tt }

after_flag_passes : (s : Shape) (waiting : Waiting) (word : Text) (h : Held) (o : Outcome) → Each (IsTaken s.rules) h.rows
    → Passes s (after_flag s.rules waiting word h o)
after_flag_passes s waiting word h done taken = record { rows = taken; step = tt }
after_flag_passes s waiting word h (waits id) taken = record { rows = taken; step = tt }
after_flag_passes s waiting word h plain taken = plain_passes s waiting word h taken
after_flag_passes s waiting word h refused taken = plain_passes s waiting word h taken

module _ (s : Shape) (plain_rules : list_all is_plain_rule s.rules ≡ true) (own_ids : OwnIds s.rules) where
  flag_word_passes : (waiting : Waiting) (word : Text) (h : Held) (long : Option (Text × Option Text))
      → flag_word_fault s.rules s.args_override_self long word h ≡ [] → Each (IsTaken s.rules) h.rows → Passes s (long_or_other s.rules waiting word long h)
  flag_word_passes waiting word h (Some p) e taken =
      let met = long_met s.rules (arg_by_long s.rules p.0) p.1 h in
      after_flag_passes s waiting word met.0 met.1 (long_taken s.rules plain_rules own_ids s.args_override_self p.0 p.1 h e taken)
  flag_word_passes waiting word h None e taken = go (short_of word) e
    where
      go : (o : Option Text) → option_map_or (λ flags. bundle_fault s.rules s.args_override_self flags h) o [] ≡ []
          → Passes s (short_or_plain s.rules waiting word o h)
      go None e = plain_passes s waiting word h taken
      go (Some flags) e =
          after_flag_passes s waiting word (bundle s.rules flags h).0 (bundle s.rules flags h).1
          (bundle_taken s.rules plain_rules own_ids s.args_override_self (length flags) flags h.skip plain (record h { skip = 0 }) e taken)

  other_passes : (waiting : Waiting) (position : ℕ) (word : Text) (h : Held) (name : Option Text) → other_fault s name word h ≡ []
      → Each (IsTaken s.rules) h.rows → Passes s (subcommand_or_other s.rules name waiting position word h)
  other_passes waiting position word h (Some name) e taken = record { rows = taken; step = go (bytes_eq name (codes "help") && not s.disable_help_subcommand) e }
    where
      go : (b : Bool) → cond b (kind.DisplayHelp ∷ kind.InvalidSubcommand ∷ []) [] ≡ [] → b ≡ false
      go true e = absurd (some_kind e)
      go false e = refl
  other_passes waiting position word h None e taken = go (bytes_eq word (45 ∷ 45 ∷ [])) e
    where
      go : (b : Bool) → cond b [] (flag_word_fault s.rules s.args_override_self (long_of word) word h) ≡ []
          → Passes s (cond b (h, trailing position) (long_or_other s.rules waiting word (long_of word) h))
      go true e = record { rows = taken; step = tt }
      go false e = flag_word_passes waiting word h (long_of word) e taken

  word_passes : (names : Names) (is_trailing : Bool) (waiting : Waiting) (position : ℕ) (word : Text) (h : Held)
      → word_fault s names is_trailing waiting word h ≡ [] → Each (IsTaken s.rules) h.rows → Passes s (word_met s.rules names is_trailing waiting position word h)
  word_passes names true waiting position word h e taken = record { rows = taken; step = tt }
  word_passes names false waiting position word h e taken = other_passes waiting position word h (subcommand_met names waiting word) e taken

  -- ---- the walk

  -- each row is taken, and the walk has not stopped at a call for help
  pub record Holds (w : Walk) : Type 0 where
    pub rows : Each (IsTaken s.rules) w.held.rows
    pub stop : MayStop s (option_map (λ p. p.0) w.stopped)

  positional_holds : (w : Walk) (word : Text) (h : Held) (o : Option Rule) → w.stopped ≡ None → Each (IsTaken s.rules) h.rows
      → option_map_or (λ a. positional_fault s.rules s.args_override_self a h) o (stray_fault s) ≡ [] → Holds (to_positional s.rules o word w h)
  positional_holds w word h None on taken e = record { rows = taken; stop = subst (λ (o : Option (Text × List Text)). MayStop s (option_map (λ p. p.0) o)) (sym on) tt }
  positional_holds w word h (Some a) on taken e = record { rows = go (is_pending a h.pending && takes_several a) e; stop = tt }
    where
      go : (b : Bool) → cond b [] (settle_fault s.rules s.args_override_self h) ≡ [] → Each (IsTaken s.rules) (cond b h (settled s.rules h)).rows
      go true e = taken
      go false e = settled_taken s.rules plain_rules own_ids s.args_override_self h e taken

  step_holds : (w : Walk) (word : Text) (h : Held) (step : Step) → w.stopped ≡ None → Each (IsTaken s.rules) h.rows → StepMayStop s step
      → step_fault s w.position h step ≡ [] → Holds (after_step s.rules word w h step)
  step_holds w word h (next waiting) on taken may e = record { rows = taken; stop = subst (λ (o : Option (Text × List Text)). MayStop s (option_map (λ p. p.0) o)) (sym on) tt }
  step_holds w word h (trailing position) on taken may e = record { rows = taken; stop = subst (λ (o : Option (Text × List Text)). MayStop s (option_map (λ p. p.0) o)) (sym on) tt }
  step_holds w word h (subcommand name) on taken may e = record { rows = taken; stop = may }
  step_holds w word h value on taken may e = positional_holds w word h (arg_by_index s.rules w.position) on taken e

  turn_holds : (names : Names) (w : Walk) (word : Text) → Holds w → turn_fault s names w word ≡ [] → Holds (walked s.rules names w word)
  unfolding walked
  turn_holds names w word holds e = go w.stopped refl e
    where
      met : Held × Step
      met = word_met s.rules names w.is_trailing w.waiting w.position word w.held

      go : (o : Option (Text × List Text)) → w.stopped ≡ o
          → cond (is_some o) [] (or_else (word_fault s names w.is_trailing w.waiting word w.held) (step_fault s w.position met.0 met.1)) ≡ []
          → Holds (walked_from s.rules names o w word)
      go (Some p) is e = record { rows = holds.rows; stop = subst (λ (o : Option (Text × List Text)). MayStop s (option_map (λ p. p.0) o)) is holds.stop }
      go None is e =
          let parts = no_fault (word_fault s names w.is_trailing w.waiting word w.held) (step_fault s w.position met.0 met.1) e in
          let passes = word_passes names w.is_trailing w.waiting w.position word w.held parts.0 holds.rows in
          step_holds w word met.0 met.1 is passes.rows passes.step parts.1

  pub walk_holds : (names : Names) (words : List Text) (w : Walk) → Holds w → walk_fault s names w words ≡ [] → Holds (fold (walked s.rules names) w words)
  unfolding walk_fault
  walk_holds names [] w holds e = holds
  walk_holds names (word ∷ rest) w holds e =
      let parts = no_fault (turn_fault s names w word) (walk_fault s names (walked s.rules names w word) rest) e in
      walk_holds names rest (walked s.rules names w word) (turn_holds names w word holds parts.0) parts.1
