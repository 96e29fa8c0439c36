-- Keys of flows, and the places that a map has at them.
use Rattle.std.proofs.Common.{◌≡◌, ℕ, suc, ◌+◌, add-one, List, [], ◌∷◌, Bool, true, false, cond, true≢false, Option, Some, None, refl, sym, ap, ◌∙◌}
use Rattle.std.specs.Prelude.{◌&&◌, bytes_eq, is_some, if◌then◌else◌}
use Rattle.std.specs.BTreeMap.{BTreeMap}
use Rattle.std.specs.Cmp.Lexicographic.{slice_cmp}
use Rattle.std.specs.Option.{option_or}
use Rattle.std.specs.Ordering.{bool_cmp, is_eq, nat_cmp, ordering_then}
use Rattle.std.specs.declared.cmp.Ordering.{Ordering}
use Rattle.std.specs.declared.cmp.Ordering.TheVariants.{Less, Equal, Greater}
use Rattle.std.proofs.lemmas.Map.Text.{is_eq-slice_cmp}
use Rattle.std.proofs.lemmas.Slice.Eq.{bytes_eq-Decides}
use Rattle.apf_matching.specs.First.{place_from}
use Rattle.apf_cluster_tables.specs.Pairs.{FlowSaid, Key, are_alike, is_same, key_of}
use Rattle.apf_cluster_tables.specs.Places.{FindsPlace, KeyHeld, key_cmp, key_view, place_at}

-- ---- keys that are the same

and_eq : (o p : Ordering) → is_eq (ordering_then o p) ≡ (is_eq o && is_eq p)
and_eq Less p = refl
and_eq Equal p = refl
and_eq Greater p = refl

alike : (a b : Bool) → is_eq (bool_cmp a b) ≡ are_alike a b
alike true true = refl
alike true false = refl
alike false true = refl
alike false false = refl

-- the order of keys knows which are the same
pub same_by : (a : Key) (b : KeyHeld) → is_eq (key_cmp a b) ≡ is_same a (key_view b)
same_by a b =
    let named : Ordering = bool_cmp a.named b.0 in
    let one : Ordering = slice_cmp nat_cmp a.one b.1.now in
    let two : Ordering = slice_cmp nat_cmp a.two b.2.now in
    and_eq (ordering_then named one) two
    ∙ (ap (λ (t : Bool). t && is_eq two) (and_eq named one)
    ∙ (ap (λ (t : Bool). (t && is_eq one) && is_eq two) (alike a.named b.0)
    ∙ (ap (λ (t : Bool). (are_alike a.named b.0 && t) && is_eq two) (is_eq-slice_cmp a.one b.1.now)
    ∙ ap (λ (t : Bool). (are_alike a.named b.0 && bytes_eq a.one b.1.now) && t) (is_eq-slice_cmp a.two b.2.now))))

both_true : (p q : Bool) → (p && q) ≡ true → (p ≡ true) × (q ≡ true)
both_true true q is = (refl, is)
both_true false q is = absurd (true≢false (sym is))

alike_is : (a b : Bool) → are_alike a b ≡ true → a ≡ b
alike_is true true is = refl
alike_is true false is = absurd (true≢false (sym is))
alike_is false true is = absurd (true≢false (sym is))
alike_is false false is = refl

pub same_is : (a b : Key) → is_same a b ≡ true → a ≡ b
same_is a b is =
    let parts = both_true (are_alike a.named b.named && bytes_eq a.one b.one) (bytes_eq a.two b.two) is in
    let firsts = both_true (are_alike a.named b.named) (bytes_eq a.one b.one) parts.0 in
    let put : Bool → List ℕ → List ℕ → Key = λ named one two. record { named = named; one = one; two = two } in
    ap (λ (named : Bool). put named a.one a.two) (alike_is a.named b.named firsts.0)
    ∙ (ap (λ (one : List ℕ). put b.named one a.two) ((bytes_eq-Decides a.one b.one).0 firsts.1)
    ∙ ap (λ (two : List ℕ). put b.named b.one two) ((bytes_eq-Decides a.two b.two).0 parts.1))

-- ---- what is noted at keys

or_none : (o : Option ℕ) → option_or o None ≡ o
or_none None = refl
or_none (Some n) = refl

or_there : (o p : Option ℕ) → is_some o ≡ true → o ≡ option_or o p
or_there None p is = absurd (true≢false (sym is))
or_there (Some n) p is = refl

-- a key that has a place
pub finds_there : (key : Key) (place : ℕ) (places : BTreeMap KeyHeld ℕ) → is_some (place_at places key) ≡ true → FindsPlace key place places places
finds_there key place places there = record { each = λ other. go other (is_same key other) refl }
  where
    go : (other : Key) (b : Bool) → is_same key other ≡ b → place_at places other ≡ option_or (place_at places other) (if b then Some place else None)
    go other false is = sym (or_none (place_at places other))
    go other true is = or_there (place_at places other) (Some place) (ap (λ (k : Key). is_some (place_at places k)) (sym (same_is key other is)) ∙ there)

-- a key that code would hold
abbrev pub held : Key → KeyHeld
held key = (key.named, record { ref_ptr = (0, 0); now = key.one }, record { ref_ptr = (0, 0); now = key.two })

-- a key that had no place
pub finds_new : (key : Key) (place : ℕ) (old new : BTreeMap KeyHeld ℕ) → place_at old key ≡ None
    → ((q : KeyHeld) → place_at new (key_view q) ≡ cond (is_eq (key_cmp key q)) (Some place) (place_at old (key_view q))) → FindsPlace key place old new
finds_new key place old new none updates = record { each = λ other. each other (is_same key other) refl }
  where
    each : (other : Key) (b : Bool) → is_same key other ≡ b → place_at new other ≡ option_or (place_at old other) (if b then Some place else None)
    each other b is =
        updates (held other) ∙ ap (λ (t : Bool). cond t (Some place) (place_at old other)) (same_by key (held other) ∙ is) ∙ go b is
      where
        go : (b : Bool) → is_same key other ≡ b → cond b (Some place) (place_at old other) ≡ option_or (place_at old other) (if b then Some place else None)
        go false is = sym (or_none (place_at old other))
        go true is = ap (λ (o : Option ℕ). option_or o (Some place)) (sym (ap (place_at old) (sym (same_is key other is)) ∙ none))

-- one flow more
pub noted_more : (o : Option ℕ) (b : Bool) (i : ℕ) (rest : Option ℕ) → option_or (option_or o (if b then Some i else None)) rest ≡ option_or o (if b then Some i else rest)
noted_more None true i rest = refl
noted_more None false i rest = refl
noted_more (Some n) b i rest = refl

-- the place of the first flow of a key, of these and others before
pub places_more : (i : ℕ) (f : FlowSaid) (rest : List FlowSaid) (old new : BTreeMap KeyHeld ℕ) (whole : Option ℕ) (key : Key) → FindsPlace (key_of f) i old new
    → option_or (place_at old key) (place_from (λ (g : FlowSaid). is_same (key_of g) key) i (f ∷ rest)) ≡ whole
    → option_or (place_at new key) (place_from (λ (g : FlowSaid). is_same (key_of g) key) (i + 1) rest) ≡ whole
places_more i f rest old new whole key finds is =
    let test : FlowSaid → Bool = λ g. is_same (key_of g) key in
    ap (λ (n : ℕ). option_or (place_at new key) (place_from test n rest)) (add-one i)
    ∙ (ap (λ (o : Option ℕ). option_or o (place_from test (suc i) rest)) (finds.each key)
    ∙ (noted_more (place_at old key) (is_same (key_of f) key) i (place_from test (suc i) rest) ∙ is))

-- that of all flows
pub places_all : (i : ℕ) (rest : List FlowSaid) (places : BTreeMap KeyHeld ℕ) (whole : Option ℕ) (key : Key) → rest ≡ []
    → option_or (place_at places key) (place_from (λ (g : FlowSaid). is_same (key_of g) key) i rest) ≡ whole → place_at places key ≡ whole
places_all i [] places whole key none is = sym (or_none (place_at places key)) ∙ is
places_all i (f ∷ rest) places whole key none is = absurd cc
