-- As many levels as there are tokens are enough to read a value.
use Rattle.std.proofs.Common.{◌≡◌, ℕ, zero, suc, ◌<◌, ◌≤◌, List, [], ◌∷◌, length, Option, Some, None, option_map, option_and_then, refl, sym, ap, subst, arith}
use Rattle.std.specs.Prelude.{⊤}
use Rattle.json.specs.Token.{Token}
use Rattle.json.specs.Json.{Json, array, object, Items, item, Members, member, Parse, parse_map, after_end_array, read_key, items_step, members_step, items, members, value_with, value}
use Rattle.json.specs.Find.{BeginsWith}
use Rattle.json.proofs.Grammar.{left, Takes, after_end_array-shorter, read_key-shorter, skip_value-shorter}
use Rattle.apf_values.specs.Flat.{json_at}

-- where o is an answer, p is the same
abbrev Kept : {A : Type 0} → Option A → Option A → Type 0
Kept None p = ⊤
Kept (Some a) p = p ≡ Some a

-- q reads what p reads of no more tokens than these
abbrev KeptUpTo : {A : Type 0} → ℕ → Parse A → Parse A → Type 0
KeptUpTo m p q = (ts : List Token) → length ts ≤ m → Kept (p ts) (q ts)

same : {A : Type 0} (o : Option A) → Kept o o
same None = tt
same (Some a) = refl

mapped : {A B : Type 0} (f : A → B) (o p : Option (A × List Token)) → Kept o p → Kept (parse_map f o) (parse_map f p)
mapped f None p h = tt
mapped f (Some a) p h = ap (parse_map f) h

-- one more, and those behind it
one_more : {B : Type 0} (m : ℕ) (f : Json → B → B) (a b : Parse B) → KeptUpTo m a b → (o p : Option (Json × List Token)) → ((x : List Token) → left o ≡ Some x → length x ≤ m) → Kept o p
    → Kept (option_and_then (λ x. parse_map (f x.0) (a x.1)) o) (option_and_then (λ x. parse_map (f x.0) (b x.1)) p)
one_more m f a b kept None p short k = tt
one_more m f a b kept (Some x) p short k =
    subst (λ y. Kept (parse_map (f x.0) (a x.1)) (option_and_then (λ z. parse_map (f z.0) (b z.1)) y)) (sym k) (mapped (f x.0) (a x.1) (b x.1) (kept x.1 (short x.1 refl)))

module _ (m : ℕ) (p q : Parse Json) (takes : Takes p) (kept : KeptUpTo m p q) where
  item_turn : (a b : Parse Items) → KeptUpTo m a b → (ts : List Token) → length ts ≤ m → (o : Option (List Token)) → Kept (items_step p a ts o) (items_step q b ts o)
  item_turn a b more ts few (Some r) = refl
  item_turn a b more ts few None = one_more m item a b more (p ts) (q ts) (λ x e. omega (arith, takes ts x e)) (kept ts few)

  Kept-items : (n : ℕ) → KeptUpTo m (items p n) (items q n)
  unfolding items
  Kept-items zero ts few = tt
  Kept-items (suc n) ts few = item_turn (items p n) (items q n) (Kept-items n) ts few (after_end_array ts)

  member_turn : (a b : Parse Members) → KeptUpTo m a b → (o : Option (Option (List ℕ) × List Token)) → ((x : List Token) → left o ≡ Some x → length x ≤ m)
      → Kept (option_and_then (λ x. members_step p a x.0 x.1) o) (option_and_then (λ x. members_step q b x.0 x.1) o)
  member_turn a b more None short = tt
  member_turn a b more (Some (None, s)) short = refl
  member_turn a b more (Some (Some k, s)) short = one_more m (member k) a b more (p s) (q s) (λ x e. omega (arith, short s refl, takes s x e)) (kept s (short s refl))

  key_short : (ts : List Token) → length ts ≤ m → (o : Option (Option (List ℕ) × List Token)) → read_key ts ≡ o → (x : List Token) → left o ≡ Some x → length x ≤ m
  key_short ts few None e x h = absurd cc
  key_short ts few (Some (k, s)) e x h =
      let is : s ≡ x = cc in
      subst (λ y. length y ≤ m) is (omega (arith, read_key-shorter ts k s e))

  Kept-members : (n : ℕ) → KeptUpTo m (members p n) (members q n)
  unfolding members
  Kept-members zero ts few = tt
  Kept-members (suc n) ts few = member_turn (members p n) (members q n) (Kept-members n) (read_key ts) (key_short ts few (read_key ts) refl)

-- one level more
with_level : (m : ℕ) (a b : Parse Items) (o p : Parse Members) → KeptUpTo m a b → KeptUpTo m o p → KeptUpTo (suc m) (value_with a o) (value_with b p)
with_level m a b o p x y [] few = tt
with_level m a b o p x y (Token.begin_object ∷ ts) few = mapped object (o ts) (p ts) (y ts (omega arith))
with_level m a b o p x y (Token.end_object ∷ ts) few = tt
with_level m a b o p x y (Token.begin_array ∷ ts) few = mapped array (a ts) (b ts) (x ts (omega arith))
with_level m a b o p x y (Token.end_array ∷ ts) few = tt
with_level m a b o p x y (Token.key s ∷ ts) few = tt
with_level m a b o p x y (Token.string s ∷ ts) few = refl
with_level m a b o p x y (Token.number s ∷ ts) few = refl
with_level m a b o p x y (Token.boolean b' ∷ ts) few = refl
with_level m a b o p x y (Token.null ∷ ts) few = refl
with_level m a b o p x y (Token.bad ∷ ts) few = tt

abbrev inner_items : ℕ → Parse Items
inner_items d ts = items (value d) (length ts) ts

abbrev inner_members : ℕ → Parse Members
inner_members d ts = members (value d) (length ts) ts

nothing : (d : ℕ) (ts : List Token) → length ts ≤ 0 → Kept (value d ts) (value 0 ts)
unfolding value
nothing zero ts few = same (value 0 ts)
nothing (suc d) [] few = tt
nothing (suc d) (t ∷ ts) few = absurd (omega arith)

Kept-value : (d m : ℕ) → KeptUpTo m (value d) (value m)
unfolding value
Kept-value d zero ts few = nothing d ts few
Kept-value zero (suc m) ts few = with_level m (λ ts. None) (inner_items m) (λ ts. None) (inner_members m) (λ ts few. tt) (λ ts few. tt) ts few
Kept-value (suc d) (suc m) ts few =
    with_level m (inner_items d) (inner_items m) (inner_members d) (inner_members m)
    (λ us less. Kept-items m (value d) (value m) (skip_value-shorter d) (Kept-value d m) (length us) us less)
    (λ us less. Kept-members m (value d) (value m) (skip_value-shorter d) (Kept-value d m) (length us) us less) ts few

-- what tokens begin with is the value there
pub begins : (ts : List Token) (j : Json) → BeginsWith ts j → json_at ts ≡ Some j
unfolding json_at
begins ts j (d, rest, e) = ap (option_map (λ p. p.0)) (subst (λ o. Kept o (value (length ts) ts)) e (Kept-value d (length ts) ts (omega arith)))

value_begins : (ts : List Token) (o : Option (Json × List Token)) (j : Json) → value (length ts) ts ≡ o → option_map (λ p. p.0) o ≡ Some j → BeginsWith ts j
value_begins ts None j e h = absurd cc
value_begins ts (Some p) j e h =
    let is : p.0 ≡ j = cc in
    subst (BeginsWith ts) is (length ts, p.1, e)

pub is_begun : (ts : List Token) (j : Json) → json_at ts ≡ Some j → BeginsWith ts j
unfolding json_at
is_begun ts j e = value_begins ts (value (length ts) ts) j refl e
