-- A usual text is read alike with fewer levels, and each of its numbers is one.
use Rattle.std.proofs.Common.{◌≡◌, ℕ, zero, suc, ◌<◌, ◌≤◌, List, [], ◌∷◌, length, Bool, true, false, Option, Some, None, option_map, option_and_then, refl, sym, ap, ◌∙◌, subst, arith}
use Rattle.std.specs.Prelude.{⊤, ◌&&◌, nat_lt, is_some}
use Rattle.json.specs.Token.{Token}
use Rattle.json.specs.Json as json
use Rattle.json.specs.Json.{Json, Parse, parse_map, after_end_array, read_key, items_step, members_step, value_with, value}
use Rattle.json.proofs.Grammar.{closed_array, read_key_is}
use Rattle.serde_json.specs.Data.{Data, Num, Items, no_items, item, Members, put, null, boolean, number, string, array, object, no_members}
use Rattle.serde_json.specs.Find.{as_u64}
use Rattle.serde_json.specs.Read.{of_json, of_items, of_members, number_of}
use Rattle.apf_values.specs.Usual.{are_usual, whole_of_text}

abbrev pub HasData : Json → Type 0
HasData j = (d : Data) × (of_json j ≡ Some d)

abbrev HasItems : json.Items → Type 0
HasItems js = (ds : Items) × (of_items js ≡ Some ds)

abbrev HasMembers : json.Members → Type 0
HasMembers ms = (found : Members) → (all : Members) × (of_members ms found ≡ Some all)

-- where o is an answer, p is the same, what is left is usual, and the answer has this
abbrev pub IsUsual : {A : Type 0} → (A → Type 0) → ℕ → Option (A × List Token) → Option (A × List Token) → Type 0
IsUsual has left None p = ⊤
IsUsual has left (Some x) p = (p ≡ Some x) × (are_usual left x.1 ≡ true) × has x.0

abbrev Reads : {A : Type 0} → (A → Type 0) → ℕ → ℕ → Parse A → Parse A → Type 0
Reads has left after p q = (ts : List Token) → are_usual left ts ≡ true → IsUsual has after (p ts) (q ts)

both_0 : (a b : Bool) → (a && b) ≡ true → a ≡ true
both_0 true b h = refl
both_0 false b h = absurd cc

both_1 : (a b : Bool) → (a && b) ≡ true → b ≡ true
both_1 true b h = h
both_1 false b h = absurd cc

mapped : {A B : Type 0} (has : A → Type 0) (has' : B → Type 0) (left : ℕ) (f : A → B) → ((a : A) → has a → has' (f a)) → (o p : Option (A × List Token)) → IsUsual has left o p → IsUsual has' left (parse_map f o) (parse_map f p)
mapped has has' left f h None p k = tt
mapped has has' left f h (Some x) p k = (ap (parse_map f) k.0, k.1, h x.0 k.2)

one_more : {B : Type 0} (has : B → Type 0) (left after : ℕ) (f : Json → B → B) → ((j : Json) (b : B) → HasData j → has b → has (f j b)) → (a b : Parse B) → Reads has left after a b
    → (o p : Option (Json × List Token)) → IsUsual HasData left o p → IsUsual has after (option_and_then (λ x. parse_map (f x.0) (a x.1)) o) (option_and_then (λ x. parse_map (f x.0) (b x.1)) p)
one_more has left after f h a b reads None p k = tt
one_more has left after f h a b reads (Some x) p k =
    subst (λ y. IsUsual has after (parse_map (f x.0) (a x.1)) (option_and_then (λ z. parse_map (f z.0) (b z.1)) y)) (sym k.0)
    (mapped has has after (f x.0) (λ c had. h x.0 c k.2 had) (a x.1) (b x.1) (reads x.1 k.1))

item_has : (j : Json) (js : json.Items) → HasData j → HasItems js → HasItems (json.item j js)
item_has j js d ds = (item d.0 ds.0, ap (option_and_then (λ d. option_map (item d) (of_items js))) d.1 ∙ ap (option_map (item d.0)) ds.1)

member_has : (k : List ℕ) (j : Json) (ms : json.Members) → HasData j → HasMembers ms → HasMembers (json.member k j ms)
member_has k j ms d more = λ found. let all = more (put k d.0 found) in (all.0, ap (option_and_then (λ d. of_members ms (put k d found))) d.1 ∙ all.1)

closes_array : (left : ℕ) (ts r : List Token) → after_end_array ts ≡ Some r → are_usual left ts ≡ true → are_usual (suc left) r ≡ true
unfolding are_usual
closes_array left ts r e u = both_1 (nat_lt left 127) (are_usual (suc left) r) (subst (λ us. are_usual left us ≡ true) (closed_array ts r e) u)

closes_object : (left : ℕ) (ts r : List Token) → read_key ts ≡ Some (None, r) → are_usual left ts ≡ true → are_usual (suc left) r ≡ true
unfolding are_usual
closes_object left ts r e u = both_1 (nat_lt left 127) (are_usual (suc left) r) (subst (λ us. are_usual left us ≡ true) (read_key_is ts None r e) u)

key_passed : (left : ℕ) (ts r : List Token) (k : List ℕ) → read_key ts ≡ Some (Some k, r) → are_usual left ts ≡ true → are_usual left r ≡ true
unfolding are_usual
key_passed left ts r k e u = subst (λ us. are_usual left us ≡ true) (read_key_is ts (Some k) r e) u

module _ (left : ℕ) (p q : Parse Json) (reads : Reads HasData left left p q) where
  item_turn : (a b : Parse json.Items) → Reads HasItems left (suc left) a b → (ts : List Token) → are_usual left ts ≡ true → (o : Option (List Token)) → after_end_array ts ≡ o
      → IsUsual HasItems (suc left) (items_step p a ts o) (items_step q b ts o)
  item_turn a b more ts u (Some r) e = (refl, closes_array left ts r e u, (no_items, refl))
  item_turn a b more ts u None e = one_more HasItems left (suc left) json.item item_has a b more (p ts) (q ts) (reads ts u)

  Reads-items : (n : ℕ) → Reads HasItems left (suc left) (json.items p n) (json.items q n)
  unfolding json.items
  Reads-items zero ts u = tt
  Reads-items (suc n) ts u = item_turn (json.items p n) (json.items q n) (Reads-items n) ts u (after_end_array ts) refl

  member_turn : (a b : Parse json.Members) → Reads HasMembers left (suc left) a b → (ts : List Token) → are_usual left ts ≡ true → (o : Option (Option (List ℕ) × List Token)) → read_key ts ≡ o
      → IsUsual HasMembers (suc left) (option_and_then (λ x. members_step p a x.0 x.1) o) (option_and_then (λ x. members_step q b x.0 x.1) o)
  member_turn a b more ts u None e = tt
  member_turn a b more ts u (Some (None, s)) e = (refl, closes_object left ts s e u, λ found. (found, refl))
  member_turn a b more ts u (Some (Some k, s)) e = one_more HasMembers left (suc left) (json.member k) (member_has k) a b more (p s) (q s) (reads s (key_passed left ts s k e u))

  Reads-members : (n : ℕ) → Reads HasMembers left (suc left) (json.members p n) (json.members q n)
  unfolding json.members
  Reads-members zero ts u = tt
  Reads-members (suc n) ts u = member_turn (json.members p n) (json.members q n) (Reads-members n) ts u (read_key ts) refl

number_has : (s : List ℕ) (o : Option Num) → number_of s ≡ o → is_some (option_and_then as_u64 o) ≡ true → HasData (json.number s)
number_has s None e h = absurd cc
number_has s (Some n) e h = (number n, ap (option_map number) e)

-- a level with what opens there
with_level : (left : ℕ) (a b : Parse json.Items) (o p : Parse json.Members)
    → ((ts : List Token) → are_usual left (Token.begin_array ∷ ts) ≡ true → IsUsual HasData left (parse_map json.array (a ts)) (parse_map json.array (b ts)))
    → ((ts : List Token) → are_usual left (Token.begin_object ∷ ts) ≡ true → IsUsual HasData left (parse_map json.object (o ts)) (parse_map json.object (p ts)))
    → Reads HasData left left (value_with a o) (value_with b p)
unfolding are_usual whole_of_text
with_level left a b o p x y [] u = tt
with_level left a b o p x y (Token.begin_object ∷ ts) u = y ts u
with_level left a b o p x y (Token.end_object ∷ ts) u = tt
with_level left a b o p x y (Token.begin_array ∷ ts) u = x ts u
with_level left a b o p x y (Token.end_array ∷ ts) u = tt
with_level left a b o p x y (Token.key s ∷ ts) u = tt
with_level left a b o p x y (Token.string s ∷ ts) u = (refl, u, (string s, refl))
with_level left a b o p x y (Token.number s ∷ ts) u =
    (refl, both_1 (is_some (whole_of_text s)) (are_usual left ts) u, number_has s (number_of s) refl (both_0 (is_some (whole_of_text s)) (are_usual left ts) u))
with_level left a b o p x y (Token.boolean b' ∷ ts) u = (refl, u, (boolean b', refl))
with_level left a b o p x y (Token.null ∷ ts) u = (refl, u, (null, refl))
with_level left a b o p x y (Token.bad ∷ ts) u = tt

abbrev inner_items : ℕ → Parse json.Items
inner_items d ts = json.items (value d) (length ts) ts

abbrev inner_members : ℕ → Parse json.Members
inner_members d ts = json.members (value d) (length ts) ts

array_has : (js : json.Items) → HasItems js → HasData (json.array js)
array_has js ds = (array ds.0, ap (option_map array) ds.1)

object_has : (ms : json.Members) → HasMembers ms → HasData (json.object ms)
object_has ms all = let found = all no_members in (object found.0, ap (option_map object) found.1)

no_level_array : (ts : List Token) → are_usual 0 (Token.begin_array ∷ ts) ≡ true → ⊥
unfolding are_usual
no_level_array ts u = cc

no_level_object : (ts : List Token) → are_usual 0 (Token.begin_object ∷ ts) ≡ true → ⊥
unfolding are_usual
no_level_object ts u = cc

pub Reads-value : (d left : ℕ) (ts : List Token) → are_usual left ts ≡ true → IsUsual HasData left (value d ts) (value left ts)
unfolding value are_usual
Reads-value zero zero ts u = with_level 0 (λ us. None) (λ us. None) (λ us. None) (λ us. None) (λ us v. tt) (λ us v. tt) ts u
Reads-value zero (suc left) ts u = with_level (suc left) (λ us. None) (inner_items left) (λ us. None) (inner_members left) (λ us v. tt) (λ us v. tt) ts u
Reads-value (suc d) zero ts u =
    with_level 0 (inner_items d) (λ us. None) (inner_members d) (λ us. None) (λ us v. absurd (no_level_array us v)) (λ us v. absurd (no_level_object us v)) ts u
Reads-value (suc d) (suc left) ts u =
    with_level (suc left) (inner_items d) (inner_items left) (inner_members d) (inner_members left)
    (λ us v. mapped HasItems HasData (suc left) json.array array_has (inner_items d us) (inner_items left us) (Reads-items left (value d) (value left) (Reads-value d left) (length us) us v))
    (λ us v. mapped HasMembers HasData (suc left) json.object object_has (inner_members d us) (inner_members left us) (Reads-members left (value d) (value left) (Reads-value d left) (length us) us v)) ts u
