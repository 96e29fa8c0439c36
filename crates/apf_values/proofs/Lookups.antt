-- What is found in a value is what is found in it as `serde_json` has it.
use Rattle.std.proofs.Common.{◌≡◌, ℕ, List, Bool, true, false, cond, Option, Some, None, option_map, option_and_then, refl, sym, ap, ◌∙◌, subst}
use Rattle.std.specs.Prelude.{MatchOption, is_some}
use Rattle.std.specs.Str.{bytes_eq}
use Rattle.std.specs.Bool.{Decides}
use Rattle.std.proofs.lemmas.Slice.Eq.{bytes_eq-Decides}
use Rattle.json.specs.Token.{Token}
use Rattle.json.specs.Json as json
use Rattle.json.specs.Json.{Json}
use Rattle.json.specs.Find as find
use Rattle.json.specs.Find.{BeginsWith, Finds, InItems, later_or}
use Rattle.serde_json.specs.Data.{Data, Num, Items, Members, put, null, boolean, number, string, array, object, no_members}
use Rattle.serde_json.specs.Find.{get, get_member, as_str, as_array, as_u64}
use Rattle.serde_json.specs.Read.{of_json, of_items, of_members, number_of}
use Rattle.serde_json.proofs.Views.{get_member-put, get_member-put_other}
use Rattle.apf_files.specs.JsonFile.{whole_of}
use Rattle.apf_values.specs.Flat.{json_at, data_at, or_null}
use Rattle.apf_values.specs.Usual.{whole_of_text}
use Rattle.apf_values.proofs.Readings.{begins, is_begun}

-- ---- in the value

abbrev MemberIs : List ℕ → Members → Members → Option Json → Type 0
MemberIs key found all None = get_member key all ≡ get_member key found
MemberIs key found all (Some j) = (d : Data) × (of_json j ≡ Some d) × (get_member key all ≡ Some d)

other_key : (k key : List ℕ) (b : Bool) → Decides b (k ≡ key) → b ≡ false → key ≡ k → ⊥
other_key k key b h e same = let is = h.1 (sym same) in absurd cc

later : (key k : List ℕ) (j : Json) (d : Data) (found all : Members) → of_json j ≡ Some d → (m : Option Json) → MemberIs key (put k d found) all m → (b : Bool) → bytes_eq k key ≡ b
    → MemberIs key found all (later_or m (cond b (Some j) None))
later key k j d found all is (Some i) more b e = more
later key k j d found all is None more true e =
    let same = (bytes_eq-Decides k key).0 e in
    (d, is, more ∙ ap (λ q. get_member q (put k d found)) (sym same) ∙ get_member-put k d found)
later key k j d found all is None more false e = more ∙ get_member-put_other key k d found (other_key k key (bytes_eq k key) (bytes_eq-Decides k key) e)

abbrev or_none : Option Members → Members
or_none None = no_members
or_none (Some ms) = ms

one_more : (key k : List ℕ) (j : Json) (ms : json.Members) (found all : Members) → ((d : Data) → of_members ms (put k d found) ≡ Some all → MemberIs key (put k d found) all (find.get_member key ms))
    → (o : Option Data) → of_json j ≡ o → option_and_then (λ d. of_members ms (put k d found)) o ≡ Some all → MemberIs key found all (find.get_member key (json.member k j ms))
one_more key k j ms found all more None is h = absurd cc
one_more key k j ms found all more (Some d) is h = later key k j d found all is (find.get_member key ms) (more d h) (bytes_eq k key) refl

member_found : (key : List ℕ) (ms : json.Members) (found all : Members) → of_members ms found ≡ Some all → MemberIs key found all (find.get_member key ms)
member_found key json.no_members found all e = ap (λ o. get_member key (or_none o)) (sym e)
member_found key (json.member k j ms) found all e = one_more key k j ms found all (λ d h. member_found key ms (put k d found) all h) (of_json j) refl e

abbrev ValueIs : List ℕ → Data → Option Json → Type 0
ValueIs key d None = get key d ≡ None
ValueIs key d (Some j) = (e : Data) × (of_json j ≡ Some e) × (get key d ≡ Some e)

in_members : (key : List ℕ) (all : Members) (o : Option Json) → MemberIs key no_members all o → ValueIs key (object all) o
in_members key all None h = h
in_members key all (Some j) h = h

value_found : (key : List ℕ) (j : Json) (d : Data) → of_json j ≡ Some d → ValueIs key d (find.get key j)
value_found key json.null d e = subst (λ x. get key x ≡ None) (ap or_null e) refl
value_found key (json.boolean b) d e = subst (λ x. get key x ≡ None) (ap or_null e) refl
value_found key (json.number s) d e = go (number_of s) e
  where
    go : (o : Option Num) → option_map number o ≡ Some d → get key d ≡ None
    go None h = absurd cc
    go (Some n) h = subst (λ x. get key x ≡ None) (ap or_null h) refl
value_found key (json.string s) d e = subst (λ x. get key x ≡ None) (ap or_null e) refl
value_found key (json.array js) d e = go (of_items js) e
  where
    go : (o : Option Items) → option_map array o ≡ Some d → get key d ≡ None
    go None h = absurd cc
    go (Some ds) h = subst (λ x. get key x ≡ None) (ap or_null h) refl
value_found key (json.object ms) d e = go (of_members ms no_members) refl e
  where
    go : (o : Option Members) → of_members ms no_members ≡ o → option_map object o ≡ Some d → ValueIs key d (find.get_member key ms)
    go None is h = absurd cc
    go (Some all) is h = subst (λ x. ValueIs key x (find.get_member key ms)) (ap or_null h) (in_members key all (find.get_member key ms) (member_found key ms no_members all is))

pub text_is : (j : Json) (d : Data) → of_json j ≡ Some d → find.as_str j ≡ as_str d
text_is json.null d e = ap (λ o. as_str (or_null o)) e
text_is (json.boolean b) d e = ap (λ o. as_str (or_null o)) e
text_is (json.number s) d e = go (number_of s) e
  where
    go : (o : Option Num) → option_map number o ≡ Some d → None ≡ as_str d
    go None h = absurd cc
    go (Some n) h = ap (λ o. as_str (or_null o)) h
text_is (json.string s) d e = ap (λ o. as_str (or_null o)) e
text_is (json.array js) d e = go (of_items js) e
  where
    go : (o : Option Items) → option_map array o ≡ Some d → None ≡ as_str d
    go None h = absurd cc
    go (Some ds) h = ap (λ o. as_str (or_null o)) h
text_is (json.object ms) d e = go (of_members ms no_members) e
  where
    go : (o : Option Members) → option_map object o ≡ Some d → None ≡ as_str d
    go None h = absurd cc
    go (Some all) h = ap (λ o. as_str (or_null o)) h

number_is : (j : Json) (d : Data) → of_json j ≡ Some d → option_and_then whole_of_text (find.as_number j) ≡ whole_of d
unfolding whole_of_text
number_is json.null d e = ap (λ o. whole_of (or_null o)) e
number_is (json.boolean b) d e = ap (λ o. whole_of (or_null o)) e
number_is (json.number s) d e = go (number_of s) e
  where
    go : (o : Option Num) → option_map number o ≡ Some d → option_and_then as_u64 o ≡ whole_of d
    go None h = absurd cc
    go (Some n) h = ap (λ o. whole_of (or_null o)) h
number_is (json.string s) d e = ap (λ o. whole_of (or_null o)) e
number_is (json.array js) d e = go (of_items js) e
  where
    go : (o : Option Items) → option_map array o ≡ Some d → None ≡ whole_of d
    go None h = absurd cc
    go (Some ds) h = ap (λ o. whole_of (or_null o)) h
number_is (json.object ms) d e = go (of_members ms no_members) e
  where
    go : (o : Option Members) → option_map object o ≡ Some d → None ≡ whole_of d
    go None h = absurd cc
    go (Some all) h = ap (λ o. whole_of (or_null o)) h

abbrev ItemsAre : Data → Option json.Items → Type 0
ItemsAre d None = as_array d ≡ None
ItemsAre d (Some js) = (ds : Items) × (of_items js ≡ Some ds) × (as_array d ≡ Some ds)

items_are : (j : Json) (d : Data) → of_json j ≡ Some d → ItemsAre d (find.as_array j)
items_are json.null d e = ap (λ o. as_array (or_null o)) (sym e)
items_are (json.boolean b) d e = ap (λ o. as_array (or_null o)) (sym e)
items_are (json.number s) d e = go (number_of s) e
  where
    go : (o : Option Num) → option_map number o ≡ Some d → as_array d ≡ None
    go None h = absurd cc
    go (Some n) h = ap (λ o. as_array (or_null o)) (sym h)
items_are (json.string s) d e = ap (λ o. as_array (or_null o)) (sym e)
items_are (json.array js) d e = go (of_items js) refl e
  where
    go : (o : Option Items) → of_items js ≡ o → option_map array o ≡ Some d → ItemsAre d (Some js)
    go None is h = absurd cc
    go (Some ds) is h = (ds, is, ap (λ o. as_array (or_null o)) (sym h))
items_are (json.object ms) d e = go (of_members ms no_members) e
  where
    go : (o : Option Members) → option_map object o ≡ Some d → as_array d ≡ None
    go None h = absurd cc
    go (Some all) h = ap (λ o. as_array (or_null o)) (sym h)

-- ---- on a tape

-- the value that the tokens begin with, as the two have it
abbrev pub IsReadAs : List Token → Type 0
IsReadAs ts = (j : Json) × (d : Data) × BeginsWith ts j × (of_json j ≡ Some d) × (data_at ts ≡ Some d)

pub data_begins : (ts : List Token) (j : Json) (d : Data) → BeginsWith ts j → of_json j ≡ Some d → data_at ts ≡ Some d
unfolding data_at
data_begins ts j d b e = ap (option_and_then of_json) (begins ts j b) ∙ e

pub read_as : (ts : List Token) → is_some (data_at ts) ≡ true → IsReadAs ts
unfolding data_at
read_as ts some = go (json_at ts) refl some
  where
    with_data : (j : Json) → BeginsWith ts j → (o : Option Data) → of_json j ≡ o → is_some o ≡ true → IsReadAs ts
    with_data j b None e h = absurd cc
    with_data j b (Some d) e h = (j, d, b, e, data_begins ts j d b e)

    go : (o : Option Json) → json_at ts ≡ o → is_some (option_and_then of_json o) ≡ true → IsReadAs ts
    go None e h = absurd cc
    go (Some j) e h = with_data j (is_begun ts j e) (of_json j) refl h

-- what a look-up of a key finds
pub got : (ts : List Token) (key : List ℕ) (r : Option (List Token)) → is_some (data_at ts) ≡ true → ((j : Json) → BeginsWith ts j → Finds r (find.get key j))
    → MatchOption r (get key (or_null (data_at ts)) ≡ None) (λ us. (is_some (data_at us) ≡ true) × (get key (or_null (data_at ts)) ≡ data_at us))
got ts key r some finds =
    let x = read_as ts some in
    go r x.1 (ap or_null x.4) (find.get key x.0) (value_found key x.0 x.1 x.3) (finds x.0 x.2)
  where
    go : (r : Option (List Token)) (d : Data) → or_null (data_at ts) ≡ d → (o : Option Json) → ValueIs key d o → Finds r o
        → MatchOption r (get key (or_null (data_at ts)) ≡ None) (λ us. (is_some (data_at us) ≡ true) × (get key (or_null (data_at ts)) ≡ data_at us))
    go None d is o v f = ap (get key) is ∙ subst (ValueIs key d) f v
    go (Some us) d is o v f =
        let found = subst (ValueIs key d) f.1 v in
        let there = data_begins us f.0 found.0 f.2 found.1 in
        (ap is_some there, ap (get key) is ∙ found.2 ∙ sym there)

-- the text that the value is
pub got_text : (ts : List Token) (r : Option (List ℕ)) → is_some (data_at ts) ≡ true → ((j : Json) → BeginsWith ts j → r ≡ find.as_str j) → r ≡ as_str (or_null (data_at ts))
got_text ts r some is = let x = read_as ts some in is x.0 x.2 ∙ text_is x.0 x.1 x.3 ∙ ap as_str (sym (ap or_null x.4))

-- the whole number that the value is
pub got_number : (ts : List Token) (r : Option (List ℕ)) → is_some (data_at ts) ≡ true → ((j : Json) → BeginsWith ts j → r ≡ find.as_number j)
    → option_and_then whole_of_text r ≡ whole_of (or_null (data_at ts))
got_number ts r some is = let x = read_as ts some in ap (option_and_then whole_of_text) (is x.0 x.2) ∙ number_is x.0 x.1 x.3 ∙ ap whole_of (sym (ap or_null x.4))

abbrev pub HasItems : List Token → Data → Type 0
HasItems rest d = (js : json.Items) × (ds : Items) × InItems rest js × (of_items js ≡ Some ds) × (as_array d ≡ Some ds)

-- the items of the array that the value is
pub got_items : (ts : List Token) (r : Option (List Token)) → is_some (data_at ts) ≡ true
    → ((j : Json) → BeginsWith ts j → MatchOption r (find.as_array j ≡ None) (λ rest. (js : json.Items) × (j ≡ json.array js) × InItems rest js))
    → MatchOption r (as_array (or_null (data_at ts)) ≡ None) (λ rest. HasItems rest (or_null (data_at ts)))
got_items ts r some is =
    let x = read_as ts some in
    subst (λ d. MatchOption r (as_array d ≡ None) (λ rest. HasItems rest d)) (sym (ap or_null x.4)) (go r x.0 x.1 (items_are x.0 x.1 x.3) (is x.0 x.2))
  where
    go : (r : Option (List Token)) (j : Json) (d : Data) → ItemsAre d (find.as_array j) → MatchOption r (find.as_array j ≡ None) (λ rest. (js : json.Items) × (j ≡ json.array js) × InItems rest js)
        → MatchOption r (as_array d ≡ None) (λ rest. HasItems rest d)
    go None j d are h = subst (ItemsAre d) h are
    go (Some rest) j d are h =
        let those = subst (ItemsAre d) (ap find.as_array h.1) are in
        (h.0, those.0, h.2, those.1, those.2)
