-- The items of an array, one after the other.
use Rattle.std.proofs.Common.{◌≡◌, ℕ, List, [], ◌∷◌, ◌++◌, map, Option, Some, None, option_map, option_and_then, refl, sym, ap, ◌∙◌, subst, append_assoc, Result, Ok, Err, IfOk}
use Rattle.std.specs.Borrow.{Bor}
use Rattle.std.proofs.lemmas.List.{map-append}
use Rattle.json.specs.Token.{Token}
use Rattle.json.specs.Json as json
use Rattle.json.specs.Json.{Json}
use Rattle.json.specs.Find as find
use Rattle.json.specs.Find.{BeginsWith, InItems, NextItem}
use Rattle.serde_json.specs.Data.{Data, Items, no_items, item}
use Rattle.serde_json.specs.Find.{as_str}
use Rattle.serde_json.specs.Read.{of_json, of_items}
use Rattle.apf_values.specs.Texts.{texts_of, texts_read, with_text}
use Rattle.apf_values.proofs.Lookups.{text_is}

abbrev or_no_items : Option Items → Items
or_no_items None = no_items
or_no_items (Some ds) = ds

abbrev Apart : Json → json.Items → Items → Type 0
Apart j more rest = (d : Data) × (ds : Items) × (of_json j ≡ Some d) × (of_items more ≡ Some ds) × (rest ≡ item d ds)

apart_by : (j : Json) (more : json.Items) (rest : Items) (o : Option Data) (p : Option Items) → of_json j ≡ o → of_items more ≡ p → option_and_then (λ d. option_map (item d) p) o ≡ Some rest → Apart j more rest
apart_by j more rest None p e f h = absurd cc
apart_by j more rest (Some d) None e f h = absurd cc
apart_by j more rest (Some d) (Some ds) e f h = (d, ds, e, f, sym (ap or_no_items h))

-- the first item and those behind it
apart : (j : Json) (more : json.Items) (rest : Items) → of_items (json.item j more) ≡ Some rest → Apart j more rest
apart j more rest h = apart_by j more rest (of_json j) (of_items more) refl refl h

-- what is still to be read, and how its texts make those of the whole
abbrev pub AreLeft : List Token → List (List ℕ) → Items → Type 0
AreLeft ts texts ds = (left : json.Items) × (rest : Items) × InItems ts left × (of_items left ≡ Some rest) × (texts ++ texts_of rest ≡ texts_of ds)

module _ (old new item_at : List Token) (texts : List (Bor (List ℕ))) (ds : Items) (left : AreLeft old (texts_read texts) ds) (next : NextItem old (Some item_at) new) where
  found : (j : Json) × (more : json.Items) × (left.0 ≡ json.item j more) × BeginsWith item_at j × InItems new more
  found = next left.0 left.2

  its : Apart found.0 found.1 left.1
  its = apart found.0 found.1 left.1 (ap of_items (sym found.2) ∙ left.3)

  -- the item is a text
  pub text_more : (more : List (Bor (List ℕ))) (text : Bor (List ℕ)) → more ≡ texts ++ text ∷ [] → ((j : Json) → BeginsWith item_at j → Some text.now ≡ find.as_str j) → AreLeft new (texts_read more) ds
  text_more more text pushed is =
      let said : Some text.now ≡ as_str its.0 = is found.0 found.3 ∙ text_is found.0 its.0 its.2 in
      let all : texts_read texts ++ text.now ∷ texts_of its.1 ≡ texts_of ds =
      subst (λ o. texts_read texts ++ with_text o (texts_of its.1) ≡ texts_of ds) (sym said) (ap (λ rs. texts_read texts ++ texts_of rs) (sym its.4) ∙ left.4) in (
        found.1,
        its.1,
        found.4,
        its.3,
        ap (λ ts. ts ++ texts_of its.1) (ap texts_read pushed ∙ map-append (λ t. t.now) texts (text ∷ [])) ∙ append_assoc (texts_read texts) (text.now ∷ []) (texts_of its.1) ∙ all,
      )

  -- it is none
  pub no_text : ((j : Json) → BeginsWith item_at j → None ≡ find.as_str j) → AreLeft new (texts_read texts) ds
  no_text is =
      let said : None ≡ as_str its.0 = is found.0 found.3 ∙ text_is found.0 its.0 its.2 in (
        found.1,
        its.1,
        found.4,
        its.3,
        subst (λ o. texts_read texts ++ with_text o (texts_of its.1) ≡ texts_of ds) (sym said) (ap (λ rs. texts_read texts ++ texts_of rs) (sym its.4) ∙ left.4),
      )

nil : (ts : List (List ℕ)) → ts ++ [] ≡ ts
nil [] = refl
nil (t ∷ ts) = ap (λ l. t ∷ l) (nil ts)

-- nothing is left
pub all_read : (old new : List Token) (texts : List (List ℕ)) (ds : Items) → AreLeft old texts ds → NextItem old None new → texts ≡ texts_of ds
all_read old new texts ds left next =
    let none : left.0 ≡ json.no_items = next left.0 left.2 in
    let rest : no_items ≡ left.1 = ap or_no_items (ap of_items (sym none) ∙ left.3) in
    sym (nil texts) ∙ ap (λ rs. texts ++ texts_of rs) rest ∙ left.4

pub if_ok : {A E : Type 0} {P Q : A → Type 0} (r : Result A E) → ((a : A) → P a → Q a) → IfOk r P → IfOk r Q
if_ok (Ok a) f h = f a h
if_ok (Err e) f h = tt
