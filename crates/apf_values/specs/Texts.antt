-- The texts of an array.
use Rattle.std.specs.Prelude.{ℕ, List, [], ◌∷◌, Option, Some, None, option_and_then, map}
use Rattle.std.specs.Borrow.{Bor}
use Rattle.serde_json.specs.Data.{Data, Items, no_items, item}
use Rattle.serde_json.specs.Find.{get, as_str, as_array}

-- a text before others, if there is one
abbrev pub with_text : Option (List ℕ) → List (List ℕ) → List (List ℕ)
with_text None texts = texts
with_text (Some text) texts = text ∷ texts

-- the texts among these
abbrev pub texts_of : Items → List (List ℕ)
texts_of no_items = []
texts_of (item d ds) = with_text (as_str d) (texts_of ds)

abbrev pub texts_in : Option Items → List (List ℕ)
texts_in None = []
texts_in (Some items) = texts_of items

-- the texts among the members of the array at a key
unfoldable pub texts_at : List ℕ → Data → List (List ℕ)
texts_at key d = texts_in (option_and_then as_array (get key d))

-- the texts as they were read
abbrev pub texts_read : List (Bor (List ℕ)) → List (List ℕ)
texts_read texts = map (λ text. text.now) texts
