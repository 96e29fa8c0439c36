-- The tokens of a usual text: its numbers are whole, and it nests so deep at most.
use Rattle.std.specs.Prelude.{ℕ, zero, suc, List, [], ◌∷◌, Bool, true, false, ◌&&◌, nat_lt, Option, option_and_then, is_some}
use Rattle.json.specs.Token.{Token}
use Rattle.serde_json.specs.Find.{as_u64}
use Rattle.serde_json.specs.Read.{number_of}

-- the whole number below 2^64 that a text writes without a sign, if it is one
unfoldable pub whole_of_text : List ℕ → Option ℕ
whole_of_text text = option_and_then as_u64 (number_of text)

-- as many levels may still open
unfoldable pub are_usual : ℕ → List Token → Bool
are_usual left [] = true
are_usual zero (Token.begin_object ∷ ts) = false
are_usual (suc left) (Token.begin_object ∷ ts) = are_usual left ts
are_usual left (Token.end_object ∷ ts) = nat_lt left 127 && are_usual (suc left) ts
are_usual zero (Token.begin_array ∷ ts) = false
are_usual (suc left) (Token.begin_array ∷ ts) = are_usual left ts
are_usual left (Token.end_array ∷ ts) = nat_lt left 127 && are_usual (suc left) ts
are_usual left (Token.key s ∷ ts) = are_usual left ts
are_usual left (Token.string s ∷ ts) = are_usual left ts
are_usual left (Token.number s ∷ ts) = is_some (whole_of_text s) && are_usual left ts
are_usual left (Token.boolean b ∷ ts) = are_usual left ts
are_usual left (Token.null ∷ ts) = are_usual left ts
are_usual left (Token.bad ∷ ts) = false
