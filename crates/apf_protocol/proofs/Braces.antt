-- A JSON text that begins with a brace is an object.
use Rattle.std.proofs.Common.{◌≡◌, ℕ, suc, List, [], ◌∷◌, length, Bool, true, false, Option, Some, None, refl, sym, arith}
use Rattle.std.specs.Prelude.{nat_eq, option_map, option_and_then, ◌&&◌, if◌then◌else◌}
use Rattle.std.specs.List.{starts_with}
use Rattle.std.specs.Str.{is_utf8}
use Rattle.std.proofs.lemmas.Bool.Decides.{nat_tests}
use Rattle.json.specs.Token.{Token}
use Rattle.json.specs.Lex.{tokens, lex, punctuate, Mode, Place}
use Rattle.json.specs.Json as json
use Rattle.serde_json.specs.Data.{Data, Members, no_members, object}
use Rattle.serde_json.specs.Find.{as_object}
use Rattle.serde_json.specs.Read.{read, of_json, of_members, max_depth}
use Rattle.apf_protocol.specs.Lines.{object_text}

-- the value is an object
abbrev pub IsObject : Data → Type 0
IsObject d = (ms : Members) × (as_object d ≡ Some ms)

of_parsed : (o : Option Members) (d : Data) → option_map object o ≡ Some d → IsObject d
of_parsed (Some ms) d h = let is : object ms ≡ d = cc in (ms, rw (sym is) refl)
of_parsed None d h = absurd cc

by_parsing : (r : Option (json.Members × List Token)) (d : Data)
    → option_and_then of_json (option_and_then (λ p. json.if_last p.0 p.1) (json.parse_map json.object r)) ≡ Some d → IsObject d
by_parsing None d h = absurd cc
by_parsing (Some (ms, [])) d h = of_parsed (of_members ms no_members) d h
by_parsing (Some (ms, t ∷ ts)) d h = absurd cc

first_token : (xs : List ℕ) → (ts : List Token) × (tokens (123 ∷ xs) ≡ Token.begin_object ∷ ts)
unfolding lex punctuate
first_token xs = (punctuate Place.fresh (lex Mode.between xs), refl)

parsed : (depth : ℕ) (ts : List Token)
    → json.value (suc depth) (Token.begin_object ∷ ts) ≡ json.parse_map json.object (json.members (json.value depth) (length ts) ts)
unfolding json.value
parsed depth ts = refl

at_depth : (ts : List Token) → json.value max_depth (Token.begin_object ∷ ts) ≡ json.parse_map json.object (json.members (json.value 126) (length ts) ts)
at_depth ts = parsed 126 ts

pub brace : (xs : List ℕ) (d : Data) → read (123 ∷ xs) ≡ Some d → IsObject d
brace xs d h =
    let first = first_token xs in
    by_parsing (json.members (json.value 126) (length first.0) first.0) d (rw (first.1, at_depth first.0) at h)

first_byte : (b : ℕ) (bs : List ℕ) → starts_with nat_eq (b ∷ bs) (123 ∷ []) ≡ true → b ≡ 123
first_byte b bs h = grind (arith, nat_tests)

text_by : (b : ℕ) (bs : List ℕ) (d : Data) (begins utf8 : Bool) → starts_with nat_eq (b ∷ bs) (123 ∷ []) ≡ begins
    → (if begins && utf8 then Some (b ∷ bs) else None) ≡ Some (b ∷ bs) → read (b ∷ bs) ≡ Some d → IsObject d
text_by b bs d true utf8 is h reads =
    let same : b ≡ 123 = first_byte b bs is in
    brace bs d (rw same at reads)
text_by b bs d false utf8 is h reads = absurd cc

-- the text of an object is no JSON, or an object
pub object_read : (object : List ℕ) (d : Data) → object_text object ≡ Some object → read object ≡ Some d → IsObject d
unfolding object_text
object_read [] d text reads = absurd cc
object_read (b ∷ bs) d text reads = text_by b bs d (starts_with nat_eq (b ∷ bs) (123 ∷ [])) (is_utf8 (b ∷ bs)) refl text reads
