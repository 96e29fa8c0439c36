-- A usual text that is read.
use Rattle.std.proofs.Common.{◌≡◌, ℕ, List, [], ◌∷◌, true, Option, Some, None, option_and_then, refl, sym, ap, ◌∙◌, subst}
use Rattle.std.specs.Prelude.{is_some}
use Rattle.std.specs.Str.{IsUtf8}
use Rattle.std.proofs.lemmas.Str.{is_utf8-from_IsUtf8}
use Rattle.json.specs.Token.{Token}
use Rattle.json.specs.Lex.{tokens}
use Rattle.json.specs.Json as json
use Rattle.json.specs.Json.{Json, document, if_last, value}
use Rattle.serde_json.specs.Data.{Data}
use Rattle.serde_json.specs.Read.{of_json, read}
use Rattle.apf_files.specs.JsonFile.{value_of}
use Rattle.apf_values.specs.Flat.{data_at, or_null}
use Rattle.apf_values.specs.Usual.{are_usual}
use Rattle.apf_values.proofs.Lookups.{data_begins}
use Rattle.apf_values.proofs.Usually.{IsUsual, HasData, Reads-value}

-- the text is one value, which `serde_json` reads alike
abbrev pub IsAlike : List ℕ → Type 0
IsAlike text = (d : Data) × (read text ≡ Some d) × (data_at (tokens text) ≡ Some d)

alike_by : (text : List ℕ) (o : Option (Json × List Token)) → value json.max_depth (tokens text) ≡ o → IsUsual HasData 127 o (value 127 (tokens text)) → is_some (option_and_then (λ p. if_last p.0 p.1) o) ≡ true → IsAlike text
alike_by text None e usual some = absurd cc
alike_by text (Some (j, t ∷ ts)) e usual some = absurd cc
alike_by text (Some (j, [])) e usual some =
    let has = usual.2 in (
      has.0,
      ap (λ r. option_and_then of_json (option_and_then (λ p. if_last p.0 p.1) r)) usual.0 ∙ has.1,
      data_begins (tokens text) j has.0 (json.max_depth, [], e) has.1,
    )

pub alike : (text : List ℕ) → is_some (document text) ≡ true → are_usual 127 (tokens text) ≡ true → IsAlike text
alike text some usual = alike_by text (value json.max_depth (tokens text)) refl (Reads-value json.max_depth 127 (tokens text) usual) some

-- the bytes are such a text
pub of_bytes : (bytes text : List ℕ) (d : Option Data) → text ≡ bytes → IsUtf8 bytes → read text ≡ d → value_of bytes ≡ d
of_bytes bytes text d same is is_read = rw (is_utf8-from_IsUtf8 bytes is, ← same) is_read

pub some_data : (o : Option Data) → is_some o ≡ true → Some (or_null o) ≡ o
some_data None h = absurd cc
some_data (Some d) h = refl
