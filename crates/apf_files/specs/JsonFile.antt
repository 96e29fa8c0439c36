-- Words for the files that are JSON.
use Rattle.std.specs.Prelude.{◌≡◌, ℕ, List, Bool, true, ◌&&◌, nat_le, nat_lt, if◌then◌else◌, Option, Some, None, option_and_then, Result, Ok, Err}
use Rattle.std.specs.Str.{is_utf8}
use Rattle.serde_json.specs.Data.{Data, Members, no_members, member}
use Rattle.serde_json.specs.Find.{get, as_number, as_str, as_u64}
use Rattle.serde_json.specs.Read.{read}
use Rattle.serde_json.specs.View.{view}
use Rattle.apf_files.specs.declared.json.Parsed.{Parsed}
use Rattle.apf_files.specs.declared.json.Parsed.TheVariants.{Value, Stopped}

-- the value of a JSON text in UTF-8, or none where the bytes are no such text
abbrev pub value_of : List ℕ → Option Data
value_of bytes = if is_utf8 bytes then read bytes else None

-- the value of what bytes were parsed as, or none where they are no JSON text in UTF-8
abbrev pub value_in : Parsed → Option Data
value_in (Value value) = Some (view value)
value_in (Stopped error) = None

-- the judgement of what was read, where a file that is no JSON has a fault of its own
abbrev pub judged : {T F : Type 0} → F → (Data → Result T F) → Option Data → Result T F
judged not_json judge (Some d) = judge d
judged not_json judge None = Err not_json

-- the answer is the judgement of the value that the bytes are
abbrev pub IsJudgementOf : {T F : Type 0} → F → (Data → Result T F) → List ℕ → Result T F → Type 0
IsJudgementOf not_json judge bytes answer = answer ≡ judged not_json judge (value_of bytes)

-- the text at a key, if there is one
unfoldable pub text_at : List ℕ → Data → Option (List ℕ)
text_at key d = option_and_then as_str (get key d)

-- each key is a known one
abbrev pub all_known : (List ℕ → Bool) → Members → Bool
all_known is_known no_members = true
all_known is_known (member k d ms) = is_known k && all_known is_known ms

-- an object whose keys are all known; else the one fault or the other
abbrev pub known_object : {F : Type 0} → (List ℕ → Bool) → F → F → Option Members → Result Members F
known_object is_known not_object unknown_key None = Err not_object
known_object is_known not_object unknown_key (Some ms) = if all_known is_known ms then Ok ms else Err unknown_key

-- the whole number that the value is, if it is one from 0 on
abbrev pub whole_of : Data → Option ℕ
whole_of d = option_and_then as_u64 (as_number d)

-- the whole number that the value is, if it is one from low to high
abbrev pub whole_in : ℕ → ℕ → Data → Option ℕ
whole_in low high d = option_and_then (λ n. if nat_le low n && nat_le n high then Some n else None) (whole_of d)

-- the whole number that the value is, if it is one below this
abbrev pub whole_below : ℕ → Data → Option ℕ
whole_below end d = option_and_then (λ n. if nat_lt n end then Some n else None) (whole_of d)
