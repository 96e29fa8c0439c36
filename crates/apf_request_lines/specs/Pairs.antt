-- The pairs of a key and its value in a line.
use Rattle.std.specs.Prelude.{ℕ, zero, suc, ◌+◌, ◌==◌, List, [], ◌∷◌, length, take, drop, Bool, true, false, nat_lt, not, ◌&&◌, if◌then◌else◌, Option, Some, None, Result, Ok, Err, codes, bytes_eq}
use Rattle.std.specs.List.{starts_with, position_or_len, prefix_len}
use Rattle.apf_request_lines.specs.declared.fault.RequestLineFault.{RequestLineFault}
use Rattle.apf_request_lines.specs.declared.fault.RequestLineFault.TheVariants.{Unended}
use Rattle.apf_request_lines.specs.declared.key.Key.{Key}
use Rattle.apf_request_lines.specs.declared.key.Key.TheVariants as keys
use Rattle.apf_request_lines.specs.declared.pairs.Pair as code
use Rattle.apf_request_lines.specs.declared.pairs.Written as code_value
use Rattle.apf_request_lines.specs.Faults.{◌>>=◌}

-- how a key is written
abbrev pub name_of : Key → List ℕ
name_of keys.AuditId = codes "audit-ID"
name_of keys.Schema = codes "apf_fs"
name_of keys.Level = codes "apf_pl"
name_of keys.Seats = codes "apf_iseats"
name_of keys.FinalSeats = codes "apf_fseats"
name_of keys.ExecutionTime = codes "apf_execution_time"
name_of keys.AdditionalLatency = codes "apf_additionalLatency"

-- a blank, a quote, an equals sign, a backslash and a closing bracket
abbrev pub blank : ℕ
blank = 32

abbrev pub quote : ℕ
quote = 34

abbrev pub equals : ℕ
equals = 61

abbrev pub backslash : ℕ
backslash = 92

abbrev pub bracket : ℕ
bracket = 93

-- how many bytes stand before the first one of this value, or all where there is none
abbrev pub before : ℕ → List ℕ → ℕ
before byte bytes = position_or_len (λ b. b == byte) bytes

-- how many blanks stand in front
abbrev pub blanks : List ℕ → ℕ
blanks bytes = prefix_len (λ b. b == blank) bytes

-- how a value is written: between quotes, of which it is the part within, or up to the next blank
pub record Written : Type 0 where
  pub is_quoted : Bool
  pub bytes : List ℕ

-- a pair, and what stands behind it
pub record Pair : Type 0 where
  pub key : List ℕ
  pub value : Written
  pub rest : List ℕ

-- whether a byte is this one, and no backslash takes it
abbrev pub is_free : Bool → ℕ → ℕ → Bool
is_free is_taken byte wanted = not is_taken && (byte == wanted)

-- Where a text ends of which so many bytes stand in front of these: at the first quote that no backslash takes. A backslash takes the byte
-- behind it.
unfoldable pub text_end : (place : ℕ) → (is_taken : Bool) → List ℕ → Option ℕ
text_end place is_taken [] = None
text_end place is_taken (b ∷ bytes) = if is_free is_taken b quote then Some place else text_end (place + 1) (is_free is_taken b backslash) bytes

-- the value in front, where these bytes stand behind the quote that begins it
abbrev pub quoted : List ℕ → List ℕ → Option ℕ → Result Pair RequestLineFault
quoted key bytes None = Err Unended
quoted key bytes (Some end) = Ok (record { key = key; value = record { is_quoted = true; bytes = take end bytes }; rest = drop (end + 1) bytes })

-- the value in front of these bytes, up to the next blank
abbrev pub bare : List ℕ → List ℕ → Pair
bare key bytes = record { key = key; value = record { is_quoted = false; bytes = take (before blank bytes) bytes }; rest = drop (before blank bytes) bytes }

-- the pair of this key, whose value stands in front of these bytes
unfoldable pub pair_of : List ℕ → List ℕ → Result Pair RequestLineFault
pair_of key bytes = if starts_with (λ a b. a == b) bytes (quote ∷ []) then quoted key (drop 1 bytes) (text_end 0 false (drop 1 bytes)) else Ok (bare key bytes)

-- the first pair, whose key stands before the first equals sign; none where no such sign is
unfoldable pub pair_behind : List ℕ → Result (Option Pair) RequestLineFault
pair_behind bytes = if nat_lt (before equals bytes) (length bytes) then (do
  pair ← pair_of (take (before equals bytes) bytes) (drop (before equals bytes + 1) bytes)
  Ok (Some pair)) else Ok None

-- the first pair, behind the blanks in front of it
unfoldable pub pair_at : List ℕ → Result (Option Pair) RequestLineFault
pair_at bytes = pair_behind (drop (blanks bytes) bytes)

-- the value of this pair if it has this key, or what is found behind it; none where there is no pair
abbrev pub value_or : (List ℕ → Result (Option Written) RequestLineFault) → List ℕ → Option Pair → Result (Option Written) RequestLineFault
value_or behind key None = Ok None
value_or behind key (Some pair) = if bytes_eq pair.key key then Ok (Some pair.value) else behind pair.rest

-- the value of the first pair that has this key, of at most so many pairs
unfoldable pub value_among : ℕ → List ℕ → List ℕ → Result (Option Written) RequestLineFault
value_among zero key bytes = Ok None
value_among (suc n) key bytes = pair_at bytes >>= value_or (value_among n key) key

-- the value of the first pair that has this key; a pair has a byte at least, so there are no more pairs than bytes
abbrev pub value_of : List ℕ → List ℕ → Result (Option Written) RequestLineFault
value_of key bytes = value_among (length bytes) key bytes

-- a value and a pair of the code, without where they lie in memory
abbrev pub written : code_value.Written → Written
written value = record { is_quoted = value.is_quoted; bytes = value.bytes.now }

abbrev pub pair : code.Pair → Pair
pair p = record { key = p.key.now; value = written p.value; rest = p.rest.now }
