-- What is said of bytes that are no JSON, by how they begin.
use Rattle.std.specs.Prelude.{◌≡◌, ℕ, ⊤, List, [], ◌∷◌, Bool, nat_eq, ◌||◌, if◌then◌else◌, Option, Some, None, IfSome, codes}
use Rattle.std.specs.List.{starts_with}
use Rattle.apf_explain.specs.declared.reason.Cause.{Cause}
use Rattle.apf_explain.specs.declared.reason.Cause.TheVariants.{Unknown, Early, NotUtf8, TooDeep, Yaml, LargeNumber}

-- the bytes begin with these
abbrev pub begins : (bytes front : List ℕ) → Bool
begins bytes front = starts_with nat_eq bytes front

-- the bytes begin as UTF-16 does: with its mark of byte order, or with a bracket of two bytes, where 91 is `[` and 123 is `{`
abbrev pub begins_utf16 : List ℕ → Bool
begins_utf16 bytes =
    begins bytes (255 ∷ 254 ∷ []) || begins bytes (254 ∷ 255 ∷ []) || begins bytes (91 ∷ 0 ∷ []) || begins bytes (123 ∷ 0 ∷ [])
    || begins bytes (0 ∷ 91 ∷ []) || begins bytes (0 ∷ 123 ∷ [])

-- what is said of a mark of byte order, of UTF-16 and of gzip
abbrev pub mark_text : List ℕ → Option (List ℕ)
mark_text bytes =
    if begins bytes (239 ∷ 187 ∷ 191 ∷ []) then Some (codes ": the bytes begin with a mark of byte order (BOM): take it away")
    else (if begins_utf16 bytes then Some (codes ": the bytes begin as UTF-16 does: they must be UTF-8")
    else (if begins bytes (31 ∷ 139 ∷ []) then Some (codes ": the bytes begin as gzip does: unpack them first")
    else None))

-- what is said of a line that begins an array: 91 is `[`
abbrev pub array_text : List ℕ → Option (List ℕ)
array_text bytes = if begins bytes (91 ∷ []) then Some (codes ": an array begins here: write one object on each line") else None

-- the one, or else the other
abbrev pub first_text : (one other : Option (List ℕ)) → Option (List ℕ)
first_text None other = other
first_text (Some text) other = Some text

-- what is said of a line, by how it begins
abbrev pub line_mark_text : List ℕ → Option (List ℕ)
line_mark_text bytes = first_text (mark_text bytes) (array_text bytes)

-- what is told is what is said of the beginning, where something is
abbrev pub IsSaid : (said : Option (List ℕ)) (told : List ℕ) → Type 0
IsSaid said told = IfSome said (λ text. told ≡ text)

-- what is said of bytes by what their reader says of them
abbrev pub cause_text : Cause → List ℕ
cause_text Unknown = []
cause_text Early = codes ": the text ends too early"
cause_text NotUtf8 = codes ": the bytes here are not UTF-8"
cause_text TooDeep = codes ": more than 127 arrays and objects stand in one another"
cause_text Yaml = codes ": the bytes begin as YAML does: write them as JSON"
cause_text LargeNumber = codes ": the number here is too large"

-- what is told is what is said, or else by what the reader says
abbrev pub IsWhy : (said : Option (List ℕ)) (told : List ℕ) → Type 0
IsWhy None told = (cause : Cause) × (told ≡ cause_text cause)
IsWhy (Some text) told = told ≡ text

-- the same of a line, if it is there: what is said of its beginning, or else of its file, or else by what the reader says
abbrev pub IsWhyOfLine : (line file : Option (List ℕ)) → List ℕ → Type 0
IsWhyOfLine None file told = ⊤
IsWhyOfLine (Some line) file told = IsWhy (first_text (line_mark_text line) file) told
