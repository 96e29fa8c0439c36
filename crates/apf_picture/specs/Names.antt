-- Names, as XML has them. A long one is cut in its middle.
use Rattle.std.specs.Prelude.{◌≡◌, ◌≢◌, ℕ, ◌+◌, ◌-◌, ◌/◌, ◌⊎◌, List, [], ◌∷◌, ◌++◌, All, Bool, true, false, ◌||◌, ◌==◌, nat_le, nat_lt, if◌then◌else◌, sum_by, drop, codes, decimal, encode_utf8}
use Rattle.std.specs.List.{flat_map}
use Rattle.apf_flows.specs.Json.{is_within}
use Rattle.apf_flows.specs.Names.{hash_text}
use Rattle.apf_picture.specs.declared.cutting.Cutting.{Cutting}
use Rattle.apf_picture.specs.Labels.{Called, By_name, By_names, By_hash, By_number}
use Rattle.apf_picture.specs.Words.{joined, counted_text}

-- a control character, the tab and the ends of lines too: below U+0020, and from U+007F to U+009F
abbrev pub is_control : ℕ → Bool
is_control c = nat_lt c 32 || is_within 127 159 c

-- the character turns the direction of writing: U+061C, U+200E, U+200F, U+202A to U+202E, and U+2066 to U+2069
abbrev pub turns : ℕ → Bool
turns c = c == 1564 || is_within 8206 8207 c || is_within 8234 8238 c || is_within 8294 8297 c

-- a mark stands for the character: it is a control character, it turns the direction of writing, or XML does not allow it
abbrev pub is_marked : ℕ → Bool
is_marked c = is_control c || turns c || c == 65534 || c == 65535

-- a character: the four that have a meaning by their names, and some by a mark
abbrev pub character_text : ℕ → List ℕ
character_text c =
    if c == 38 then codes "&amp;"
    else (if c == 60 then codes "&lt;"
    else (if c == 62 then codes "&gt;"
    else (if c == 34 then codes "&quot;"
    else (if is_marked c then codes "&#65533;"
    else encode_utf8 c))))

-- a character as it is drawn
abbrev pub visible_of : ℕ → ℕ
visible_of c = if is_marked c then 65533 else c

-- a text
abbrev pub escaped : List ℕ → List ℕ
escaped text = flat_map character_text text

-- one of the five references
abbrev pub IsReference : List ℕ → Type 0
IsReference text = (text ≡ codes "&amp;") ⊎ ((text ≡ codes "&lt;") ⊎ ((text ≡ codes "&gt;") ⊎ ((text ≡ codes "&quot;") ⊎ (text ≡ codes "&#65533;"))))

-- none of the four bytes that have a meaning
pub record IsPlain (byte : ℕ) : Type 0 where
  pub no_ampersand : byte ≢ 38
  pub no_less_than : byte ≢ 60
  pub no_greater_than : byte ≢ 62
  pub no_quote : byte ≢ 34

-- a reference, or bytes without a meaning
abbrev pub IsPiece : List ℕ → Type 0
IsPiece piece = IsReference piece ⊎ All IsPlain piece

-- the text is made of such pieces
pub record IsXmlText (text : List ℕ) : Type 0 where
  pub pieces : List (List ℕ)
  pub each : All IsPiece pieces
  pub is : joined pieces ≡ text

-- the wide characters: six letters, the control characters, and all beyond ASCII
abbrev pub is_wide : ℕ → Bool
is_wide c = c == 37 || c == 64 || c == 77 || c == 87 || c == 109 || c == 119 || nat_lt c 32 || nat_le 127 c

-- how many columns a character takes, and a name
abbrev pub columns_of : ℕ → ℕ
columns_of c = if is_wide c then 2 else 1

abbrev pub width_of : List ℕ → ℕ
width_of name = sum_by columns_of name

-- as much of the beginning as there is room for, and of the end
abbrev pub front_of : (room : ℕ) → List ℕ → List ℕ
front_of room [] = []
front_of room (c ∷ cs) = if nat_le (columns_of c) room then c ∷ front_of (room - columns_of c) cs else []

abbrev pub back_of : (room : ℕ) → List ℕ → List ℕ
back_of room [] = []
back_of room (c ∷ cs) = if nat_le (width_of (c ∷ cs)) room then c ∷ cs else back_of room cs

-- a whole name, with two quotes for an empty one
abbrev pub whole_name : List ℕ → List ℕ
whole_name [] = codes "&quot;&quot;"
whole_name (c ∷ cs) = escaped (c ∷ cs)

-- its beginning and its end, each in as many columns as are given, and an ellipsis between them
unfoldable pub cut_name : (place rest : ℕ) → List ℕ → List ℕ
cut_name place rest name = escaped (front_of place name) ++ codes "&#8230;" ++ escaped (back_of rest name)

-- a name in a number of columns, of which an ellipsis takes two, and stands at the place
abbrev pub name_cut_at : (place most : ℕ) → List ℕ → List ℕ
name_cut_at place most name = if nat_le (width_of name) most then whole_name name else cut_name place (most - 2 - place) name

-- the same, cut in its middle
abbrev pub name_text : (most : ℕ) → List ℕ → List ℕ
name_text most name = name_cut_at (most / 2 - 1) most name

-- the number of a row, if the rows need one
abbrev pub number_text : Bool → (number : ℕ) → List ℕ
number_text false number = []
number_text true number = joined (decimal (number + 1) ∷ codes ": " ∷ [])

-- a distinguisher without what is left out, and both names
unfoldable pub distinguisher_text : Cutting → (most : ℕ) → List ℕ → List ℕ
distinguisher_text cutting most name = name_cut_at cutting.place most (drop cutting.left_out name)

unfoldable pub both_text : Cutting → List ℕ → List ℕ → List ℕ
both_text cutting schema distinguisher = name_text 14 schema ++ codes " / " ++ distinguisher_text cutting 20 distinguisher

-- what the row of this number is called
abbrev pub label_text : Cutting → (number : ℕ) → Called → List ℕ
label_text cutting number (By_name distinguisher) = number_text cutting.has_numbers number ++ distinguisher_text cutting 36 distinguisher
label_text cutting number (By_names schema distinguisher) = number_text cutting.has_numbers number ++ both_text cutting schema distinguisher
label_text cutting number (By_hash hash) = hash_text hash
label_text cutting number (By_number flows) = counted_text flows (codes "other flow")

-- the same with whole names
abbrev pub whole_label : Called → List ℕ
whole_label (By_name distinguisher) = whole_name distinguisher
whole_label (By_names schema distinguisher) = whole_name schema ++ codes " / " ++ whole_name distinguisher
whole_label (By_hash hash) = hash_text hash
whole_label (By_number flows) = counted_text flows (codes "other flow")
