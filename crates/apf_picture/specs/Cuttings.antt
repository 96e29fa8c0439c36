-- How the names of a picture are cut, so that its rows are told apart.
use Rattle.std.specs.Prelude.{◌≡◌, ℕ, ◌+◌, ◌-◌, ◌/◌, ◌%◌, ◌<◌, ◌≤◌, min, List, [], ◌∷◌, ◌++◌, length, take, drop, map, count_by, Bool, true, false, ◌||◌, ◌==◌, nat_le, nat_lt, if◌then◌else◌, bytes_eq}
use Rattle.std.specs.List.{list_all}
use Rattle.apf_picture.specs.declared.cutting.Cutting.{Cutting}
use Rattle.apf_picture.specs.Labels.{Called, By_name, By_names, By_hash, By_number}
use Rattle.apf_picture.specs.Names.{width_of, front_of, back_of, visible_of}

-- how many characters two names share at their beginning
abbrev pub common : List ℕ → List ℕ → ℕ
common [] others = 0
common (c ∷ cs) [] = 0
common (c ∷ cs) (d ∷ ds) = if c == d then common cs ds + 1 else 0

-- how many a name shares with that of a row: the row of the other flows has all of it, and one without a name nothing
abbrev pub common_with : (first : List ℕ) → Called → ℕ
common_with first (By_name name) = common first name
common_with first (By_names schema distinguisher) = common first distinguisher
common_with first (By_hash hash) = 0
common_with first (By_number flows) = length first

-- how many it shares with those of all
abbrev pub common_to_all : (first : List ℕ) → List Called → ℕ
common_to_all first [] = length first
common_to_all first (label ∷ labels) = min (common_with first label) (common_to_all first labels)

-- a part of a name ends with one of five characters
abbrev pub is_separator : ℕ → Bool
is_separator c = c == 58 || c == 47 || c == 46 || c == 45 || c == 95

abbrev pub has_separator : List ℕ → Bool
has_separator [] = false
has_separator (c ∷ cs) = is_separator c || has_separator cs

-- how many characters there are up to the last separator
abbrev pub behind_separator : List ℕ → ℕ
behind_separator [] = 0
behind_separator (c ∷ cs) = if has_separator (c ∷ cs) then behind_separator cs + 1 else 0

-- there is room for the whole name
abbrev pub fits : Called → Bool
fits (By_name name) = nat_le (width_of name) 36
fits (By_names schema distinguisher) = nat_le (width_of distinguisher) 20
fits (By_hash hash) = true
fits (By_number flows) = true

-- a text up to its last separator
abbrev pub up_to_separator : List ℕ → List ℕ
up_to_separator text = take (behind_separator text) text

-- what all names have at their beginning, of which this is the first: up to a separator, and nothing if there is room for each or only one
abbrev pub beginning_by : (first : List ℕ) → List Called → List ℕ
beginning_by first labels = if nat_lt (length labels) 2 || list_all fits labels then [] else up_to_separator (take (common_to_all first labels) first)

-- the same of the names of the first row, and of those of all rows
abbrev pub beginning_of : Called → List Called → List ℕ
beginning_of (By_name name) labels = beginning_by name labels
beginning_of (By_names schema distinguisher) labels = beginning_by distinguisher labels
beginning_of (By_hash hash) labels = []
beginning_of (By_number flows) labels = []

-- what is left out of the names of all rows: their beginning up to a separator, if all have it and one of them has no room
abbrev pub shared_beginning : List Called → List ℕ
shared_beginning [] = []
shared_beginning (label ∷ labels) = beginning_of label (label ∷ labels)

-- a name as it is drawn, which is cut at a place if there is no room for it
abbrev pub quoted : List ℕ → List ℕ
quoted [] = 34 ∷ 34 ∷ []
quoted (c ∷ cs) = map visible_of (c ∷ cs)

abbrev pub seen_name : (place most : ℕ) → List ℕ → List ℕ
seen_name place most name =
    if nat_le (width_of name) most then quoted name else map visible_of (front_of place name) ++ 8230 ∷ map visible_of (back_of (most - 2 - place) name)

-- the names of a row as they are drawn, without what is left out of them
abbrev pub seen_label : (left_out place : ℕ) → Called → List ℕ
seen_label left_out place (By_name name) = seen_name place 36 (drop left_out name)
seen_label left_out place (By_names schema distinguisher) = seen_name 6 14 schema ++ 32 ∷ 47 ∷ 32 ∷ seen_name place 20 (drop left_out distinguisher)
seen_label left_out place (By_hash hash) = []
seen_label left_out place (By_number flows) = []

-- two rows have names that look the same
abbrev pub look_alike : List ℕ → List ℕ → Bool
look_alike [] others = false
look_alike (c ∷ cs) others = bytes_eq (c ∷ cs) others

abbrev pub are_alike : (left_out place : ℕ) → Called → Called → Bool
are_alike left_out place one other = look_alike (seen_label left_out place one) (seen_label left_out place other)

-- how many pairs of rows do
abbrev pub clashes : (left_out place : ℕ) → List Called → ℕ
clashes left_out place [] = 0
clashes left_out place (label ∷ labels) = count_by (are_alike left_out place label) labels + clashes left_out place labels

-- the columns that a cut name has beside the ellipsis
abbrev pub room_by : Called → ℕ
room_by (By_name name) = 34
room_by (By_names schema distinguisher) = 18
room_by (By_hash hash) = 18
room_by (By_number flows) = 18

abbrev pub room_of : List Called → ℕ
room_of [] = 18
room_of (label ∷ labels) = room_by label

-- where a name may be cut: in its middle, then behind it, and then before it
abbrev pub place_at : (room candidate : ℕ) → ℕ
place_at room candidate = (room / 2 + candidate) % (room + 1)

abbrev pub candidate_clashes : List Called → (left_out room candidate : ℕ) → ℕ
candidate_clashes labels left_out room candidate = clashes left_out (place_at room candidate) labels

-- the first of those below the count at which a number is least
pub record IsBest (f : ℕ → ℕ) (count : ℕ) (best : ℕ) : Type 0 where
  pub within : best < count
  pub least : (other : ℕ) → other < count → f best ≤ f other
  pub first : (other : ℕ) → other < best → f best < f other

-- names are cut where the fewest rows look the same; the number of its row stands before each, if two still do
pub record IsCutting (labels : List Called) (beginning : ℕ) (cutting : Cutting) : Type 0 where
  pub left_out : cutting.left_out ≡ beginning
  pub best : ℕ
  pub best_is : IsBest (candidate_clashes labels beginning (room_of labels)) (room_of labels + 1) best
  pub place : cutting.place ≡ place_at (room_of labels) best
  pub numbers : cutting.has_numbers ≡ nat_lt 0 (candidate_clashes labels beginning (room_of labels) best)
