-- What two levels say of the same requests, side by side.
use Rattle.std.specs.Prelude.{◌≡◌, ℕ, ◌+◌, ◌-◌, ◌^◌, Bool, ◌&&◌, ◌||◌, ◌==◌, nat_eq, nat_lt, List, [], ◌++◌, length, map, slice_get, Option, Some, None, if◌then◌else◌, codes, decimal}
use Rattle.std.specs.List.{flat_map, range_with_len}
use Rattle.std.specs.List.Sorted.{IsPermutation, IsSortedBy}
use Rattle.apf_flows.specs.Names.{hash_text, names_text}
use Rattle.apf_rows.specs.Texts.{percentile_text}
use Rattle.apf_rows.specs.declared.account.Figures.{Figures}
use Rattle.apf_rows.specs.declared.comparison.Place.{Place}
use Rattle.apf_rows.specs.declared.table.Line.{Line}
use Rattle.apf_rows.specs.declared.table.Table.{Table}

-- the longest wait of a flow, if it is there
abbrev pub longest : Option Line → ℕ
longest None = 0
longest (Some l) = l.figures.sums.longest

-- how far two numbers are apart
abbrev pub distance : ℕ → ℕ → ℕ
distance a b = (a - b) + (b - a)

-- the place of a flow: the less its longest wait changes, the more likeness it has
abbrev pub place_of : List Line → List Line → ℕ → Place
place_of lines others flow = record { likeness = 2 ^ 64 - 1 - distance (longest (slice_get lines flow)) (longest (slice_get others flow)); flow = flow }

-- less likeness comes first, then the flow that came first
abbrev pub comes_before : Place → Place → Bool
comes_before one other = nat_lt one.likeness other.likeness || ((one.likeness == other.likeness) && nat_lt one.flow other.flow)

-- all flows in the order of their places
pub record IsOrder (lines others : List Line) (order : List Place) : Type 0 where
  pub all : IsPermutation (map (place_of lines others) (range_with_len 0 (length lines))) order
  pub sorted : IsSortedBy comes_before order

-- the names of the columns
unfoldable pub comparison_header : List ℕ
comparison_header = codes "flow requests median median-2 p99 p99-2 longest longest-2 rejected rejected-2 cancelled cancelled-2 schema distinguisher\n"

-- a percentile of both, each with a space before it
unfoldable pub percentiles_text : Bool → ℕ → Bool → ℕ → List ℕ
percentiles_text exact one exact_2 other = (codes " " ++ percentile_text exact one) ++ (codes " " ++ percentile_text exact_2 other)

-- a number of both, each with a space before it
unfoldable pub numbers_text : ℕ → ℕ → List ℕ
numbers_text one other = codes " " ++ decimal one ++ codes " " ++ decimal other

-- the longest waits of both, who was turned away, and who gave up
unfoldable pub lost_text : Figures → Figures → List ℕ
lost_text one other = numbers_text one.sums.longest other.sums.longest ++ (numbers_text one.sums.rejected other.sums.rejected ++ numbers_text one.sums.cancelled other.sums.cancelled)

-- how many requests there are
unfoldable pub requests_text : Figures → List ℕ
requests_text one = codes " " ++ decimal one.sums.requests

-- the figures of both
unfoldable pub figures_text : Figures → Figures → List ℕ
figures_text one other =
    requests_text one ++ (percentiles_text one.is_exact one.median other.is_exact other.median
    ++ (percentiles_text one.is_exact one.high other.is_exact other.high ++ lost_text one other))

-- the line of a flow
unfoldable pub pair_line : Line → Line → List ℕ
pair_line line other = hash_text line.hash ++ figures_text line.figures other.figures ++ names_text line.names ++ codes "\n"

-- the line of a flow that is there in both
abbrev pub pair_of : Option Line → Option Line → List ℕ
pair_of None other = []
pair_of (Some line) None = []
pair_of (Some line) (Some other) = pair_line line other

abbrev pub pair_text : List Line → List Line → Place → List ℕ
pair_text lines others place = pair_of (slice_get lines place.flow) (slice_get others place.flow)

-- the line of the flows that have no line of their own, if there are any
unfoldable pub others_line : Figures → Figures → List ℕ
others_line one other = if nat_eq one.sums.requests 0 then [] else codes "others" ++ figures_text one other ++ codes "\n"

-- the line of all requests
unfoldable pub all_line : Figures → Figures → List ℕ
all_line one other = codes "whole" ++ figures_text one other ++ codes "\n"

-- a line of names, the lines of the flows, and the line of all requests
unfoldable pub comparison_text : Table → Table → List Place → List ℕ
comparison_text one other order =
    comparison_header ++ (flat_map (pair_text one.lines.items other.lines.items) order ++ (others_line one.others other.others ++ all_line one.all other.all))
