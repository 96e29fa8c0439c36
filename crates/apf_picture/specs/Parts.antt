-- The texts of the axis and of the seats.
use Rattle.std.specs.Prelude.{ℕ, ◌+◌, ◌-◌, ◌*◌, ◌/◌, ◌%◌, List, [], ◌∷◌, ◌++◌, Bool, true, false, not, ◌||◌, ◌==◌, nat_lt, if◌then◌else◌, min, max, length, slice_index, codes, decimal}
use Rattle.std.specs.List.{flat_map, range_with_len}
use Rattle.apf_picture.specs.declared.scale.Unit.{Unit}
use Rattle.apf_picture.specs.declared.scale.Unit.TheVariants.{Microseconds, Milliseconds, Seconds, Minutes, Hours, Days}
use Rattle.apf_picture.specs.declared.columns.Area.{Area}
use Rattle.apf_picture.specs.Scales.{scaled_of, unit_by, unit_length, unit_name}
use Rattle.apf_picture.specs.Columns.{tops_in}
use Rattle.apf_picture.specs.Words.{joined, tenths_text, two_text}

-- the axis: how far behind the beginning the first mark stands, which is at a whole number of steps
abbrev pub first_mark : (from step : ℕ) → ℕ
first_mark from step = (step - from % step) % step

-- the line of a mark that is at a place
unfoldable pub mark_line : (end depth place : ℕ) → List ℕ
mark_line end depth place =
    joined (codes "M" ∷ decimal (scaled_of place end 880) ∷ codes " 0v" ∷ decimal depth ∷ [])

-- the line of each mark, of which the first is at a place
abbrev pub marked_lines : (first end step depth : ℕ) → List ℕ
marked_lines first end step depth = flat_map (λ mark. mark_line end depth (first + mark * step)) (range_with_len 0 ((end - first) / step + 1))

-- the same, if there is one
abbrev pub all_lines : (from end step depth : ℕ) → List ℕ
all_lines from end step depth = if nat_lt end (first_mark from step) then [] else marked_lines (first_mark from step) end step depth

unfoldable pub lines_text : (from end step depth : ℕ) → List ℕ
lines_text from end step depth =
    codes "<g transform=\"translate(48 124)\">\n<path class=\"line\" d=\"" ++ all_lines from end step depth ++ codes "\"/>\n</g>\n"

-- what stands before the time of a mark
unfoldable pub mark_head : (x : ℕ) → List ℕ
mark_head x = joined (codes "<text class=\"small\" x=\"" ∷ decimal x ∷ codes "\">" ∷ [])

-- a number of units
unfoldable pub value_text : ℕ → List ℕ → List ℕ
value_text value name = joined (decimal value ∷ codes " " ∷ name ∷ [])

-- a time that is no whole number of the unit: with one digit after the point, or in two units
abbrev pub part_text : Unit → (time : ℕ) → List ℕ
part_text Microseconds time = value_text time (codes "&#181;s")
part_text Milliseconds time = tenths_text time 1000 (codes "ms")
part_text Seconds time = tenths_text time 1000000 (codes "s")
part_text Minutes time = two_text (time / 60000000) (codes "min") (time % 60000000 / 1000000) (codes "s")
part_text Hours time = two_text (time / 3600000000) (codes "h") (time % 3600000000 / 60000000) (codes "min")
part_text Days time = two_text (time / 86400000000) (codes "d") (time % 86400000000 / 3600000000) (codes "h")

-- a time of an axis whose marks are a step apart
abbrev pub mark_words : Unit → (step time : ℕ) → List ℕ
mark_words unit step time =
    if step % unit_length unit == 0 then value_text (time / unit_length unit) (unit_name unit) else part_text unit time

-- the time of a mark that is at a place
unfoldable pub mark_label : Unit → (from end step place : ℕ) → List ℕ
mark_label unit from end step place = mark_head (scaled_of place end 880) ++ mark_words unit step (from + place) ++ codes "</text>\n"

-- the time of each mark, of which the first is at a place, in the units of the text of the length
abbrev pub marked_labels : (first from end step : ℕ) → List ℕ
marked_labels first from end step = flat_map (λ mark. mark_label (unit_by end) from end step (first + mark * step)) (range_with_len 0 ((end - first) / step + 1))

-- the same, if there is one
abbrev pub all_labels : (from end step : ℕ) → List ℕ
all_labels from end step = if nat_lt end (first_mark from step) then [] else marked_labels (first_mark from step) from end step

unfoldable pub labels_head : (y : ℕ) → List ℕ
labels_head y = joined (codes "<g transform=\"translate(48 " ∷ decimal y ∷ codes ")\" text-anchor=\"middle\">\n" ∷ [])

-- the times at a height
unfoldable pub labels_text : (from end step y : ℕ) → List ℕ
labels_text from end step y = labels_head y ++ all_labels from end step ++ codes "</g>\n"

-- the lines, and the times above and below them
unfoldable pub axis_text : (from end step depth : ℕ) → List ℕ
axis_text from end step depth = lines_text from end step depth ++ labels_text from end step 118 ++ labels_text from end step (depth + 138)

-- the seats: whether the value of a column is another one than that of the column before
abbrev pub changes : List ℕ → ℕ → Bool
changes values column = column == 0 || not (slice_index values (column - 1) == slice_index values column)

-- how far from above the top of this many seats is, where the most are 130 high
abbrev pub top_place : (seats most : ℕ) → ℕ
top_place seats most = 140 - scaled_of seats most 130

unfoldable pub change_text : (seats column most : ℕ) → List ℕ
change_text seats column most =
    joined (codes "H" ∷ decimal column ∷ codes "V" ∷ decimal (top_place seats most) ∷ [])

abbrev pub column_text : List ℕ → (most column : ℕ) → List ℕ
column_text tops most column = if changes tops column then change_text (slice_index tops column) column most else []

-- the top of an area: at each column where it changes, the way there and the new height
abbrev pub top_text : List ℕ → (most : ℕ) → List ℕ
top_text tops most = flat_map (column_text tops most) (range_with_len 0 (length tops))

unfoldable pub area_head : (row : ℕ) → List ℕ
area_head row = joined (codes "<path class=\"f" ∷ decimal row ∷ codes "\" d=\"M0 140" ∷ [])

unfoldable pub area_text : (most : ℕ) → Area → List ℕ
area_text most area = area_head area.row ++ top_text (tops_in area) most ++ codes "H880V140z\"/>\n"

abbrev pub areas_text : List Area → (most : ℕ) → List ℕ
areas_text areas most = flat_map (area_text most) areas

unfoldable pub limit_line : (y : ℕ) → List ℕ
limit_line y = joined (codes "<path class=\"limit\" d=\"M0 " ∷ decimal y ∷ codes "h880\"/>\n" ∷ [])

-- a number of seats, with its foot at a height
unfoldable pub seats_number : (y seats : ℕ) → List ℕ
seats_number y seats = joined (codes "<text class=\"small\" x=\"-6\" y=\"" ∷ decimal y ∷ codes "\" text-anchor=\"end\">" ∷ decimal seats ∷ codes "</text>\n" ∷ [])

-- where the number of the limit stands: beside its line, and eleven pixels at least from the numbers at 10, if one is there, and at 140
abbrev pub limit_place : (y : ℕ) → Bool → ℕ
limit_place y true = min (max y 21) 129
limit_place y false = min (max y 10) 129

-- the line of the limit, and its number
unfoldable pub limit_text : (used limit most : ℕ) → List ℕ
limit_text used limit most = limit_line (top_place limit most) ++ seats_number (limit_place (top_place limit most) (nat_lt limit used) + 4) limit

-- a tick at the most seats and their number, if they are more than the limit
unfoldable pub peak_tick : (used : ℕ) → List ℕ
peak_tick used = codes "<path class=\"peak\" d=\"M-4 10h4\"/>\n" ++ seats_number 14 used

abbrev pub peak_text : (used limit : ℕ) → List ℕ
peak_text used limit = if nat_lt limit used then peak_tick used else []

-- the numbers beside the plot, and the line of the limit
unfoldable pub seats_scale : (used limit : ℕ) → List ℕ
seats_scale used limit = limit_text used limit (max used limit) ++ peak_text used limit ++ seats_number 144 0

unfoldable pub seats_heading : (used limit : ℕ) → List ℕ
seats_heading used limit =
    joined (codes "<text class=\"part\" y=\"-24\">Seats in use <tspan class=\"note\">by flow, at most " ∷ decimal used ∷ codes "; the limit is " ∷ decimal limit ∷ codes "</tspan></text>\n" ∷ [])

unfoldable pub seats_head : (used limit : ℕ) → List ℕ
seats_head used limit =
    codes "<g transform=\"translate(48 124)\">\n" ++ seats_heading used limit ++ codes "<rect class=\"plot\" width=\"880\" height=\"140\"/>\n"

-- the part of the seats, of which this many were used at most
unfoldable pub seats_text : List Area → (used limit : ℕ) → List ℕ
seats_text areas used limit = seats_head used limit ++ areas_text areas (max used limit) ++ seats_scale used limit ++ codes "</g>\n"
