-- The paths of areas, lines and marks.
use Rattle.std.specs.Prelude.{ℕ, ◌-◌, ◌*◌, ◌/◌, min, max, not, ◌||◌, ◌==◌, if◌then◌else◌, List, [], ◌∷◌, ◌++◌, length, slice_index, codes, decimal}
use Rattle.std.specs.List.{flat_map, range_with_len}
use Rattle.apf_picture.specs.Scales.{scaled_of}
use Rattle.apf_picture.specs.Words.{joined}
use Rattle.apf_cluster_picture.specs.Means.{mean_of, height_of}
use Rattle.apf_cluster_picture.specs.declared.columns.Plot.{Plot}

-- how high the mean of a bin is drawn
abbrev pub height_at : Plot → List ℕ → (bin : ℕ) → ℕ
height_at plot bins bin = height_of plot.pixel plot.full (mean_of plot.width (slice_index bins bin))

-- the height of its top in the picture
abbrev pub top_at : Plot → List ℕ → (bin : ℕ) → ℕ
top_at plot bins bin = plot.foot - height_at plot bins bin

-- where a bin begins
abbrev pub begins_at : Plot → (bin : ℕ) → ℕ
begins_at plot bin = scaled_of (bin * plot.width) plot.end 880

-- the way to a bin, and the height of its top
unfoldable pub change_text : (x y : ℕ) → List ℕ
change_text x y = joined (codes "H" ∷ decimal x ∷ codes "V" ∷ decimal y ∷ [])

-- that of a bin of another height than the one before it, and of the first
abbrev pub column_text : Plot → List ℕ → (bin : ℕ) → List ℕ
column_text plot bins bin =
    if bin == 0 || not (height_at plot bins (bin - 1) == height_at plot bins bin) then change_text (begins_at plot bin) (top_at plot bins bin) else []

-- and of the bins from one on, up to another one
abbrev pub columns_text : Plot → List ℕ → (first behind : ℕ) → List ℕ
columns_text plot bins first behind = flat_map (column_text plot bins) (range_with_len first (behind - first))

-- an area of this class
unfoldable pub area_head : (foot : ℕ) → List ℕ → List ℕ
area_head foot class = joined (codes "<path class=\"" ∷ class ∷ codes "\" d=\"M0 " ∷ decimal foot ∷ [])

unfoldable pub area_end : (foot : ℕ) → List ℕ
area_end foot = joined (codes "H880V" ∷ decimal foot ∷ codes "z\"/>\n" ∷ [])

unfoldable pub area_text : Plot → List ℕ → List ℕ → List ℕ
area_text plot class bins = area_head plot.foot class ++ columns_text plot bins 0 (length bins) ++ area_end plot.foot

-- how many bins end before the end of the log, and one at least
abbrev pub whole_bins : Plot → List ℕ → ℕ
whole_bins plot bins = min (max (plot.end / plot.width) 1) (length bins)

-- the line of the limit, as far as bins are whole, and on to the end
unfoldable pub limit_head : (y : ℕ) → List ℕ
limit_head y = joined (codes "<path class=\"limit\" d=\"M0 " ∷ decimal y ∷ [])

unfoldable pub limit_text : Plot → List ℕ → List ℕ
limit_text plot bins = limit_head (top_at plot bins 0) ++ columns_text plot bins 1 (whole_bins plot bins) ++ codes "H880\"/>\n"

-- a mark for each bin that has something
unfoldable pub mark_text : (x : ℕ) → List ℕ
mark_text x = joined (codes "M" ∷ decimal x ∷ codes " 116v8" ∷ [])

abbrev pub mark_at : Plot → List ℕ → (bin : ℕ) → List ℕ
mark_at plot bins bin = if slice_index bins bin == 0 then [] else mark_text (begins_at plot bin)

unfoldable pub marks_text : Plot → List ℕ → List ℕ
marks_text plot bins = codes "<path class=\"rejected\" d=\"" ++ flat_map (mark_at plot bins) (range_with_len 0 (length bins)) ++ codes "\"/>\n"
