-- The means of bins, the greatest of them, and how high they are drawn.
use Rattle.std.specs.Prelude.{ℕ, ◌+◌, ◌/◌, ◌%◌, min, max, List, [], ◌∷◌, codes, decimal}
use Rattle.apf_picture.specs.Words.{joined}
use Rattle.apf_strips.specs.Spans.{SeriesView, width_of}

-- the greatest of these
abbrev pub greatest : List ℕ → ℕ
greatest [] = 0
greatest (sum ∷ sums) = max sum (greatest sums)

-- The mean of a bin of this width, in thousandths. A width is some thousands of microseconds.
unfoldable pub mean_of : (width sum : ℕ) → ℕ
mean_of width sum = sum / max (width / 1000) 1

-- the greatest mean of a bin
unfoldable pub peak_of : SeriesView → ℕ
peak_of v = mean_of (width_of v) (greatest v.bins)

-- how many thousandths a pixel has where the greatest mean is not higher than this
unfoldable pub pixel_of : (most full : ℕ) → ℕ
pixel_of most full = most / full + 1

-- how high a mean is drawn
unfoldable pub height_of : (pixel full mean : ℕ) → ℕ
height_of pixel full mean = min (mean / max pixel 1) full

-- a mean with one digit after the point
unfoldable pub mean_text : ℕ → List ℕ
mean_text mean = joined (decimal (mean / 1000) ∷ codes "." ∷ decimal (mean % 1000 / 100) ∷ [])
