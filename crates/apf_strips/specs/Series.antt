-- What is true of every series.
use Rattle.std.specs.Prelude.{◌≡◌, ℕ, ◌^◌, ◌<◌, ◌≤◌, List, length}
use Rattle.apf_strips.specs.Limits.{bin_count, most_doublings}
use Rattle.apf_strips.specs.Spans.{Span, SeriesView, AreBins}

-- There are spans of which these are the bins.
pub record IsSeries (v : SeriesView) : Type 0 where
  pub count : length v.bins ≡ bin_count
  pub few : v.doublings ≤ most_doublings
  pub fits : v.total < 2 ^ 128
  pub spans : List Span
  pub are : AreBins spans v

-- These are the bins of the same spans, and became twice as long so many times.
pub record IsWidened (u : SeriesView) (doublings : ℕ) (v : SeriesView) : Type 0 where
  pub is : v.doublings ≡ doublings
  pub total : v.total ≡ u.total
  pub same : (spans : List Span) → AreBins spans u → AreBins spans v
