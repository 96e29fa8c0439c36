-- Amounts that were in force from a time until another one, and what a bin has of them.
use Rattle.std.specs.Prelude.{◌≡◌, ℕ, ◌+◌, ◌-◌, ◌*◌, ◌<◌, ◌≤◌, min, max, List, slice_index, sum_by}
use Rattle.std.specs.List.{AllByRecursion}
use Rattle.apf_strips.specs.Limits.{bin_count, width_after}

-- an amount, and from when until when it was in force
pub record Span : Type 0 where
  pub amount : ℕ
  pub from : ℕ
  pub to : ℕ

-- how much of the time from one time until another lies between two times
unfoldable pub overlap : (from to low high : ℕ) → ℕ
overlap from to low high = min to high - max from low

-- what a bin of this width has of a span: the amount times the time that they share
unfoldable pub part_of : (width bin : ℕ) → Span → ℕ
part_of width bin span = span.amount * overlap span.from span.to (bin * width) (bin * width + width)

-- the amount times the time of a span
unfoldable pub whole_of : Span → ℕ
whole_of span = span.amount * (span.to - span.from)

-- What contracts see of a series.
pub record SeriesView : Type 0 where
  -- the sum of amount times time in each bin
  pub bins : List ℕ
  -- and in all
  pub total : ℕ
  -- how many times a bin became twice as long
  pub doublings : ℕ

-- how long a bin is
abbrev pub width_of : SeriesView → ℕ
width_of v = width_after v.doublings

-- These spans were added: each bin has the sum of what it shares with them, and none ends behind the last bin.
pub record AreBins (spans : List Span) (v : SeriesView) : Type 0 where
  pub bins : (bin : ℕ) → bin < bin_count → slice_index v.bins bin ≡ sum_by (part_of (width_of v) bin) spans
  pub total : v.total ≡ sum_by whole_of spans
  pub inside : AllByRecursion (λ span. span.to ≤ bin_count * width_of v) spans
  pub in_order : AllByRecursion (λ span. span.from ≤ span.to) spans
