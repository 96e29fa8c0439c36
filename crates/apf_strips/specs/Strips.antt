-- The four series of a priority level.
use Rattle.std.specs.Prelude.{ℕ, [], max}
use Rattle.apf_strips.specs.Spans.{AreBins}
use Rattle.apf_strips.specs.Series.{IsWidened}
use Rattle.apf_strips.specs.declared.strip.Strip.{Strip}

-- Nothing was added to any of them.
pub record IsNewStrip (s : Strip) : Type 0 where
  pub seats : AreBins [] s.seats
  pub waiting : AreBins [] s.waiting
  pub limit : AreBins [] s.limit
  pub rejected : AreBins [] s.rejected

-- how many times the longest bins became twice as long
abbrev pub most_of : Strip → ℕ
most_of s = max (max s.seats.doublings s.waiting.doublings) (max s.limit.doublings s.rejected.doublings)

-- Each has the bins of the same spans, which became twice as long so many times at least.
pub record IsWidenedStrip (s : Strip) (doublings : ℕ) (t : Strip) : Type 0 where
  pub seats : IsWidened s.seats (max s.seats.doublings doublings) t.seats
  pub waiting : IsWidened s.waiting (max s.waiting.doublings doublings) t.waiting
  pub limit : IsWidened s.limit (max s.limit.doublings doublings) t.limit
  pub rejected : IsWidened s.rejected (max s.rejected.doublings doublings) t.rejected
