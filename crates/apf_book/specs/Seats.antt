-- What one event does to a queue's seats, and to a request that waits.
use Rattle.std.specs.Prelude.{ℕ, ◌==◌, if◌then◌else◌, Bool, false, List}
use Rattle.apf_history.specs.declared.events.Event.{Event}
use Rattle.apf_history.specs.declared.events.Event.TheVariants.{Enter, Dispatch, Strike}
use Rattle.apf_history.specs.Numbered.{width}

-- the seats that come to wait in q by an event
abbrev pub seats_coming : List ℕ → Event → ℕ → ℕ
seats_coming widths (Enter r p) q = if p == q then width widths r else 0
seats_coming widths _ q = 0

-- the seats that wait in q and leave it by an event
abbrev pub seats_leaving : List ℕ → Event → ℕ → ℕ
seats_leaving widths (Dispatch r p) q = if p == q then width widths r else 0
seats_leaving widths (Strike r p) q = if p == q then width widths r else 0
seats_leaving widths _ q = 0

-- the event is r's Dispatch or Strike
abbrev pub is_leaving_of : ℕ → Event → Bool
is_leaving_of r (Dispatch j q) = j == r
is_leaving_of r (Strike j q) = j == r
is_leaving_of r _ = false
