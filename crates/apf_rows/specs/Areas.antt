-- The areas under the number of those that wait, and under the seats in use.
use Rattle.std.specs.Prelude.{◌≡◌, ℕ, zero, suc, ◌+◌, ◌*◌, ◌≤◌, Bool, ◌&&◌, List, [], ◌∷◌, Option, Some, None, nat_le, nat_lt, if◌then◌else◌}
use Rattle.apf_stream.specs.Waits.{wait_of}
use Rattle.apf_stream.specs.declared.ended.Ended.{Ended}
use Rattle.apf_rows.specs.declared.sums.Sums.{Sums}

-- this many, from a time on, for so long
pub record Span : Type 0 where
  pub from : ℕ
  pub length : ℕ
  pub height : ℕ

-- a span counts at the times from its beginning on, and before its end
abbrev pub counts_at : ℕ → Span → Bool
counts_at time s = nat_le s.from time && nat_lt time (s.from + s.length)

-- how many there are at this time
abbrev pub height_at : ℕ → List Span → ℕ
height_at time [] = 0
height_at time (s ∷ spans) = (if counts_at time s then s.height else 0) + height_at time spans

-- the area under these from time 0 until this time: the sum over all times before it
abbrev pub area : ℕ → List Span → ℕ
area zero spans = 0
area (suc time) spans = area time spans + height_at time spans

-- each request waits from its arrival on, as long as it waits
abbrev pub waits : List Ended → List Span
waits [] = []
waits (e ∷ told) = record { from = e.hold.asked.times.arrives_at; length = wait_of e; height = 1 } ∷ waits told

-- the seats that were given to one, as long as it runs
abbrev pub held : Option ℕ → (runs_for width : ℕ) → List Span → List Span
held None runs_for width spans = spans
held (Some since) runs_for width spans = record { from = since; length = runs_for; height = width } ∷ spans

-- the seats of all requests that were given theirs
abbrev pub holdings : List Ended → List Span
holdings [] = []
holdings (e ∷ told) = held e.since e.hold.asked.times.runs_for e.hold.asked.width (holdings told)

-- the sum of the waits is the area under the number of those that wait, and the seat-time that under the seats in use, until the last request was over
pub record AreAreas (told : List Ended) (s : Sums) : Type 0 where
  pub waited : s.waited ≡ area s.last (waits told)
  pub seat_time : s.seat_time ≡ area s.last (holdings told)
