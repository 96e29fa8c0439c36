-- How much there is at a time, and the most that there ever is.
use Rattle.std.specs.Prelude.{ℕ, List, [], ◌∷◌, Bool, true, false, ◌&&◌, nat_le, nat_lt, if◌then◌else◌, map, sum_by}
use Rattle.apf_picture.specs.declared.life.Life.{Life}
use Rattle.apf_picture.specs.declared.span.Span.{Span}
use Rattle.apf_picture.specs.Columns.{columns, time_of, is_in}

-- what there is of a span at the time
abbrev pub held_at : (time : ℕ) → Span → ℕ
held_at time span = if nat_le span.from time && nat_lt time span.to then span.amount else 0

-- what there is of all
abbrev pub held : List Span → (time : ℕ) → ℕ
held spans time = sum_by (held_at time) spans

-- the same at the time of each column
unfoldable pub columns_of : (ℕ → ℕ) → (end : ℕ) → List ℕ
columns_of f end = map (λ column. f (time_of end column)) columns

-- the seats of the requests of a row and of those below it
abbrev pub before_seats : Bool → Life → List Span → List Span
before_seats false life spans = spans
before_seats true life spans = record { from = life.until; to = life.ends; amount = life.seats } ∷ spans

abbrev pub seat_spans : List Life → (row : ℕ) → List Span
seat_spans [] row = []
seat_spans (life ∷ lives) row = before_seats (nat_le life.row row) life (seat_spans lives row)

-- the waits of the requests in a queue
abbrev pub before_wait : Bool → Life → List Span → List Span
before_wait false life spans = spans
before_wait true life spans = record { from = life.arrives; to = life.until; amount = 1 } ∷ spans

abbrev pub wait_spans : List Life → (queue : ℕ) → List Span
wait_spans [] queue = []
wait_spans (life ∷ lives) queue = before_wait (is_in queue life.queue) life (wait_spans lives queue)
