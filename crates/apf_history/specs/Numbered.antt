-- What is said of each number, of a request or a queue.
use Rattle.std.specs.Prelude.{ℕ, ◌==◌, if◌then◌else◌, List, slice_index}

-- the request's width
abbrev pub width : List ℕ → ℕ → ℕ
width widths r = slice_index widths r

-- f, but a at r
abbrev pub put : {A : Type 0} → (ℕ → A) → ℕ → A → ℕ → A
put f r a j = if j == r then a else f j
