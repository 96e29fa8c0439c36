-- How lines stand in a buffer.
use Rattle.std.specs.Prelude.{◌≡◌, ℕ, ◌+◌, ◌*◌, ◌-◌, ◌<◌, ◌≤◌, List, ◌∷◌, ◌++◌, length, take, drop, Result, MatchResult}
use Rattle.std.specs.declared.option.Option.{Option}
use Rattle.std.specs.Io.KnownBytes.{Keeps, Consumes, IsAtEnd}
use Rattle.apf_lines.specs.Lines.{lf, HasNoLf}

-- the bytes from one place to another
abbrev pub between : ℕ → ℕ → List ℕ → List ℕ
between from to bytes = take (to - from) (drop from bytes)

-- a buffer of twice the longest line, in which the line that was cut off last stands before what is kept
pub record IsBuffer (longest from to start end : ℕ) (bytes : List ℕ) : Type 0 where
  pub some : 0 < longest
  pub room : length bytes ≡ 2 * longest
  pub line : from ≤ to
  pub before : to ≤ start
  pub in_order : start ≤ end
  pub inside : end ≤ length bytes

-- this many bytes stand before the first LF
pub record IsFirstLf (bytes : List ℕ) (count : ℕ) : Type 0 where
  pub inside : count < length bytes
  pub whole : HasNoLf (take count bytes)
  pub parts : bytes ≡ take count bytes ++ (lf ∷ drop (count + 1) bytes)

-- the reader gave this many bytes, which stand behind the first ones; none only at its end
pub record GivesBehind (was left : Option (List ℕ)) (first : ℕ) (bytes : List ℕ) (count : ℕ) : Type 0 where
  pub inside : first + count ≤ length bytes
  pub given : Consumes was left (take count (drop first bytes))
  pub end : count ≡ 0 → IsAtEnd left

-- the reader gave bytes, or it failed and has what it had
abbrev pub ReadsBehind : {E : Type 0} → Option (List ℕ) → Option (List ℕ) → ℕ → Result ℕ E → List ℕ → Type 0
ReadsBehind was left first result bytes = MatchResult result (GivesBehind was left first bytes) (λ _. Keeps was left)
