-- The limits of levels that hold requests back.
use Rattle.std.specs.Prelude.{ℕ, max, min}
use Rattle.apf_words.specs.Limits.{max_limit}

-- the limit of a level that holds requests back: its nominal limit, but one seat at least, and no more than requests can be there
abbrev pub limit_of : ℕ → ℕ
limit_of nominal = max (min nominal max_limit) 1
