-- The codes of a decision word.
use Rattle.std.specs.Prelude.{ℕ, ◌+◌, ◌*◌, Option, Some, None}
use Rattle.apf_words.specs.declared.decision.Decision.{Decision}
use Rattle.apf_words.specs.declared.decision.Decision.TheVariants.{Execute, QueueFull, Closed, Cancelled, ConcurrencyLimit}

-- the code of a decision; 0 is undecided
abbrev pub code_of : Decision → ℕ
code_of Execute = 1
code_of QueueFull = 2
code_of Closed = 3
code_of Cancelled = 4
code_of ConcurrencyLimit = 5

-- the number in a decision word
abbrev pub code_in : Option Decision → ℕ
code_in None = 0
code_in (Some d) = code_of d

-- the word of a request: its mark, which no other request of its slot has, and in the three lowest bits the code of its decision
unfoldable pub marked : ℕ → Option Decision → ℕ
marked mark d = 8 * mark + code_in d
