-- A number for each ordered pair of queues.
use Rattle.std.specs.Prelude.{ℕ, ◌+◌, ◌*◌, List, slice_index}

-- this many queues, and the numbers of the pairs of the first one, then those of the second
pub record PairsView : Type 0 where
  pub queues : ℕ
  pub numbers : List ℕ

-- the number of a pair
unfoldable pub cell : PairsView → ℕ → ℕ → ℕ
cell p x y = slice_index p.numbers (x * p.queues + y)
