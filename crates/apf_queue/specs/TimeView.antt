-- Virtual time as it is stored.
use Rattle.std.specs.Prelude.{ℕ, List, slice_index}
use Rattle.apf_model.specs.Fair.{Numbers}

-- what contracts see: the number next of each queue, the level's virtual time, and the queue dispatched from last
pub record TimeView : Type 0 where
  pub next : List ℕ
  pub virtual_time : ℕ
  pub robin : ℕ

-- these numbers of virtual time
abbrev pub numbers_of : TimeView → Numbers
numbers_of t = record { next = λ q. slice_index t.next q; virtual_time = t.virtual_time; robin = t.robin }
