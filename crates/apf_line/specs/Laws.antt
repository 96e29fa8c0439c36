-- What is true of every book of a level.
use Rattle.std.specs.Prelude.{◌≡◌, ℕ, List, []}
use Rattle.apf_gate.specs.declared.record.Entry.{Entry}
use Rattle.apf_book.specs.Life.{LifeView}
use Rattle.apf_book.specs.LifeBook.{LifeBookView, IsLifeKept, ServesLife}
use Rattle.apf_book.specs.LifeCalls.{SameLifeBook}
use Rattle.apf_line.specs.Levels.{LifeId, IsBookOf, IsHistoryOf, nothing_yet}
use Rattle.apf_line.specs.Stopped.{IsStopped}

pub record HasHistories : Type 0 where
  -- what it is of is a history of the level
  pub of_level : (k : LifeId) (v : LifeView) (b : LifeBookView) → IsBookOf k b → IsLifeKept v b → IsHistoryOf k b.desk.desk.knows.trace v
  -- nothing may have happened yet
  pub nothing : (k : LifeId) (trace : List Entry) → IsHistoryOf k trace (nothing_yet k)
  -- it is at rest as it begins, and after it was served until nothing waited or who was next did not fit
  pub begins : (v : LifeView) (b : LifeBookView) → v.history ≡ [] → IsLifeKept v b → IsStopped b
  pub served : (v : LifeView) (b b' : LifeBookView) (count : ℕ) → SameLifeBook b b' → ServesLife v b count b' → IsStopped b'

-- the same, closed
unfoldable pub LevelHistories : Type 0
LevelHistories = HasHistories
