-- What is copied of a log.
use Rattle.std.specs.Prelude.{◌≡◌, ℕ, ◌-◌, ◌++◌, List, length, take, drop, reverse, nat_le, if◌then◌else◌}
use Rattle.apf_history.specs.declared.events.Event.{Event}
use Rattle.apf_book.specs.LedgerView.{IsLogOf}
use Rattle.apf_level.specs.Levels.{LevelId, logged_as}

-- this many events there are from this place on, of which this many fit
abbrev pub fitting : ℕ → ℕ → ℕ → ℕ
fitting events from room = if nat_le (events - from) room then events - from else room

-- of the log, the oldest event first, this many were copied from this place on, and the rest of the room is as it was
pub record Copies (log : List Event) (from : ℕ) (into : List Event) (count : ℕ) (into' : List Event) : Type 0 where
  pub count_is : count ≡ fitting (length log) from (length into)
  pub copied : into' ≡ take count (drop from log) ++ drop count into

-- of a log that the level may have had
pub record IsCopied (k : LevelId) (from : ℕ) (into : List Event) (count : ℕ) (into' : List Event) : Type 0 where
  pub log : List Event
  pub of_log : IsLogOf (logged_as k (reverse log))
  pub copies : Copies log from into count into'
