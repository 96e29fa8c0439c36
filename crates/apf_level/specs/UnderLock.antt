-- Whoever decided for a level's requests under its lock: its book, or the Desk alone.
use Rattle.std.specs.Prelude.{List, []}
use Rattle.apf_history.specs.declared.events.Event.{Event}
use Rattle.apf_gate.specs.Tokens.{DeskToken}
use Rattle.apf_level.specs.declared.hearing.UnderLock.{UnderLock}
use Rattle.apf_level.specs.declared.hearing.UnderLock.TheVariants as under_lock
use Rattle.apf_level.specs.Levels.{LevelId, IsBookOf, IsIdleOf}

abbrev pub desk_in : UnderLock → DeskToken
desk_in (under_lock.Book b) = b.desk
desk_in (under_lock.Desk d) = d

-- the log, the newest event first
abbrev pub log_in : UnderLock → List Event
log_in (under_lock.Book b) = b.ledger.history
log_in (under_lock.Desk d) = []

-- it is this level's
abbrev pub IsUnderLockOf : LevelId → UnderLock → Type 0
IsUnderLockOf k (under_lock.Book b) = IsBookOf k b
IsUnderLockOf k (under_lock.Desk d) = IsIdleOf k d
