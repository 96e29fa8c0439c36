-- What a reader of a level's log has read.
use Rattle.std.specs.Prelude.{◌≡◌, ℕ, ◌-◌, ◌++◌, List, length, take, drop}
use Rattle.apf_history.specs.declared.events.Event.{Event}
use Rattle.apf_level.specs.Copies.{fitting}

-- the events that were read, the oldest first, and how many there is room for in all
pub record FollowerView : Type 0 where
  pub events : List Event
  pub room : ℕ

-- of this log those from the first that was not read on were read, as many as there is room for
pub record Gains (log : List Event) (before after : FollowerView) : Type 0 where
  pub gained : after.events ≡ before.events ++ take (fitting (length log) (length before.events) (before.room - length before.events)) (drop (length before.events) log)
  pub room : after.room ≡ before.room
