-- A level whose log both sides of the bound may follow.
use Rattle.std.specs.Prelude.{Option}
use Rattle.apf_local.specs.Levels.{LocalView}
use Rattle.apf_watched.specs.declared.watch.Watch.{Watch}

-- the level, and what is kept of its log, if anything is
pub record WatchedView : Type 0 where
  pub level : LocalView
  pub watch : Option Watch
