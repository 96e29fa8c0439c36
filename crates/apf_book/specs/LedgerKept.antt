-- The numbers of a log.
use Rattle.std.specs.Prelude.{◌≡◌, ℕ, List, count_by}
use Rattle.apf_history.specs.declared.events.Event.{Event}
use Rattle.apf_model.specs.Outcome as outcome
use Rattle.apf_book.specs.declared.stats.Stats.{Stats}

-- these are the stats of the model
pub record AreStats (s : Stats) (of : outcome.Stats) : Type 0 where
  pub entered : s.entered ≡ of.entered
  pub dispatched : s.dispatched ≡ of.dispatched
  pub struck : s.struck ≡ of.struck
  pub full : s.full ≡ of.full
  pub waiting : s.waiting ≡ of.waiting

-- the running numbers are those of the log
pub record AreRunning (h : List Event) (entered dispatched struck full : ℕ) : Type 0 where
  pub entered_is : entered ≡ count_by outcome.is_enter h
  pub dispatched_is : dispatched ≡ count_by outcome.is_dispatch h
  pub struck_is : struck ≡ count_by outcome.is_strike h
  pub full_is : full ≡ count_by outcome.is_full h
