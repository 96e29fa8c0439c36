-- The ranges of a request's times.
use Rattle.std.specs.Prelude.{◌≤◌}
use Rattle.apf_times.specs.declared.course.Times.{Times}
use Rattle.apf_times.specs.Limits.{max_arrival, max_run}

-- times that cannot wrap
pub record AreInRange (t : Times) : Type 0 where
  pub arrives_at : t.arrives_at ≤ max_arrival
  pub runs_for : t.runs_for ≤ max_run
