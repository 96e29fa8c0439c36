-- What is owed after a call, by what it answers.
use Rattle.std.specs.Prelude.{ℕ, Bool, false, Option, Some, None}
use Rattle.apf_words.specs.declared.decision.Decision.{Decision}
use Rattle.apf_words.specs.declared.decision.Decision.TheVariants as decisions
use Rattle.apf_gate.specs.declared.answers.TrySetLimit.{TrySetLimit}
use Rattle.apf_gate.specs.declared.answers.TrySetLimit.TheVariants as setting
use Rattle.apf_line.specs.declared.attempts.Tried.{Tried}
use Rattle.apf_line.specs.declared.attempts.Tried.TheVariants as tries

-- whether requests waited when an attempt gave its seats back, or the limit was set: then a dispatch is owed
abbrev pub owed_by : Tried → Bool
owed_by tries.Run = false
owed_by (tries.Over decision waiters) = waiters
owed_by tries.Blocked = false
owed_by tries.Raced = false

abbrev pub owed_by_setting : TrySetLimit → Bool
owed_by_setting (setting.Set old waiters) = waiters
owed_by_setting setting.Raced = false

-- the request whose strike is owed, once a cancel answered this decision of it: one that is cancelled, and no other
abbrev pub strike_owed : Decision → ℕ → Option ℕ
strike_owed decisions.Execute r = None
strike_owed decisions.QueueFull r = None
strike_owed decisions.Closed r = None
strike_owed decisions.ConcurrencyLimit r = None
strike_owed decisions.Cancelled r = Some r
