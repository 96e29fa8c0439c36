-- What is counted of a queue along a log.
use Rattle.std.specs.Prelude.{◌≡◌, ◌+◌, ◌*◌, ◌^◌, ◌≤◌, ℕ, if◌then◌else◌, List, length}
use Rattle.apf_history.specs.declared.events.Event.{Event}
use Rattle.apf_model.specs.History.{waiting}
use Rattle.apf_model.specs.Order.{is_enter_into, is_dispatch_from, is_strike_from}
use Rattle.apf_book.specs.declared.stretch.Count.{Count}
use Rattle.apf_book.specs.Stretch.{history_at, service_in}

-- how many come to wait in q by an event
abbrev pub coming : Event → ℕ → ℕ
coming e q = if is_enter_into q e then 1 else 0

-- how many that wait in q leave it by an event
abbrev pub leaving : Event → ℕ → ℕ
leaving e q = (if is_dispatch_from q e then 1 else 0) + (if is_strike_from q e then 1 else 0)

-- this is counted of q up to a place, where its service counts from another place on
pub record IsCountAt (widths : List ℕ) (log : List Event) (from place q : ℕ) (c : Count) : Type 0 where
  pub waiting : c.waiting ≡ length (waiting (history_at log place) q)
  pub service : c.service ≡ service_in widths log from place q
  pub few : c.waiting ≤ place
  pub small : c.service ≤ 2 ^ 32 * place
