-- The wait of a request in a log, and what is granted while it lasts.
use Rattle.std.specs.Prelude.{◌≡◌, ◌≢◌, ◌⊎◌, ℕ, ◌+◌, ◌<◌, ◌≤◌, List, length, slice_get, All, Some}
use Rattle.apf_history.specs.declared.events.Event.{Event}
use Rattle.apf_history.specs.declared.events.Event.TheVariants.{Enter, Dispatch, Strike}
use Rattle.apf_model.specs.History.{queue_of}
use Rattle.apf_book.specs.declared.overtaking.Wait.{Wait}
use Rattle.apf_book.specs.Stretch.{WaitsFrom, seats_before, service_in, granted_in}

-- r enters no queue
abbrev pub NeverEnters : List Event → ℕ → Type 0
NeverEnters log r = (k q : ℕ) → slice_get log k ≢ Some (Enter r q)

-- the wait of r in q ends at this place: the event after it is r's Dispatch or Strike, or the log ends here
abbrev pub EndsAt : List Event → ℕ → ℕ → ℕ → Type 0
EndsAt log to r q = (to ≡ length log) ⊎ ((slice_get log to ≡ Some (Dispatch r q)) ⊎ (slice_get log to ≡ Some (Strike r q)))

-- the wait of r, and what is granted from the place after its Enter to that wait's end
pub record IsWaitOf (widths : List ℕ) (log : List Event) (r : ℕ) (w : Wait) : Type 0 where
  pub from : ℕ
  pub to : ℕ
  pub waits : WaitsFrom log from to r w.queue
  pub ends : EndsAt log to r w.queue
  -- the seats before it
  pub ahead : w.ahead ≡ seats_before widths log from w.queue
  -- no other queue is given more than the most, and one is given so much
  pub others : (other : ℕ) → other ≢ w.queue → service_in widths log (from + 1) to other ≤ w.most
  pub one_other : (other : ℕ) × (other ≢ w.queue) × (service_in widths log (from + 1) to other ≡ w.most)
  -- all is what is granted out of as many queues as the log names
  pub all : (queues : ℕ) → All (λ e. queue_of e < queues) log → w.all ≡ granted_in queues widths log (from + 1) to
