-- The wait of a request that was dispatched, in a log, which has its oldest event first.
use Rattle.std.specs.Prelude.{◌≡◌, ℕ, ◌+◌, ◌<◌, List, slice_get, Some}
use Rattle.apf_history.specs.declared.events.Event.{Event}
use Rattle.apf_history.specs.declared.events.Event.TheVariants.{Enter, Dispatch}
use Rattle.apf_book.specs.Stretch.{IsBounded, seats_before}

-- the event after one place is r's Enter into q, and the event after a later one is its Dispatch
abbrev pub WaitedBetween : List Event → ℕ → ℕ → ℕ → ℕ → Type 0
WaitedBetween log from to r q = (from < to) × (slice_get log from ≡ Some (Enter r q)) × (slice_get log to ≡ Some (Dispatch r q))

-- between a request's Enter and its Dispatch its own queue was given at most the seats before it, and each other at most these and twice the largest width
abbrev pub AreDispatchesBounded : ℕ → List ℕ → List Event → Type 0
AreDispatchesBounded queues widths log = (from to r q : ℕ) → WaitedBetween log from to r q → IsBounded queues widths log (from + 1) to q (seats_before widths log from q)
