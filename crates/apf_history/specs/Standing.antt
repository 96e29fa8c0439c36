-- Of the requests that a history names.
use Rattle.std.specs.Prelude.{ℕ, List, [], ◌∷◌}
use Rattle.apf_history.specs.declared.events.Event.{Event}
use Rattle.apf_history.specs.History.{request_of}

-- what is so of each request that an event names
abbrev pub EachNames : (ℕ → Type 0) → List Event → Type 0
EachNames P [] = Unit {0}
EachNames P (e ∷ h) = P (request_of e) × EachNames P h
