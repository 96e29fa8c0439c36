-- What becomes of an arrival.
use Rattle.std.specs.Prelude.{◌≡◌, ℕ, Bool, true, false, List, [], ◌∷◌, Option, Some}
use Rattle.apf_words.specs.declared.decision.Decision.{Decision}
use Rattle.apf_words.specs.declared.decision.Decision.TheVariants.{QueueFull, Closed, Cancelled}
use Rattle.apf_history.specs.declared.events.Event.{Event}
use Rattle.apf_history.specs.declared.events.Event.TheVariants.{Enter, Full}
use Rattle.apf_history.specs.declared.events.Status.{Status}
use Rattle.apf_history.specs.declared.events.Status.TheVariants as status_is
use Rattle.apf_gate.specs.declared.record.Knowledge.{Knowledge}
use Rattle.apf_gate.specs.declared.record.PassRecord.{PassRecord}
use Rattle.apf_gate.specs.Records.{told_own}
use Rattle.apf_book.specs.declared.handing.Handed.{Handed}
use Rattle.apf_book.specs.declared.handing.Handed.TheVariants as handed
use Rattle.apf_book.specs.declared.arrived.Arrived.{Arrived}
use Rattle.apf_book.specs.declared.arrived.Arrived.TheVariants as arrived
use Rattle.apf_book.specs.Moves.{LastTold}

-- what the log is to say of a request that was handed to the Desk
abbrev pub after_handing : Handed → Option Status
after_handing handed.Entered = Some status_is.Waits
after_handing handed.Full = Some status_is.Full
after_handing handed.Closed = Some status_is.Away
after_handing handed.Cancelled = Some status_is.Away
after_handing handed.Raced = Some status_is.Away

-- the request entered
abbrev pub is_in : Handed → Bool
is_in handed.Entered = true
is_in handed.Full = false
is_in handed.Closed = false
is_in handed.Cancelled = false
is_in handed.Raced = false

-- the Desk's last step, in this call, was told this decision of the request, and so was its Pass
abbrev pub BothTold : Decision → PassRecord → Knowledge → Knowledge → Type 0
BothTold decision pass' known known' = LastTold known pass'.number decision known' × (told_own pass' ≡ Some decision)

-- a refusal is a decision that was told in this call
abbrev pub IsRefused : Handed → PassRecord → Knowledge → Knowledge → Type 0
IsRefused handed.Entered pass' known known' = Unit {0}
IsRefused handed.Full pass' known known' = BothTold QueueFull pass' known known'
IsRefused handed.Closed pass' known known' = BothTold Closed pass' known known'
IsRefused handed.Cancelled pass' known known' = BothTold Cancelled pass' known known'
IsRefused handed.Raced pass' known known' = Unit {0}

-- the event that an answer names
abbrev pub arrival : Arrived → ℕ → List Event
arrival (arrived.Queued q) r = Enter r q ∷ []
arrival (arrived.Full q) r = Full r q ∷ []
arrival arrived.Closed r = []
arrival arrived.Cancelled r = []
arrival arrived.Again r = []

-- it names one
abbrev pub is_logged : Arrived → Bool
is_logged (arrived.Queued q) = true
is_logged (arrived.Full q) = true
is_logged arrived.Closed = false
is_logged arrived.Cancelled = false
is_logged arrived.Again = false

-- the answer is a decision that was told in this call, if it means one
abbrev pub IsTold : Arrived → PassRecord → Knowledge → Knowledge → Type 0
IsTold (arrived.Queued q) pass' known known' = Unit {0}
IsTold (arrived.Full q) pass' known known' = BothTold QueueFull pass' known known'
IsTold arrived.Closed pass' known known' = BothTold Closed pass' known known'
IsTold arrived.Cancelled pass' known known' = BothTold Cancelled pass' known known'
IsTold arrived.Again pass' known known' = Unit {0}

-- the answer says that the level was open
abbrev pub SaysOpen : Arrived → Type 0
SaysOpen (arrived.Queued q) = Unit {0}
SaysOpen (arrived.Full q) = Unit {0}
SaysOpen arrived.Closed = ⊥
SaysOpen arrived.Cancelled = ⊥
SaysOpen arrived.Again = ⊥
