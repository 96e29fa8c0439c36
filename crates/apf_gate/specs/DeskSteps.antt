-- The steps of the Desk, each by its token, its operation and its word.
use Rattle.std.specs.Prelude.{◌≡◌, ◌≢◌, ℕ, ◌<◌, ◌≤◌, ◌∷◌, length, Option, Some, None}
use Rattle.apf_words.specs.Level.{Level}
use Rattle.apf_words.specs.declared.decision.Decision.{Decision}
use Rattle.apf_words.specs.declared.decision.Decision.TheVariants.{Execute, QueueFull, Cancelled}
use Rattle.apf_model.specs.declared.moves.Move.TheVariants.{Grant, Leave, Decide, Release}
use Rattle.apf_gate.specs.declared.record.Actor.TheVariants.{OfDesk}
use Rattle.apf_gate.specs.declared.record.Knowledge.{Knowledge}
use Rattle.apf_gate.specs.declared.record.Service.{Service}
use Rattle.apf_gate.specs.declared.record.Service.TheVariants.{NotHanded, Waiting, Held, Settled, Left}
use Rattle.apf_gate.specs.declared.record.DeskRecord.{DeskRecord}
use Rattle.apf_gate.specs.Records.{service}
use Rattle.apf_gate.specs.Requests.{MayHold, desk_wrote}
use Rattle.apf_gate.specs.Steps.{SawLevel, SawDecision}

-- what the Desk did with one more request, and what it knows then
abbrev pub served : DeskRecord → ℕ → Service → Knowledge → DeskRecord
served desk r service known' = record desk { services = (r, service) ∷ desk.services; knows = known' }

-- where a request waits in the Desk's record, the level word has some that wait
abbrev pub CountsWaiting : DeskRecord → Level → Type 0
CountsWaiting desk level = (r : ℕ) → r < length desk.knows.shape.widths → service desk r ≡ Waiting → 1 ≤ level.waiters

-- the Desk loads the level word
abbrev pub DeskLoadsLevel : DeskRecord → Level → DeskRecord → Type 0
DeskLoadsLevel desk level desk' = (known' : Knowledge) × SawLevel OfDesk desk.knows level None known' × CountsWaiting desk level × (desk' ≡ record desk { knows = known' })

-- its exchange of the level word granted r its seats, which it holds
abbrev pub DeskExchangesLevel : ℕ → DeskRecord → Level → DeskRecord → Type 0
DeskExchangesLevel r desk level desk' = (known' : Knowledge) × SawLevel OfDesk desk.knows level (Some (Grant r)) known' × (desk' ≡ record desk { services = (r, Held) ∷ desk.services; held = Some r; knows = known' })

-- it subtracts from the level word the seats of r, which it held: they are given back
abbrev pub DeskSubtractsSeats : ℕ → DeskRecord → Level → DeskRecord → Type 0
DeskSubtractsSeats r desk level desk' = (known' : Knowledge) × SawLevel OfDesk desk.knows level (Some (Release r)) known' × (desk' ≡ record desk { services = (r, Left) ∷ desk.services; held = None; knows = known' })

-- it subtracts r from those that wait in the level word: r leaves
abbrev pub DeskSubtractsWaiter : ℕ → DeskRecord → Level → DeskRecord → Type 0
DeskSubtractsWaiter r desk level desk' = (known' : Knowledge) × SawLevel OfDesk desk.knows level (Some (Leave r)) known' × (desk' ≡ served desk r Left known')

-- what the Desk may find in a decision word, by what it did with the request
abbrev pub DeskMayFind : Service → Option Decision → Type 0
DeskMayFind NotHanded found = found ≢ Some QueueFull
DeskMayFind service found = MayHold (desk_wrote service) found

-- it loads the decision word of r
abbrev pub DeskLoadsDecision : ℕ → DeskRecord → Option Decision → DeskRecord → Type 0
DeskLoadsDecision r desk found desk' = (known' : Knowledge) × SawDecision OfDesk desk.knows r found found None known' × DeskMayFind (service desk r) found × (desk' ≡ record desk { knows = known' })

-- its exchange wrote execute of r, which it held
abbrev pub DeskExchangesDecision : ℕ → DeskRecord → DeskRecord → Type 0
DeskExchangesDecision r desk desk' = (known' : Knowledge) × SawDecision OfDesk desk.knows r None (Some Execute) (Some (Decide r Execute)) known' × (desk' ≡ record desk { services = (r, Settled) ∷ desk.services; held = None; knows = known' })

-- its exchange found another decision of r, which is cancelled: a load
abbrev pub DeskMissesDecision : ℕ → DeskRecord → Option Decision → DeskRecord → Type 0
DeskMissesDecision r desk found desk' = (found ≡ Some Cancelled) × DeskLoadsDecision r desk found desk'
