-- What the requests of a run in rounds ask of the workers' Stations.
use Rattle.std.specs.Prelude.{◌≡◌, ℕ, ◌≤◌, List, length, All, Option, Some, None, slice_get}
use Rattle.apf_words.specs.Limits.{max_width, max_requests}
use Rattle.apf_files.specs.declared.requests.Request.{Request}
use Rattle.apf_gate.specs.declared.record.Asked.{Asked}
use Rattle.apf_gate.specs.declared.ticket.Ticket.{Ticket}
use Rattle.apf_gate.specs.Gauges.{max_numbers}
use Rattle.apf_gate.specs.Slots.{slot_of, round_of, number_of}
use Rattle.apf_gate.specs.Tokens.{GateId, StationToken}
use Rattle.apf_run.specs.Plans.{IsNamed, KeepsTo}

-- how many rounds a run may have
abbrev pub max_rounds : ℕ
max_rounds = 1000000

-- it is the ticket of a request of the slot, of this width, that comes in one of this many rounds
pub record IsOfRounds (rounds slot width : ℕ) (ticket : Ticket) : Type 0 where
  pub round : ℕ
  pub came : 1 ≤ round
  pub in_rounds : round ≤ rounds
  pub is : ticket.number ≡ number_of slot round width

-- the request asks for 1 to 20,000 seats
abbrev pub HasWidth : Request → Type 0
HasWidth request = (1 ≤ request.width) × (request.width ≤ max_width)

-- the width of a slot's requests
abbrev pub width_it_asks : Option Request → ℕ
width_it_asks (Some request) = request.width
width_it_asks None = 0

-- what a slot's requests ask for beside their width: the hash of their flow, and their width as their cost
abbrev pub ask_it_asks : Option Request → Asked
ask_it_asks (Some request) = record { hash = request.hash; cost = request.width }
ask_it_asks None = record { hash = 0; cost = 0 }

-- the number of a slot's request of this round
abbrev pub number_in : List Request → ℕ → ℕ → ℕ
number_in requests slot round = number_of slot round (width_it_asks (slice_get requests slot))

-- the request came in one of this many rounds, and some request names its slot to be cancelled
pub record IsNamedIn (requests : List Request) (rounds : ℕ) (r : ℕ) : Type 0 where
  pub named : IsNamed requests (slot_of r)
  pub came : 1 ≤ round_of r
  pub in_rounds : round_of r ≤ rounds

-- the Station keeps to the requests, and cancelled only requests of these rounds in slots that some request names
abbrev pub IsFaithful : GateId → List Request → ℕ → StationToken → Type 0
IsFaithful gate requests rounds s = KeepsTo gate (IsNamedIn requests rounds) requests s

-- the requests are those of the plan, one for each slot of a gate for life, as there are places for the newest; each asks for a width in range, and the rounds are not too many
pub record AreOrders (gate : GateId) (plan : List Request) (rounds : ℕ) (requests : List Request) (places : ℕ) : Type 0 where
  pub is : requests ≡ plan
  pub each : length requests ≡ gate.shape.slots
  pub few : length requests ≤ max_requests
  pub newest : places ≡ length requests
  pub numbers : length gate.shape.widths ≡ max_numbers
  pub widths : All HasWidth requests
  pub few_rounds : rounds ≤ max_rounds
