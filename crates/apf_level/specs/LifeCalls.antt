-- What the calls of a level ask and answer, where more than one call does.
use Rattle.std.specs.Prelude.{◌≡◌, ◌≤◌, ◌<◌, ◌==◌, not, ℕ, Bool, false, List, length, All, Some, Result, IfErr, OnOk}
use Rattle.apf_words.specs.Limits.{max_cost}
use Rattle.apf_flow.specs.Fault.{fault_of}
use Rattle.apf_flow.specs.Sizes.{IsDealable}
use Rattle.apf_model.specs.declared.response.Response.{Response}
use Rattle.apf_model.specs.declared.response.Response.TheVariants.{Queue, Reject}
use Rattle.apf_model.specs.declared.config.Config.{Config}
use Rattle.apf_queue.specs.View.{IsQueueShape}
use Rattle.apf_queue.specs.declared.fault.QueueFault.TheVariants as queue
use Rattle.apf_gate.specs.declared.record.State.TheVariants.{Fresh, InLine}
use Rattle.apf_gate.specs.Records.{new_desk}
use Rattle.apf_gate.specs.Tokens.{GateId, PassToken, DeskToken, StationToken, pass_gate, station_gate}
use Rattle.apf_book.specs.declared.settling.Settling.{Settling}
use Rattle.apf_book.specs.Life.{IsAskedBy, places_of}
use Rattle.apf_book.specs.declared.fault.BookFault.{BookFault}
use Rattle.apf_book.specs.declared.fault.BookFault.TheVariants.{Dealer, Queues, NoMemory}
use Rattle.apf_level.specs.declared.life.answers.Begin.{Begin}
use Rattle.apf_line.specs.Levels.{LifeId}
use Rattle.apf_line.specs.Tokens.{IsOf}
use Rattle.apf_level.specs.LifeAdmission.{begun_pass, IsBegunTold, EnteredNow}

-- whether what requests take is settled, on a level of this many slots
abbrev pub settles_by : Settling → ℕ → Bool
settles_by settling slots = not (places_of settling slots == 0)

-- the gate is the level's, as it was opened for life for these settings, with its Desk
pub record IsGateFor (k : LifeId) (config : Config) (settling : Settling) (gate : GateId) (given : DeskToken) : Type 0 where
  pub own : gate ≡ k.gate
  pub desk : given ≡ record { table = gate.table; desk = new_desk gate.shape }
  pub limit : gate.shape.limit ≡ config.limit
  pub response : gate.shape.response ≡ config.limit_response
  pub sizes : k.sizes ≡ record { deck = config.queues; hand = config.hand_size }
  pub queue_limit : k.queue_limit ≡ config.queue_length_limit
  pub settles : k.settles ≡ settles_by settling gate.shape.slots

-- the Passes are those of the gate's slots, which nobody held yet
pub record AreFirst (gate : GateId) (passes : List PassToken) : Type 0 where
  pub all : length passes ≡ gate.shape.slots
  pub fresh : All (λ (t : PassToken). (pass_gate t ≡ gate) × (t.pass.state ≡ Fresh)) passes

-- the settings make a dealer and queues
abbrev pub AreSettings : Config → ℕ → Type 0
AreSettings c slots = IsDealable c.queues c.hand_size × IsQueueShape c.queues c.queue_length_limit slots

-- the first fault of a level with queues: the dealer's, the queues', out of memory
abbrev pub IsFaultOf : Config → ℕ → BookFault → Type 0
IsFaultOf c slots (Dealer f) = fault_of c.queues c.hand_size ≡ Some f
IsFaultOf c slots (Queues f) = IsDealable c.queues c.hand_size × (f ≡ queue.BadShape) × (¬ IsQueueShape c.queues c.queue_length_limit slots)
IsFaultOf c slots NoMemory = AreSettings c slots

-- the first fault: without queues it is out of memory alone
abbrev pub FaultBy : Response → Config → ℕ → BookFault → Type 0
FaultBy Queue c slots fault = IsFaultOf c slots fault
FaultBy Reject c slots fault = fault ≡ NoMemory

-- with queues, the settings make a dealer and queues
abbrev pub SettledBy : Response → Config → ℕ → Type 0
SettledBy Queue c slots = AreSettings c slots
SettledBy Reject c slots = Unit {0}

-- an opening is refused by the first fault of the settings, or by want of memory
pub record IsJudged {A : Type 0} (config : Config) (slots : ℕ) (made : Result A BookFault) : Type 0 where
  pub settings : OnOk made (SettledBy config.limit_response config slots)
  pub fault : IfErr made (FaultBy config.limit_response config slots)

-- it stands in line, and was never handed over, with a hand of queues of the level and a cost of 1 to 4,294,967,295, for which it asked
pub record StandsInLine (k : LifeId) (token : PassToken) (hand : List ℕ) (cost : ℕ) : Type 0 where
  pub own : pass_gate token ≡ k.gate
  pub in_line : token.pass.state ≡ InLine
  pub not_handed : token.pass.handed ≡ false
  pub has_cards : 0 < length hand
  pub are_queues : All (λ (q : ℕ). q < k.sizes.deck) hand
  pub some_cost : 1 ≤ cost
  pub low : cost ≤ max_cost
  pub asked : IsAskedBy k.sizes token.pass.knows.trace hand cost token.pass.number

-- what an arrival leaves and answers: the Pass of the same request, which was told what is answered, and has whether its request entered
pub record AfterBegin (token : PassToken) (answer : Begin) : Type 0 where
  pub same : IsOf token (begun_pass answer)
  pub told : IsBegunTold answer
  pub entered : EnteredNow token.pass answer

-- the tokens are of the level, and as many as it has slots and Stations
pub record AreAllOf (k : LifeId) (passes : List PassToken) (stations : List StationToken) : Type 0 where
  pub own_passes : All (λ (t : PassToken). pass_gate t ≡ k.gate) passes
  pub own_stations : All (λ (t : StationToken). station_gate t ≡ k.gate) stations
  pub all_passes : length passes ≡ k.gate.shape.slots
  pub all_stations : length stations ≡ k.gate.shape.stations
