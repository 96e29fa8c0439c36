-- Why a level is not opened, and what one that was just opened is.
use Rattle.std.specs.Prelude.{◌≡◌, ◌⊎◌, ◌≤◌, ◌<◌, ◌*◌, ℕ, [], length, replicate, slice_get, All, Some}
use Rattle.apf_words.specs.Limits.{max_limit, max_requests}
use Rattle.apf_flow.specs.Sizes.{IsDealable}
use Rattle.apf_flow.specs.Fault.{fault_of}
use Rattle.apf_model.specs.declared.config.Config.{Config}
use Rattle.apf_model.specs.declared.response.Response.{Response}
use Rattle.apf_model.specs.declared.response.Response.TheVariants.{Queue, Reject}
use Rattle.apf_gate.specs.declared.fault.GateFault.{GateFault}
use Rattle.apf_gate.specs.declared.fault.GateFault.TheVariants as gate
use Rattle.apf_gate.specs.declared.record.State.TheVariants.{Fresh}
use Rattle.apf_gate.specs.Gauges.{max_numbers, spread}
use Rattle.apf_gate.specs.Tokens.{PassToken, StationToken, desk_gate}
use Rattle.apf_queue.specs.View.{queue_count, IsQueueShape}
use Rattle.apf_queue.specs.declared.fault.QueueFault.TheVariants.{BadShape}
use Rattle.apf_line.specs.Levels.{LifeId}
use Rattle.apf_book.specs.declared.settling.Settling.{Settling}
use Rattle.apf_book.specs.Life.{LifeView, places_of, settles_in}
use Rattle.apf_book.specs.LifeBook.{LifeBookView, IsLifeKept}
use Rattle.apf_book.specs.declared.fault.BookFault.{BookFault}
use Rattle.apf_book.specs.declared.fault.BookFault.TheVariants as book
use Rattle.apf_local.specs.declared.answer.Place.{Place}
use Rattle.apf_local.specs.declared.answer.Place.TheVariants.{Free}
use Rattle.apf_local.specs.declared.fault.OpenFault.{OpenFault}
use Rattle.apf_local.specs.declared.fault.OpenFault.TheVariants as faults
use Rattle.apf_local.specs.Owners.{OwnerView}
use Rattle.apf_local.specs.Levels.{LocalView}

-- what a fault of the gate is told as: out of memory as the call's own
abbrev pub told_of_gate : GateFault → OpenFault
told_of_gate gate.NoMemory = faults.NoMemory
told_of_gate gate.BadLimit = faults.Gate gate.BadLimit
told_of_gate (gate.BadWidth request) = faults.Gate (gate.BadWidth request)
told_of_gate gate.TooMany = faults.Gate gate.TooMany

-- what a fault of the queues is told as: out of memory as the call's own
abbrev pub told_of_level : BookFault → OpenFault
told_of_level book.NoMemory = faults.NoMemory
told_of_level (book.Dealer fault) = faults.Level (book.Dealer fault)
told_of_level (book.Queues fault) = faults.Level (book.Queues fault)

-- a setting of the queues. A level without queues has one of one request, which nobody enters
abbrev pub set_by : Response → ℕ → ℕ
set_by Queue n = n
set_by Reject n = 1

-- the settings of a level's queues
abbrev pub line_of : Config → Config
line_of c = record c { queues = set_by c.limit_response c.queues; queue_length_limit = set_by c.limit_response c.queue_length_limit; hand_size = set_by c.limit_response c.hand_size }

-- the limit is of 1 to 10,000 seats
abbrev pub IsLimit : Config → Type 0
IsLimit config = (1 ≤ config.limit) × (config.limit ≤ max_limit)

-- the queues of these settings are dealt and made. A level without queues has none
abbrev pub HasQueues : Response → Config → ℕ → Type 0
HasQueues Queue c slots = IsDealable c.queues c.hand_size × IsQueueShape c.queues c.queue_length_limit slots
HasQueues Reject c slots = Unit {0}

-- a level is opened for these settings and this many slots: nothing of them is out of range
abbrev pub CanOpen : Config → ℕ → Type 0
CanOpen config slots = IsLimit config × (slots ≤ max_requests) × HasQueues config.limit_response config slots

-- the gate's fault that is told as such: its first, unless that is out of memory
abbrev pub IsGateFault : Config → ℕ → GateFault → Type 0
IsGateFault config slots gate.BadLimit = (config.limit < 1) ⊎ (max_limit < config.limit)
IsGateFault config slots (gate.BadWidth request) = ⊥
IsGateFault config slots gate.TooMany = IsLimit config × (max_requests < slots)
IsGateFault config slots gate.NoMemory = ⊥

-- the fault of the queues that is told as such: the dealer's, then the queues'. A level without queues has none
abbrev pub IsQueueFault : Response → Config → ℕ → BookFault → Type 0
IsQueueFault Queue c slots (book.Dealer fault) = fault_of c.queues c.hand_size ≡ Some fault
IsQueueFault Queue c slots (book.Queues fault) = IsDealable c.queues c.hand_size × (fault ≡ BadShape) × (¬ IsQueueShape c.queues c.queue_length_limit slots)
IsQueueFault Queue c slots book.NoMemory = ⊥
IsQueueFault Reject c slots fault = ⊥

-- the first fault of an opening: the gate's, then that of the queues; memory may be refused at any time
abbrev pub IsOpenFault : Config → ℕ → OpenFault → Type 0
IsOpenFault config slots (faults.Gate fault) = IsGateFault config slots fault
IsOpenFault config slots (faults.Level fault) = IsLimit config × (slots ≤ max_requests) × IsQueueFault config.limit_response config slots fault
IsOpenFault config slots faults.NoMemory = Unit {0}

-- nothing happened by any history that the book is of
abbrev pub IsBlank : LifeBookView → Type 0
IsBlank b = (v : LifeView) → IsLifeKept v b → v.history ≡ []

-- the gate has this limit and response, this many slots and one Station, and no Pass made a step, nor the Station
pub record IsNewOwner (config : Config) (slots : ℕ) (settling : Settling) (o : OwnerView) : Type 0 where
  pub limit : o.gate.shape.limit ≡ config.limit
  pub response : o.gate.shape.response ≡ config.limit_response
  pub slots_are : o.gate.shape.slots ≡ slots
  pub desk : desk_gate o.book.desk ≡ o.gate
  pub one_station : o.gate.shape.stations ≡ 1
  pub new_station : All (λ (t : StationToken). t.station.knows.trace ≡ []) o.stations
  pub queue_limit : o.book.queues.queues.length_limit ≡ (line_of config).queue_length_limit
  pub fresh : All (λ (t : PassToken). t.pass.state ≡ Fresh) o.passes
  -- each Pass has the number of its slot, and all numbers are there for the requests that come
  pub numbered : (i : ℕ) (t : PassToken) → slice_get o.passes i ≡ Some t → t.pass.number ≡ i
  pub numbers : length o.gate.shape.widths ≡ max_numbers
  -- each number that comes says its width
  pub widths : o.gate.shape.widths ≡ spread (replicate slots 1) max_numbers
  pub blank : IsBlank o.book
  pub few : slots ≤ max_requests
  pub all_passes : length o.passes ≡ slots
  pub all_stations : length o.stations ≡ 1
  -- the newest events are kept, two for each slot
  pub room : o.book.notes.capacity ≡ 2 * slots
  -- where it is settled, it is kept for each slot what a queue is charged for its request
  pub places : length o.book.queues.running ≡ places_of settling slots

-- a level of this config with this many slots, all of them free, to which nothing happened yet
pub record IsOpened (config : Config) (slots : ℕ) (settling : Settling) (l : LocalView) : Type 0 where
  pub owner : IsNewOwner config slots settling l.owner
  pub count : length l.places ≡ slots
  pub sizes : l.sizes ≡ record { deck = (line_of config).queues; hand = (line_of config).hand_size }
  pub free : All (λ (p : Place). p ≡ Free) l.places

-- the book has the level's queues
pub record HasQueuesOf (k : LifeId) (b : LifeBookView) : Type 0 where
  pub queues : queue_count b.queues.queues ≡ k.sizes.deck
  pub limit : b.queues.queues.length_limit ≡ k.queue_limit
  pub hand : b.queues.hand ≡ k.sizes.hand
  pub settles : settles_in b.queues ≡ k.settles
