-- A level of a batch, all of whose requests are known beforehand.
use Rattle.std.specs.Prelude.{◌≡◌, ◌⊎◌, ◌≤◌, ◌<◌, ℕ, List, length, slice_get, Some}
use Rattle.apf_words.specs.Limits.{max_limit, max_requests}
use Rattle.apf_model.specs.declared.config.Config.{Config}
use Rattle.apf_gate.specs.declared.fault.GateFault.{GateFault}
use Rattle.apf_gate.specs.declared.fault.GateFault.TheVariants as gate
use Rattle.apf_gate.specs.Gauges.{max_numbers}
use Rattle.apf_gate.specs.Opens.{IsWidth}
use Rattle.apf_gate.specs.Slots.{next_of}
use Rattle.apf_gate.specs.Tokens.{PassToken}
use Rattle.apf_book.specs.declared.settling.Settling.TheVariants.{Never}
use Rattle.apf_book.specs.Life.{LifeView}
use Rattle.apf_book.specs.LifeBook.{IsLifeKept, IsLived}
use Rattle.apf_local.specs.declared.answer.Ask.{Ask}
use Rattle.apf_local.specs.declared.answer.Place.{Place}
use Rattle.apf_local.specs.declared.answer.Place.TheVariants as places
use Rattle.apf_local.specs.declared.fault.OpenFault.{OpenFault}
use Rattle.apf_local.specs.declared.fault.OpenFault.TheVariants as faults
use Rattle.apf_local.specs.Levels.{LocalView, SameLocal, GoesOn}
use Rattle.apf_local.specs.Openings.{IsOpened, IsLimit, HasQueues, IsQueueFault}

-- each width is one of 1 to 20,000 seats
abbrev pub HaveWidths : List Ask → Type 0
HaveWidths asks = (i : ℕ) (a : Ask) → slice_get asks i ≡ Some a → IsWidth a.width

-- the first request whose width is another one
pub record IsFirstBad (asks : List Ask) (r : ℕ) : Type 0 where
  pub ask : Ask
  pub is : slice_get asks r ≡ Some ask
  pub bad : ¬ IsWidth ask.width
  pub first : (i : ℕ) (a : Ask) → i < r → slice_get asks i ≡ Some a → IsWidth a.width

-- this many slots, none of which was given yet
pub record AreFresh (l : LocalView) (slots : ℕ) : Type 0 where
  pub count : length l.places ≡ slots
  pub passes : length l.owner.passes ≡ slots
  pub few : slots ≤ max_requests
  pub numbers : length l.owner.gate.shape.widths ≡ max_numbers
  pub free : (i : ℕ) (p : Place) → slice_get l.places i ≡ Some p → p ≡ places.Free
  pub numbered : (i : ℕ) (t : PassToken) → slice_get l.owner.passes i ≡ Some t → t.pass.number ≡ i

-- the first n slots went on to their requests, which did not arrive yet, and the others are as they were
pub record BecomeFresh (old : LocalView) (asks : List Ask) (n : ℕ) (l : LocalView) : Type 0 where
  pub same : SameLocal old l
  pub operators : l.owner.stations ≡ old.owner.stations
  pub count : length l.places ≡ length old.places
  pub fresh : (i : ℕ) (a : Ask) → i < n → slice_get asks i ≡ Some a → slice_get l.places i ≡ Some (places.Fresh a)
  pub numbers : (i : ℕ) (a : Ask) (t : PassToken) → i < n → slice_get asks i ≡ Some a → slice_get l.owner.passes i ≡ Some t → t.pass.number ≡ next_of i a.width
  pub others : (i : ℕ) → n ≤ i → (slice_get l.places i ≡ slice_get old.places i) × (slice_get l.owner.passes i ≡ slice_get old.owner.passes i)
  pub history : (v : LifeView) → IsLifeKept v old.owner.book → GoesOn v l.owner.book

-- a level of this config with a slot for each of these requests, which are there and did not arrive yet. Nothing happened before
pub record IsBatch (config : Config) (asks : List Ask) (l : LocalView) : Type 0 where
  pub first : LocalView
  pub opened : IsOpened config (length asks) Never first
  pub lived : IsLived first.owner.book
  pub fresh : BecomeFresh first asks (length asks) l

-- nothing of the settings and the requests is out of range
abbrev pub CanOpenBatch : Config → List Ask → Type 0
CanOpenBatch config asks = IsLimit config × HaveWidths asks × (length asks ≤ max_requests) × HasQueues config.limit_response config (length asks)

-- the gate's fault that is told as such: its first, unless that is out of memory
abbrev pub IsBatchGateFault : Config → List Ask → GateFault → Type 0
IsBatchGateFault config asks gate.BadLimit = (config.limit < 1) ⊎ (max_limit < config.limit)
IsBatchGateFault config asks (gate.BadWidth r) = IsLimit config × IsFirstBad asks r
IsBatchGateFault config asks gate.TooMany = IsLimit config × HaveWidths asks × (max_requests < length asks)
IsBatchGateFault config asks gate.NoMemory = ⊥

-- the first fault of an opening: the gate's, then that of the queues; memory may be refused at any time
abbrev pub IsBatchFault : Config → List Ask → OpenFault → Type 0
IsBatchFault config asks (faults.Gate fault) = IsBatchGateFault config asks fault
IsBatchFault config asks (faults.Level fault) = IsLimit config × HaveWidths asks × (length asks ≤ max_requests) × IsQueueFault config.limit_response config (length asks) fault
IsBatchFault config asks faults.NoMemory = Unit {0}
