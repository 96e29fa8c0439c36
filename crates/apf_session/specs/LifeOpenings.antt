-- What a level for life is opened with, and why it is not opened.
use Rattle.std.specs.Prelude.{◌≡◌, ◌≢◌, ◌⊎◌, ◌≤◌, ◌<◌, ℕ}
use Rattle.apf_words.specs.Limits.{max_limit, max_requests, max_stations}
use Rattle.apf_gate.specs.declared.fault.GateFault.{GateFault}
use Rattle.apf_gate.specs.declared.fault.GateFault.TheVariants as gate
use Rattle.apf_gate.specs.Slots.{round_of}
use Rattle.apf_gate.specs.Tokens.{GateId, PassToken, pass_gate}
use Rattle.apf_model.specs.declared.config.Config.{Config}
use Rattle.apf_book.specs.declared.fault.BookFault.{BookFault}
use Rattle.apf_book.specs.declared.fault.BookFault.TheVariants as book
use Rattle.apf_line.specs.Levels.{LifeId}
use Rattle.apf_book.specs.declared.settling.Settling.{Settling}
use Rattle.apf_book.specs.declared.settling.Settling.TheVariants.{Never}
use Rattle.apf_level.specs.LifeCalls.{FaultBy, settles_by}
use Rattle.apf_session.specs.declared.fault.OpenFault.{OpenFault}
use Rattle.apf_session.specs.declared.fault.OpenFault.TheVariants as faults

-- the level of this gate, opened with these settings, where what requests take is settled so
abbrev pub level_settling : GateId → Config → Settling → LifeId
level_settling gate config settling = record { gate = gate; sizes = record { deck = config.queues; hand = config.hand_size }; queue_limit = config.queue_length_limit; settles = settles_by settling gate.shape.slots }

-- the same, where nothing is settled
abbrev pub level_of : GateId → Config → LifeId
level_of gate config = level_settling gate config Never

-- a slot of this gate, of which no request came
abbrev pub IsFirstOf : GateId → PassToken → Type 0
IsFirstOf gate t = (pass_gate t ≡ gate) × (round_of t.pass.number ≡ 0)

-- a gate is opened for these settings: nothing of them is out of range
pub record CanOpenGate (config : Config) (slots stations : ℕ) : Type 0 where
  pub some_limit : 1 ≤ config.limit
  pub small_limit : config.limit ≤ max_limit
  pub few_slots : slots ≤ max_requests
  pub few_stations : stations ≤ max_stations

-- the limit is of 1 to 10,000 seats
abbrev pub IsLimit : Config → Type 0
IsLimit config = (1 ≤ config.limit) × (config.limit ≤ max_limit)

-- the gate's fault that is told as such: its first, unless that is out of memory
abbrev pub IsGateFault : Config → ℕ → ℕ → GateFault → Type 0
IsGateFault config slots stations gate.BadLimit = (config.limit < 1) ⊎ (max_limit < config.limit)
IsGateFault config slots stations (gate.BadWidth request) = ⊥
IsGateFault config slots stations gate.TooMany = IsLimit config × ((max_requests < slots) ⊎ (max_stations < stations))
IsGateFault config slots stations gate.NoMemory = ⊥

-- the level's fault that is told as such: its first, unless that is out of memory, where the gate has none
abbrev pub IsLevelFault : Config → ℕ → ℕ → BookFault → Type 0
IsLevelFault config slots stations fault = (fault ≢ book.NoMemory) × CanOpenGate config slots stations × FaultBy config.limit_response config slots fault

-- the first fault of an opening: the gate's, then the level's; memory may be refused at any time
abbrev pub IsOpenFault : Config → ℕ → ℕ → OpenFault → Type 0
IsOpenFault config slots stations (faults.Gate fault) = IsGateFault config slots stations fault
IsOpenFault config slots stations (faults.Level fault) = IsLevelFault config slots stations fault
IsOpenFault config slots stations faults.NoMemory = Unit {0}
