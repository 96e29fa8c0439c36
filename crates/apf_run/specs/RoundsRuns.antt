-- What the workers of a run in rounds give back, and what such a run tells.
use Rattle.std.specs.Prelude.{◌≡◌, ◌≢◌, ℕ, ◌*◌, ◌<◌, ◌≤◌, true, List, length, slice_get, All, Any, Some, None}
use Rattle.apf_words.specs.declared.decision.Decision.TheVariants.{Cancelled}
use Rattle.apf_model.specs.declared.config.Config.{Config}
use Rattle.apf_files.specs.declared.requests.Request.{Request}
use Rattle.apf_gate.specs.Counted.{total}
use Rattle.apf_gate.specs.Records.{told_of}
use Rattle.apf_gate.specs.Slots.{slot_of, round_of}
use Rattle.apf_gate.specs.Traces.{world_of, asked_in}
use Rattle.apf_gate.specs.Tokens.{GateId, PassToken, StationToken, pass_gate}
use Rattle.apf_line.specs.Levels.{LifeId}
use Rattle.apf_line.specs.declared.report.Report.{Report}
use Rattle.apf_line.specs.Reports.{Ended}
use Rattle.apf_run.specs.Plans.{SomeCloses, closes_at}
use Rattle.apf_run.specs.Runs.{Returned, SeenClosed}
use Rattle.apf_run.specs.RoundsPlans.{number_in, ask_it_asks, IsNamedIn, IsFaithful}
use Rattle.apf_run.specs.RoundsWorkers.{IsInRound, HasAsked}

-- a Station was told the decision of a request
abbrev pub SomeTold : List StationToken → ℕ → Type 0
SomeTold stations r = Any (λ (s : StationToken). told_of s.station.knows.told r ≢ None) stations

-- one of the Stations saw the level closed, if a request of the slot came and closes it, and of each that came one was told its decision
pub record IsKnownTo (requests : List Request) (stations : List StationToken) (t : PassToken) : Type 0 where
  pub closed : 1 ≤ round_of t.pass.number → closes_at requests (slot_of t.pass.number) ≡ true → SeenClosed stations
  pub told : (round : ℕ) → 1 ≤ round → round ≤ round_of t.pass.number → SomeTold stations (number_in requests (slot_of t.pass.number) round)

-- they are of this gate, each slot went through all rounds, the Stations are faithful, and know the slots
pub record AreFinished (gate : GateId) (requests : List Request) (rounds : ℕ) (r : Returned) : Type 0 where
  pub own : All (λ (t : PassToken). pass_gate t ≡ gate) r.dones
  pub through : All (IsInRound rounds) r.dones
  pub faithful : All (IsFaithful gate requests rounds) r.stations
  pub known : All (IsKnownTo requests r.stations) r.dones
  pub asked : All (HasAsked requests) r.dones

-- a level of these settings, with this many slots
pub record IsLevelFor (config : Config) (count : ℕ) (k : LifeId) : Type 0 where
  pub limit : k.gate.shape.limit ≡ config.limit
  pub response : k.gate.shape.response ≡ config.limit_response
  pub slots : k.gate.shape.slots ≡ count
  pub sizes : k.sizes ≡ record { deck = config.queues; hand = config.hand_size }
  pub queue_limit : k.queue_limit ≡ config.queue_length_limit

-- what a run of these requests tells, this many rounds, at a level of these settings
pub record HasRunRounds (config : Config) (requests : List Request) (rounds : ℕ) (r : Report) : Type 0 where
  -- a level of these settings ended so, with a slot for each request: drained; by a history that is legal and fair, and in which nobody waits; and with the counts of all requests that were ever decided
  pub level : LifeId
  pub of_settings : IsLevelFor config (length requests) level
  pub slots : List PassToken
  pub stations : List StationToken
  pub ended : Ended level slots stations r
  -- for each slot as many requests came as there are rounds
  pub count : length slots ≡ length requests
  pub through : All (IsInRound rounds) slots
  -- each of them is decided, and the counts are of no fewer: the executed, the rejected and the cancelled sum to rounds times the requests at least
  pub each_decided : (slot round : ℕ) → slot < length requests → 1 ≤ round → round ≤ rounds → (world_of level.gate.shape ended.ended_as.words_agree.trace).decision (number_in requests slot round) ≢ None
  pub sums : rounds * length requests ≤ total r.words.counts
  -- each of them asked for what its slot's line says, by the steps of all tokens: so the hand of queues and the cost that the level's history has of it are those of its line
  pub asked : (slot round : ℕ) → slot < length requests → 1 ≤ round → round ≤ rounds → asked_in ended.ended_as.words_agree.trace (number_in requests slot round) ≡ Some (ask_it_asks (slice_get requests slot))
  -- the limit is that of the settings
  pub limit : r.words.level.limit ≡ config.limit
  -- each cancelled request came in one of the rounds, and some request names its slot
  pub cancelled_is_named : (i : ℕ) → i < length level.gate.shape.widths → (world_of level.gate.shape ended.ended_as.words_agree.trace).decision i ≡ Some Cancelled → IsNamedIn requests rounds i
  -- the level is closed exactly if some request closes it
  pub closed_is_said : r.words.level.closed ≡ true → SomeCloses requests
  pub said_is_closed : SomeCloses requests → r.words.level.closed ≡ true
