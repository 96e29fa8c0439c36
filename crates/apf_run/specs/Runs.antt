-- What the workers of a run give back, and what a run tells.
use Rattle.std.specs.Prelude.{◌≡◌, ℕ, true, List, [], map, length, reverse, slice_get, All, Any, Some}
use Rattle.apf_words.specs.declared.decision.Decision.TheVariants.{Cancelled}
use Rattle.apf_model.specs.declared.response.Response.TheVariants.{Reject}
use Rattle.apf_model.specs.Outcome.{Agrees, stats_of}
use Rattle.apf_files.specs.declared.requests.Request.{Request}
use Rattle.apf_gate.specs.Tokens.{GateId, PassToken, StationToken, pass_gate}
use Rattle.apf_model.specs.declared.config.Config.{Config}
use Rattle.apf_model.specs.declared.config.Ask.{Ask}
use Rattle.apf_book.specs.LedgerView.{LedgerView, IsLogOf, NothingWaits}
use Rattle.apf_book.specs.LedgerKept.{AreStats}
use Rattle.apf_book.specs.Opening.{opening_ledger}
use Rattle.apf_book.specs.Laws.{IsMade}
use Rattle.apf_level.specs.declared.report.Report.{Report}
use Rattle.apf_level.specs.Reports.{AreSums}
use Rattle.apf_run.specs.Asks.{asks_of}
use Rattle.apf_run.specs.Plans.{IsNamed, SomeCloses, IsFaithful, closes_at}

-- the Passes and the Stations that came back
pub record Returned : Type 0 where
  pub dones : List PassToken
  pub stations : List StationToken

-- a Station saw the level closed
abbrev pub SeenClosed : List StationToken → Type 0
SeenClosed stations = Any (λ (s : StationToken). s.station.knows.saw_closed ≡ true) stations

-- they are of this gate, the Stations are faithful, and one saw the level closed if a request that came back closes it
pub record AreFinished (gate : GateId) (requests : List Request) (r : Returned) : Type 0 where
  pub own : All (λ (t : PassToken). pass_gate t ≡ gate) r.dones
  pub faithful : All (IsFaithful gate requests) r.stations
  pub closed : All (λ (t : PassToken). closes_at requests t.pass.number ≡ true → SeenClosed r.stations) r.dones

-- the log that a run tells, in a ledger of these settings
abbrev pub ledger_of : Config → List Request → Report → LedgerView
ledger_of config requests r = record (opening_ledger config (asks_of requests)) { history = reverse r.log.items }

-- one trace of the steps of a gate of these settings and requests, which is a schedule, explains the level word, and with queues it says the log, which is empty without them
pub record IsMadeFor (config : Config) (requests : List Request) (r : Report) : Type 0 where
  pub gate : GateId
  pub limit : gate.shape.limit ≡ config.limit
  pub response : gate.shape.response ≡ config.limit_response
  pub widths : gate.shape.widths ≡ map (λ (a : Ask). a.width) (asks_of requests)
  pub made : IsMade gate (reverse r.log.items) r.word [] []
  pub logs_nothing : config.limit_response ≡ Reject → reverse r.log.items ≡ []

-- what a run tells of these requests at a level of these settings
pub record HasRun (config : Config) (requests : List Request) (r : Report) : Type 0 where
  -- no seat is taken, and nobody is counted as waiting
  pub drained : (r.word.seats ≡ 0) × (r.word.waiters ≡ 0)
  -- the limit is that of the settings
  pub limit : r.word.limit ≡ config.limit
  -- the log is legal and fair, and nobody waits
  pub of_log : IsLogOf (ledger_of config requests r)
  pub nobody_waits : NothingWaits (ledger_of config requests r)
  -- the word and the log are what some gate of these settings made
  pub made : IsMadeFor config requests r
  -- log and decisions agree: each dispatched request is executed, each struck one cancelled, those with a Full event are those decided queue-full
  pub agrees : Agrees (reverse r.log.items) (slice_get r.decisions.items)
  -- each request is decided
  pub all_decided : length r.decisions.items ≡ length requests
  -- the counts are those of the decisions, and sum to the requests
  pub sums : AreSums r.counts (slice_get r.decisions.items) (length requests)
  -- the numbers are those of the log
  pub stats : AreStats r.stats (stats_of config.queues (reverse r.log.items))
  -- each cancelled request is named by some request
  pub cancelled_is_named : (j : ℕ) → slice_get r.decisions.items j ≡ Some Cancelled → IsNamed requests j
  -- the level is closed exactly if some request closes it
  pub closed_is_said : r.word.closed ≡ true → SomeCloses requests
  pub said_is_closed : SomeCloses requests → r.word.closed ≡ true
