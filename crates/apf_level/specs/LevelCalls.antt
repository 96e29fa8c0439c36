-- What the calls of a Level ask and answer, where more than one call does.
use Rattle.std.specs.Prelude.{◌≡◌, List, [], length, map, All, Result, IfErr, OnOk}
use Rattle.apf_history.specs.declared.events.Event.{Event}
use Rattle.apf_model.specs.declared.config.Config.{Config}
use Rattle.apf_model.specs.declared.config.Ask.{Ask}
use Rattle.apf_gate.specs.Records.{new_desk}
use Rattle.apf_gate.specs.Tokens.{GateId, PassToken, DeskToken, StationToken, pass_gate, station_gate}
use Rattle.apf_gate.specs.Ends.{WordsView}
use Rattle.apf_book.specs.declared.fault.BookFault.{BookFault}
use Rattle.apf_book.specs.LedgerView.{LedgerView}
use Rattle.apf_book.specs.Laws.{decision_in}
use Rattle.atomic_table.specs.Seated.{TableId}
use Rattle.apf_stats.specs.Numbers.{BoardView, PassView}
use Rattle.apf_level.specs.declared.answers.Begin.{Begin}
use Rattle.apf_level.specs.Levels.{LevelId, LevelView}
use Rattle.apf_level.specs.Opening.{FaultBy, SettledBy}
use Rattle.apf_line.specs.Tokens.{IsOf}
use Rattle.apf_level.specs.Admission.{begun_pass, IsBegunTold, EnteredNow}
use Rattle.apf_level.specs.Reports.{Ended}

-- the gate is the level's, a batch, as it was opened for these settings and these widths, with its Desk; and the level's ledger begins so
pub record IsGateFor (k : LevelId) (config : Config) (asks : List Ask) (ledger : LedgerView) (gate : GateId) (given : DeskToken) : Type 0 where
  pub own : gate ≡ k.gate
  pub opening : k.opening ≡ ledger
  pub desk : given ≡ record { table = gate.table; desk = new_desk gate.shape }
  pub batch : length gate.shape.widths ≡ gate.shape.slots
  pub limit : gate.shape.limit ≡ config.limit
  pub widths : map (λ (a : Ask). a.width) asks ≡ gate.shape.widths
  pub response : gate.shape.response ≡ config.limit_response

-- both ends of the statistics and the reader's pass are of the level's cell, which nobody wrote or read yet
pub record AreEndsOf (k : LevelId) (writer : BoardView) (read : TableId) (pass : PassView) : Type 0 where
  pub board : writer.cell ≡ k.cell
  pub window : read ≡ k.cell
  pub reader : pass.cell ≡ k.cell
  pub nothing_published : writer.trace ≡ []
  pub nothing_read : pass.trace ≡ []

-- the level is of this gate; its Passes and Stations are those that were given; and the reader of statistics is of its cell and read nothing
pub record IsOpened {P S : Type 0} (own : GateId) (given : P) (handed : S) (level : LevelView) (all : P) (each : S) (reader : PassView) : Type 0 where
  pub gate : level.gate ≡ own
  pub passes : all ≡ given
  pub stations : each ≡ handed
  pub stats : (reader.cell ≡ level.cell) × (reader.trace ≡ [])

-- an opening is refused by the first fault of the settings, or by want of memory
pub record IsJudged {A : Type 0} (config : Config) (asks : List Ask) (made : Result A BookFault) : Type 0 where
  pub settings : OnOk made (SettledBy config.limit_response config asks)
  pub fault : IfErr made (FaultBy config.limit_response config asks)

-- what an arrival leaves and answers: the Pass of the same request, which was told what is answered, and has whether its request entered
pub record AfterBegin (token : PassToken) (answer : Begin) : Type 0 where
  pub same : IsOf token (begun_pass answer)
  pub told : IsBegunTold answer
  pub entered : EnteredNow token.pass answer

-- the tokens are of the level, and as many as it has requests and Stations
pub record AreAllOf (k : LevelId) (passes : List PassToken) (stations : List StationToken) : Type 0 where
  pub own_passes : All (λ (t : PassToken). pass_gate t ≡ k.gate) passes
  pub own_stations : All (λ (t : StationToken). station_gate t ≡ k.gate) stations
  pub all_passes : length passes ≡ length k.gate.shape.widths
  pub all_stations : length stations ≡ k.gate.shape.stations

-- the words and the log of a level that ended, with a decision for each request
pub record Finishes (k : LevelId) (words : WordsView) (h : List Event) (passes : List PassToken) (stations : List StationToken) : Type 0 where
  pub ended : Ended k words.level (decision_in words) h passes stations
  pub count : length words.decisions ≡ length k.gate.shape.widths
