-- Why a trace is not simulated.
use Rattle.std.specs.Prelude.{◌≡◌, ◌≢◌, ℕ, ◌≤◌, List, []}
use Rattle.apf_calendar.specs.Guests.{IsFree, NothingBy}
use Rattle.apf_line.specs.declared.report.Report.{Report}
use Rattle.apf_local.specs.Levels.{EndsFrom}
use Rattle.apf_local.specs.declared.fault.OpenFault.{OpenFault}
use Rattle.apf_local.specs.declared.fault.OpenFault.TheVariants.{Gate, Level, NoMemory as OpensWithoutRoom}
use Rattle.apf_rows.specs.Tables.{IsTable}
use Rattle.apf_rows.specs.declared.table.Table.{Table}
use Rattle.apf_stream.specs.Runs.{HasRun}
use Rattle.apf_stream.specs.States.{State}
use Rattle.apf_stream.specs.declared.asked.Asked.{Asked}
use Rattle.apf_stream.specs.declared.deed.NewLimit.{NewLimit}
use Rattle.apf_stream.specs.declared.ended.Ended.{Ended}
use Rattle.apf_stream.specs.declared.fault.StreamFault.{StreamFault}
use Rattle.apf_stream.specs.declared.fault.StreamFault.TheVariants.{NoMemory as RunsWithoutRoom, TooFar as RunsTooFar, UsedUp}
use Rattle.apf_times.specs.Limits.{max_wait}
use Rattle.apf_times.specs.declared.window.Arrival.{Arrival}
use Rattle.apf_traces.specs.declared.request.TraceRequest.{TraceRequest}
use Rattle.apf_simulator.specs.Books.{AreOfBook}
use Rattle.apf_simulator.specs.Lanes.{GoesOn, IsLaneUnder, LaneView, asked_by}
use Rattle.apf_simulator.specs.declared.fault.SimulatorFault.{SimulatorFault}
use Rattle.apf_simulator.specs.declared.fault.SimulatorFault.TheVariants.{Crowded, NoMemory, Open, OtherBook, StillWaits, TooFar, TooMany}

-- what a stream's fault is told as
abbrev pub of_stream : StreamFault → SimulatorFault
of_stream RunsWithoutRoom = NoMemory
of_stream RunsTooFar = TooFar
of_stream UsedUp = TooMany

-- what a fault of an opening is told as
abbrev pub of_opening : OpenFault → SimulatorFault
of_opening (Gate fault) = Open (Gate fault)
of_opening (Level fault) = Open (Level fault)
of_opening OpensWithoutRoom = NoMemory

-- memory was refused, a request would finish too late, or there are too many to be counted
abbrev pub IsOfRun : SimulatorFault → Type 0
IsOfRun NoMemory = Unit {0}
IsOfRun TooFar = Unit {0}
IsOfRun TooMany = Unit {0}
IsOfRun _ = ⊥

-- all that was due until the request arrives was carried out, and then no slot is free
pub record IsCrowded (asked : Asked) (s : State) (before : List Ended) (line at : ℕ) : Type 0 where
  pub line_is : line ≡ asked.line
  pub at_is : at ≡ asked.times.arrives_at
  pub reached : State
  pub told : List Ended
  pub run : HasRun [] s before reached told
  pub over : NothingBy reached.slots at
  pub in_time : reached.slots.time ≤ at
  pub full : (i : ℕ) → IsFree reached.slots i → ⊥

-- why the request does not arrive
abbrev pub RefusesAsked : Asked → State → List Ended → SimulatorFault → Type 0
RefusesAsked asked s before (Crowded line at) = IsCrowded asked s before line at
RefusesAsked asked s before told = IsOfRun told

-- why the request of a line does not arrive on a lane
abbrev pub RefusesArrival : Arrival TraceRequest → LaneView → SimulatorFault → Type 0
RefusesArrival came v told = RefusesAsked (asked_by came) v.state [] told

-- nothing is due any more, and fewer were told than came
pub record IsStillWaiting (v : LaneView) : Type 0 where
  pub reached : LaneView
  pub goes : GoesOn [] v reached
  pub over : NothingBy reached.state.slots max_wait
  pub some : reached.rows.all.sums.requests ≢ reached.came

-- why a lane is not run to its end
abbrev pub RefusesEnd : LaneView → SimulatorFault → Type 0
RefusesEnd v StillWaits = IsStillWaiting v
RefusesEnd v told = IsOfRun told

-- the level ended, and its book has other numbers than the flows
pub record HasOtherBook (v : LaneView) : Type 0 where
  pub table : Table
  pub of_all : (under : List NewLimit) (opening : State) (came : List (Arrival TraceRequest)) (told : List Ended) → IsLaneUnder under opening came told v → IsTable came told table
  pub report : Report
  pub ended : EndsFrom v.state.level report
  pub other : AreOfBook table.all.sums report.words.counts → ⊥

-- why a lane is not closed
abbrev pub RefusesClose : LaneView → SimulatorFault → Type 0
RefusesClose v OtherBook = HasOtherBook v
RefusesClose v NoMemory = Unit {0}
RefusesClose v _ = ⊥
