-- What was read, and what was handed out.
use Rattle.std.specs.Prelude.{◌≡◌, ◌≢◌, ℕ, ◌+◌, ◌<◌, ◌≤◌, List, [], ◌∷◌, ◌++◌, length, map, All, count_by, Option, Some, None, Result, Ok, Err, IsOk, IsPermutation, ◌⊎◌}
use Rattle.std.specs.List.{list_any}
use Rattle.std.specs.Io.KnownBytes.{Consumes, IsAtEnd, Keeps}
use Rattle.apf_lines.specs.Lines.{AreUncut, LinesView}
use Rattle.apf_times.specs.declared.window.Arrival.{Arrival}
use Rattle.apf_times.specs.WindowRuns.{AllPushed, AreInPlace, Call, HaveOwnLines, IsWindowRun, all_came, all_out}
use Rattle.apf_traces.specs.TraceFile.{Line, lines_of}
use Rattle.apf_audit.specs.AuditEvent.{Event, event, IsTakenInRange}
use Rattle.apf_audit.specs.AuditLog.{is_cut_line, is_nameless_line}
use Rattle.apf_audit.specs.Estimates.{AreEstimates}
use Rattle.apf_audit.specs.declared.choice.Choice.{Choice}
use Rattle.apf_audit.specs.declared.event.Taken.{Taken}
use Rattle.apf_audit.specs.declared.fault.AuditFault.{AuditFault}
use Rattle.apf_audit.specs.declared.fault.AuditFault.TheVariants.{NoMemory}
use Rattle.apf_audit_reader.specs.declared.fault.ReadFault.{ReadFault}
use Rattle.apf_audit_reader.specs.declared.fault.ReadFault.TheVariants.{Log, CannotRead}
use Rattle.apf_audit_reader.specs.declared.stage.Stage.{Stage}
use Rattle.apf_audit_reader.specs.declared.stage.Stage.TheVariants.{Reading, Ended, Failed}
use Rattle.apf_audit_reader.specs.Log.{handed_from, read_from, requests_of}
use Rattle.apf_audit_reader.specs.Places.{placed}
use Rattle.apf_audit_reader.specs.Views.{ReaderView}

-- the requests of what a window handed out
abbrev pub events_out : List (Arrival Taken) → List Event
events_out xs = map (λ x. event x.item) xs

-- These lines were taken, and these requests were handed out. No line had a fault.
pub record HasTaken (choice : Choice) (lines : List Line) (told : List Event) (v : ReaderView) : Type 0 where
  -- the chosen requests of the lines, each put into the window
  pub taken : List Taken
  pub judged : (later : List Line) → read_from choice v.window.size [] 1 (lines ++ later) ≡ read_from choice v.window.size (map event taken) (v.number + 1) later
  pub ranges : All IsTakenInRange taken
  pub few : length taken ≤ v.number
  pub below : All (λ t. t.line ≤ v.number) taken
  pub own : HaveOwnLines (map placed taken)
  pub calls : List (Call Taken)
  pub run : IsWindowRun v.window.size calls v.window
  pub came : all_came calls ≡ map placed taken
  pub out : told ≡ handed_from v.window.size (map event taken) 0 (events_out (all_out calls))
  pub known : AreEstimates (map event taken) v.estimates
  -- until the input is at its end, as many as the window's size were read ahead of what was handed out
  pub ahead : v.stage ≢ Ended → 0 < length told → v.window.size + length told ≤ length taken
  -- what was left out
  pub number : v.number ≡ length lines
  pub unnamed : v.unnamed ≡ count_by (λ line. is_nameless_line line.bytes) lines
  pub is_cut : v.is_cut ≡ list_any is_cut_line lines
  -- the window hands out what it holds once the input is at its end, and not before
  pub pushed : v.stage ≢ Ended → AllPushed calls

-- these lines were taken of these bytes: what stands behind them is not yet cut off, or nothing does
abbrev pub AreCut : Stage → List ℕ → List Line → LinesView → Type 0
AreCut Reading bytes lines view = (rest : List ℕ) × AreUncut rest view × ((later : List ℕ) → lines_of (bytes ++ later) ≡ lines ++ lines_of (rest ++ later))
AreCut Ended bytes lines view = lines_of bytes ≡ lines
AreCut (Failed fault) bytes lines view = ⊥

-- The input gave these bytes, and has this left; these requests were handed out.
pub record HasRead (choice : Choice) (bytes : List ℕ) (told : List Event) (left : Option (List ℕ)) (v : ReaderView) : Type 0 where
  pub lines : List Line
  pub cut : AreCut v.stage bytes lines v.lines
  pub has_taken : HasTaken choice lines told v
  pub end : v.stage ≡ Ended → IsAtEnd left

-- These were handed out, and are all chosen requests of these bytes, in their one order, each with its run.
pub record AreAll (choice : Choice) (size : ℕ) (bytes : List ℕ) (told : List Event) : Type 0 where
  pub taken : List Taken
  pub are : requests_of choice size bytes ≡ Ok (map event taken)
  pub ranges : All IsTakenInRange taken
  pub ordered : List (Arrival Taken)
  pub same : IsPermutation (map placed taken) ordered
  pub order : AreInPlace ordered
  pub one : (others : List (Arrival Taken)) → AreInPlace others → IsPermutation (map placed taken) others → ordered ≡ others
  pub out : told ≡ handed_from size (map event taken) 0 (events_out ordered)

-- the fault is the first of these bytes, whatever comes behind them, or the input is at its end
pub record IsFirstFault (choice : Choice) (size : ℕ) (bytes : List ℕ) (left : Option (List ℕ)) (fault : AuditFault) : Type 0 where
  pub first : requests_of choice size bytes ≡ Err fault
  pub stays : ((later : List ℕ) → requests_of choice size (bytes ++ later) ≡ Err fault) ⊎ IsAtEnd left

-- the input gave these bytes: its first fault was found, or memory was refused, and this is told from now on
pub record IsRefused (choice : Choice) (bytes : List ℕ) (left : Option (List ℕ)) (fault : AuditFault) (v : ReaderView) : Type 0 where
  pub first : fault ≢ NoMemory → IsFirstFault choice v.window.size bytes left fault
  pub stage : v.stage ≡ Failed fault

-- no request was answered: the first fault was found, memory was refused, or the input failed, and then nothing is lost
abbrev pub Stops : Choice → List ℕ → List Event → Option (List ℕ) → ReadFault → ReaderView → Type 0
Stops choice bytes told left (Log fault) v = IsRefused choice bytes left fault v
Stops choice bytes told left (CannotRead error) v = HasRead choice bytes told left v

-- the input gave these bytes, and this was answered: the next request; or none, as all were handed out
abbrev pub Answers : Choice → List ℕ → List Event → Option (List ℕ) → Result (Option Taken) ReadFault → ReaderView → Type 0
Answers choice bytes told left (Ok (Some x)) v = HasRead choice bytes (told ++ event x ∷ []) left v
Answers choice bytes told left (Ok None) v = HasRead choice bytes told left v × AreAll choice v.window.size bytes told × IsAtEnd left
Answers choice bytes told left (Err fault) v = Stops choice bytes told left fault v

-- whatever the input gave and was handed out before, the input gave more bytes, and this was answered
abbrev pub AnswersEach : Choice → Option (List ℕ) → Option (List ℕ) → ReaderView → Result (Option Taken) ReadFault → ReaderView → Type 0
AnswersEach choice was left old result v = (bytes : List ℕ) (told : List Event) → HasRead choice bytes told was old
    → (more : List ℕ) × Consumes was left more × Answers choice (bytes ++ more) told left result v

-- what a call answers
pub record AnswersMore (choice : Choice) (was left : Option (List ℕ)) (old : ReaderView) (result : Result (Option Taken) ReadFault) (v : ReaderView) : Type 0 where
  pub of_each : AnswersEach choice was left old result v
  -- a fault is told again, and nothing is read
  pub again : (fault : AuditFault) → old.stage ≡ Failed fault → (result ≡ Err (Log fault)) × (v ≡ old) × Keeps was left
  -- at the end of the input nothing can fail
  pub ends : old.stage ≡ Ended → IsOk result
