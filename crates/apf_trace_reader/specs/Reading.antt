-- What was read, and what was handed out.
use Rattle.std.specs.Prelude.{◌≡◌, ◌≢◌, ℕ, ◌+◌, ◌<◌, ◌≤◌, List, [], ◌∷◌, ◌++◌, length, map, Option, Some, None, is_some, Result, Ok, Err, IsOk, true, false, IsPermutation, ◌⊎◌}
use Rattle.std.specs.List.{list_any}
use Rattle.std.specs.Io.KnownBytes.{Consumes, IsAtEnd, Keeps}
use Rattle.apf_lines.specs.Lines.{AreLines, AreUncut, CutsLine, LinesView}
use Rattle.apf_times.specs.declared.window.Arrival.{Arrival}
use Rattle.apf_times.specs.declared.window.Place.{Place}
use Rattle.apf_times.specs.Windows.{is_late}
use Rattle.apf_times.specs.WindowRuns.{AllPushed, AreInPlace, Call, IsWindowRun, all_came, all_out}
use Rattle.apf_traces.specs.TraceValue.{entry, IsNamed, IsRequestInRange}
use Rattle.apf_traces.specs.TraceFile.{Line}
use Rattle.apf_traces.specs.declared.fault.TraceFault.{TraceFault}
use Rattle.apf_traces.specs.declared.fault.TraceFault.TheVariants.{NoMemory}
use Rattle.apf_traces.specs.declared.request.TraceRequest.{TraceRequest}
use Rattle.apf_trace_reader.specs.declared.fault.ReadFault.{ReadFault}
use Rattle.apf_trace_reader.specs.declared.fault.ReadFault.TheVariants.{Trace, CannotRead}
use Rattle.apf_trace_reader.specs.declared.stage.Stage.{Stage}
use Rattle.apf_trace_reader.specs.declared.stage.Stage.TheVariants.{Reading, Holding, Ended, Failed}
use Rattle.apf_trace_reader.specs.Timely.{place_of, requests_from, requests_of}
use Rattle.apf_trace_reader.specs.Views.{ReaderView}

-- a line that an LF ends
abbrev pub ended : List ℕ → Line
ended bytes = record { bytes = bytes; is_ended = true }

-- the requests of lines with their places, where the first line has this number
abbrev pub arrivals_from : ℕ → List TraceRequest → List (Arrival TraceRequest)
arrivals_from number [] = []
arrivals_from number (request ∷ requests) = record { place = place_of number (entry request); item = request } ∷ arrivals_from (number + 1) requests

-- these bytes were read and not yet taken: behind the line that is held, it among them, or all that are not yet cut off
abbrev pub AreUntaken : Stage → List ℕ → LinesView → Type 0
AreUntaken Reading rest lines = AreUncut rest lines
AreUntaken Holding rest lines = (length lines.line ≤ lines.longest) × CutsLine rest lines.line lines
AreUntaken Ended rest lines = rest ≡ []
AreUntaken (Failed fault) rest lines = ⊥

-- The input gave these bytes, and has this left; these requests were handed out. Each whole line in front was taken, and had no fault.
pub record HasRead (bytes : List ℕ) (told : List (Arrival TraceRequest)) (left : Option (List ℕ)) (v : ReaderView) : Type 0 where
  -- the lines that were taken, and the bytes behind them
  pub lines : List (List ℕ)
  pub rest : List ℕ
  pub are_lines : AreLines bytes lines rest
  pub untaken : AreUntaken v.stage rest v.lines
  pub number : v.number ≡ length lines
  -- their requests, each put into the window
  pub requests : List TraceRequest
  pub judged : requests_from v.window.size [] 1 (map ended lines) ≡ Ok (map entry requests)
  pub cost : v.has_cost ≡ list_any (λ r. is_some r.cost) requests
  pub calls : List (Call TraceRequest)
  pub run : IsWindowRun v.window.size calls v.window
  pub came : all_came calls ≡ arrivals_from 1 requests
  pub out : all_out calls ≡ told
  -- the window hands out what it holds once the input is at its end, and not before
  pub pushed : v.stage ≢ Ended → AllPushed calls
  pub end : v.stage ≡ Ended → IsAtEnd left

-- these were handed out, and are all requests of these bytes, in their one order
pub record AreAll (size : ℕ) (bytes : List ℕ) (told : List (Arrival TraceRequest)) : Type 0 where
  pub requests : List TraceRequest
  pub are : requests_of size bytes ≡ Ok (map entry requests)
  pub same : IsPermutation (arrivals_from 1 requests) told
  pub order : AreInPlace told
  pub one : (ordered : List (Arrival TraceRequest)) → AreInPlace ordered → IsPermutation (arrivals_from 1 requests) ordered → told ≡ ordered

-- the fault is the first of these bytes, whatever comes behind them, or the input is at its end
pub record IsFirstFault (size : ℕ) (bytes : List ℕ) (left : Option (List ℕ)) (fault : TraceFault) : Type 0 where
  pub first : requests_of size bytes ≡ Err fault
  pub stays : ((later : List ℕ) → requests_of size (bytes ++ later) ≡ Err fault) ⊎ IsAtEnd left

-- the input gave these bytes: its first fault was found, and is told from now on; or memory was refused for a line that was read, and nothing is lost
pub record IsRefused (bytes : List ℕ) (told : List (Arrival TraceRequest)) (left : Option (List ℕ)) (fault : TraceFault) (v : ReaderView) : Type 0 where
  pub first : fault ≢ NoMemory → IsFirstFault v.window.size bytes left fault × (v.stage ≡ Failed fault)
  pub kept : fault ≡ NoMemory → HasRead bytes told left v
  pub memory : fault ≡ NoMemory → 0 < length bytes

-- no request was answered: the first fault was found, memory was refused, or the input failed, and then nothing is lost
abbrev pub Stops : List ℕ → List (Arrival TraceRequest) → Option (List ℕ) → ReadFault → ReaderView → Type 0
Stops bytes told left (Trace fault) v = IsRefused bytes told left fault v
Stops bytes told left (CannotRead error) v = HasRead bytes told left v

-- the input gave these bytes, and this was answered: the next request; or none, as all were handed out
abbrev pub Answers : List ℕ → List (Arrival TraceRequest) → Option (List ℕ) → Result (Option (Arrival TraceRequest)) ReadFault → ReaderView → Type 0
Answers bytes told left (Ok (Some x)) v = HasRead bytes (told ++ x ∷ []) left v
Answers bytes told left (Ok None) v = HasRead bytes told left v × AreAll v.window.size bytes told × IsAtEnd left
Answers bytes told left (Err fault) v = Stops bytes told left fault v

-- whatever the input gave and was handed out before, the input gave more bytes, and this was answered
abbrev pub AnswersEach : Option (List ℕ) → Option (List ℕ) → ReaderView → Result (Option (Arrival TraceRequest)) ReadFault → ReaderView → Type 0
AnswersEach was left old result v = (bytes : List ℕ) (told : List (Arrival TraceRequest)) → HasRead bytes told was old
    → (more : List ℕ) × Consumes was left more × Answers (bytes ++ more) told left result v

-- what a call answers
pub record AnswersMore (was left : Option (List ℕ)) (old : ReaderView) (result : Result (Option (Arrival TraceRequest)) ReadFault) (v : ReaderView) : Type 0 where
  pub of_each : AnswersEach was left old result v
  -- a fault is told again, and nothing is read
  pub again : (fault : TraceFault) → old.stage ≡ Failed fault → (result ≡ Err (Trace fault)) × (v ≡ old) × Keeps was left
  -- at the end of the input nothing can fail
  pub ends : old.stage ≡ Ended → IsOk result

-- what is handed out is a request of a trace, not before what was handed out last
pub record IsNext (x : Arrival TraceRequest) (was now : Option Place) : Type 0 where
  pub ranges : IsRequestInRange x.item
  pub named : IsNamed x.item
  pub time : x.place.arrives_at ≡ x.item.arrives_at
  pub forward : is_late x.place was ≡ false
  pub last : now ≡ Some x.place

-- the place of what was handed out last, before and after this was answered
abbrev pub Follows : Option Place → Result (Option (Arrival TraceRequest)) ReadFault → Option Place → Type 0
Follows was (Ok (Some x)) now = IsNext x was now
Follows was (Ok None) now = now ≡ was
Follows was (Err fault) now = now ≡ was
