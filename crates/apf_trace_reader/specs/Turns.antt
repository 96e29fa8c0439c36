-- What one turn of a reader does, and what a reader's fields keep.
use Rattle.std.specs.Prelude.{◌≡◌, ◌≢◌, ℕ, ◌<◌, ◌≤◌, Bool, is_some, List, [], ◌∷◌, ◌++◌, length, true, false, Option, Some, None, Result, Ok, Err, ◌⊎◌}
use Rattle.std.specs.List.{AllByRecursion}
use Rattle.std.specs.Option.{option_to_list}
use Rattle.std.specs.Io.KnownBytes.{Consumes, IsAtEnd}
use Rattle.apf_lines.specs.Lines.{HasNoLf}
use Rattle.apf_times.specs.declared.window.Arrival.{Arrival}
use Rattle.apf_times.specs.declared.window.Place.{Place}
use Rattle.apf_times.specs.Windows.{IsPushed, WindowView, is_late}
use Rattle.apf_traces.specs.TraceValue.{entry, IsNamed, IsRequestInRange}
use Rattle.apf_traces.specs.TraceFile.{Line, judged_within, max_bytes}
use Rattle.apf_traces.specs.declared.fault.TraceFault.{TraceFault}
use Rattle.apf_traces.specs.declared.fault.TraceFault.TheVariants.{NoMemory, TooLate}
use Rattle.apf_traces.specs.declared.request.TraceRequest.{TraceRequest}
use Rattle.apf_trace_reader.specs.declared.fault.ReadFault.{ReadFault}
use Rattle.apf_trace_reader.specs.declared.stage.Stage.{Stage}
use Rattle.apf_trace_reader.specs.declared.stage.Stage.TheVariants.{Failed}
use Rattle.apf_trace_reader.specs.Timely.{most_lines, place_of}
use Rattle.apf_trace_reader.specs.Reading.{Answers, HasRead, Stops}
use Rattle.apf_trace_reader.specs.Views.{ReaderView}

-- a request with its place
abbrev pub placed : ℕ → TraceRequest → Arrival TraceRequest
placed number request = record { place = place_of number (entry request); item = request }

-- a request that is held: none was handed out that it is before
pub record IsHeld (last : Option Place) (x : Arrival TraceRequest) : Type 0 where
  pub ranges : IsRequestInRange x.item
  pub named : IsNamed x.item
  pub time : x.place.arrives_at ≡ x.item.arrives_at
  pub forward : is_late x.place last ≡ false

-- what is true of the fields of a reader
pub record IsReader (longest number : ℕ) (window : WindowView TraceRequest) : Type 0 where
  pub most : longest ≡ max_bytes
  pub few : number ≤ most_lines
  pub held : AllByRecursion (IsHeld window.last) window.held

-- the line of this number is a request, which was not late and was put into the window
pub record IsTaken (number : ℕ) (line : Line) (old : WindowView TraceRequest) (out : Option (Arrival TraceRequest)) (new : WindowView TraceRequest) (has_cost : Bool) : Type 0 where
  pub request : TraceRequest
  pub judged : judged_within most_lines number line ≡ Ok (entry request)
  pub ranges : IsRequestInRange request
  pub named : IsNamed request
  pub few : number ≤ most_lines
  pub timely : is_late (place_of number (entry request)) old.last ≡ false
  pub pushed : IsPushed (placed number request) old out new
  pub size : new.size ≡ old.size
  -- whether it says what the request is charged
  pub says : has_cost ≡ is_some request.cost

-- the request of a line comes too late
pub record IsLate (number : ℕ) (line : Line) (old : WindowView TraceRequest) : Type 0 where
  pub request : TraceRequest
  pub judged : judged_within most_lines number line ≡ Ok (entry request)
  pub late : is_late (place_of number (entry request)) old.last ≡ true

-- the line of this number has this fault, or comes too late; or memory was refused. The window holds what it held
pub record IsNotTaken (number : ℕ) (line : Line) (old : WindowView TraceRequest) (fault : TraceFault) (new : WindowView TraceRequest) : Type 0 where
  pub is : fault ≢ NoMemory → (judged_within most_lines number line ≡ Err fault) ⊎ (IsLate number line old × (fault ≡ TooLate number))
  pub held : new.held ≡ old.held
  pub last : new.last ≡ old.last
  pub size : new.size ≡ old.size

-- the input gave these bytes; a request was handed out, or none yet
abbrev pub Goes : List ℕ → List (Arrival TraceRequest) → Option (List ℕ) → Result (Option (Arrival TraceRequest)) ReadFault → ReaderView → Type 0
Goes bytes told left (Ok out) v = HasRead bytes (told ++ option_to_list out) left v
Goes bytes told left (Err fault) v = Stops bytes told left fault v

-- whatever the input gave and was handed out before, this was answered, and nothing was read
abbrev pub GoesOn : ReaderView → Result (Option (Arrival TraceRequest)) ReadFault → ReaderView → Type 0
GoesOn old result v = (bytes : List ℕ) (told : List (Arrival TraceRequest)) (left : Option (List ℕ)) → HasRead bytes told left old → Goes bytes told left result v

-- whatever the input gave and was handed out before, the input gave more bytes, and this was answered
abbrev pub GoesMore : Option (List ℕ) → Option (List ℕ) → ReaderView → Result (Option (Arrival TraceRequest)) ReadFault → ReaderView → Type 0
GoesMore was left old result v = (bytes : List ℕ) (told : List (Arrival TraceRequest)) → HasRead bytes told was old
    → (more : List ℕ) × Consumes was left more × Goes (bytes ++ more) told left result v

-- the same, where no LF is among the bytes that were not yet taken
abbrev pub FillsMore : Option (List ℕ) → Option (List ℕ) → ReaderView → Result (Option (Arrival TraceRequest)) ReadFault → ReaderView → Type 0
FillsMore was left old result v = (bytes : List ℕ) (told : List (Arrival TraceRequest)) → (h : HasRead bytes told was old) → HasNoLf h.rest
    → (more : List ℕ) × Consumes was left more × Goes (bytes ++ more) told left result v

-- the input is at its end, and no LF is among the bytes that were not yet taken: nothing was read, and this was answered
abbrev pub EndsAt : ReaderView → Result (Option (Arrival TraceRequest)) ReadFault → ReaderView → Type 0
EndsAt old result v = (bytes : List ℕ) (told : List (Arrival TraceRequest)) (left : Option (List ℕ)) → IsAtEnd left
    → (h : HasRead bytes told left old) → HasNoLf h.rest → Goes bytes told left result v

-- whatever the input gave and was handed out before, this was handed out at its end
abbrev pub Pops : ReaderView → Option (Arrival TraceRequest) → ReaderView → Type 0
Pops old out v = (bytes : List ℕ) (told : List (Arrival TraceRequest)) (left : Option (List ℕ)) → HasRead bytes told left old → Answers bytes told left (Ok out) v

-- where the reader stays as it was but for a fault that it found
abbrev pub IsStage : Stage → TraceFault → Stage → Type 0
IsStage old fault new = (fault ≢ NoMemory → new ≡ Failed fault) × (fault ≡ NoMemory → new ≡ old)
