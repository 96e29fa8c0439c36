-- What one turn of a reader does, and what a reader's fields keep.
use Rattle.std.specs.Prelude.{◌≡◌, ◌≢◌, ℕ, ◌≤◌, List, [], ◌∷◌, ◌++◌, map, Bool, if◌then◌else◌, Option, Result, Ok, Err}
use Rattle.std.specs.Option.{option_to_list}
use Rattle.std.specs.Io.KnownBytes.{Consumes, IsAtEnd}
use Rattle.apf_lines.specs.Lines.{AreUncut, HasNoLf, LinesView}
use Rattle.apf_traces.specs.TraceFile.{Line, lines_of}
use Rattle.apf_audit.specs.AuditEvent.{Event, event}
use Rattle.apf_audit.specs.AuditLog.{max_line}
use Rattle.apf_audit.specs.declared.choice.Choice.{Choice}
use Rattle.apf_audit.specs.declared.event.Taken.{Taken}
use Rattle.apf_audit.specs.declared.fault.AuditFault.{AuditFault}
use Rattle.apf_audit.specs.declared.fault.AuditFault.TheVariants.{NoMemory}
use Rattle.apf_audit_reader.specs.declared.fault.ReadFault.{ReadFault}
use Rattle.apf_audit_reader.specs.declared.fault.ReadFault.TheVariants.{Log, CannotRead}
use Rattle.apf_audit_reader.specs.declared.stage.Stage.TheVariants.{Failed}
use Rattle.apf_audit_reader.specs.Log.{read_from}
use Rattle.apf_audit_reader.specs.Reading.{Answers, HasRead, HasTaken, Stops}
use Rattle.apf_audit_reader.specs.Views.{ReaderView}

-- what is true of the fields of a reader
pub record IsReader (longest number unnamed : ℕ) : Type 0 where
  pub most : longest ≡ max_line
  pub few : unnamed ≤ number

-- the line that was cut off last, or what stands behind the last LF
abbrev pub line_held : Bool → LinesView → List ℕ
line_held is_ended view = if is_ended then view.line else view.kept

-- a line was taken, or it has a fault, which is the first, whatever comes behind
abbrev pub Took : Choice → List Line → List Event → Line → Result (Option Taken) ReadFault → ReaderView → Type 0
Took choice lines told line (Ok first) v = HasTaken choice (lines ++ line ∷ []) (told ++ map event (option_to_list first)) v
Took choice lines told line (Err (Log fault)) v =
    (v.stage ≡ Failed fault) × (fault ≢ NoMemory → (later : List Line) → read_from choice v.window.size [] 1 (lines ++ line ∷ later) ≡ Err fault)
Took choice lines told line (Err (CannotRead error)) v = ⊥

-- whatever was taken and handed out before, this line was taken
abbrev pub Takes : Choice → Line → ReaderView → Result (Option Taken) ReadFault → ReaderView → Type 0
Takes choice line old result v = (lines : List Line) (told : List Event) → HasTaken choice lines told old → Took choice lines told line result v

-- the input gave these bytes; a request was handed out, or none yet
abbrev pub Goes : Choice → List ℕ → List Event → Option (List ℕ) → Result (Option Taken) ReadFault → ReaderView → Type 0
Goes choice bytes told left (Ok out) v = HasRead choice bytes (told ++ map event (option_to_list out)) left v
Goes choice bytes told left (Err fault) v = Stops choice bytes told left fault v

-- whatever the input gave and was handed out before, the input gave more bytes, and this was answered
abbrev pub GoesMore : Choice → Option (List ℕ) → Option (List ℕ) → ReaderView → Result (Option Taken) ReadFault → ReaderView → Type 0
GoesMore choice was left old result v = (bytes : List ℕ) (told : List Event) → HasRead choice bytes told was old
    → (more : List ℕ) × Consumes was left more × Goes choice (bytes ++ more) told left result v

-- the input gave these bytes, and no whole line is among those that were not yet taken
pub record IsBetween (choice : Choice) (bytes : List ℕ) (told : List Event) (v : ReaderView) : Type 0 where
  pub lines : List Line
  pub rest : List ℕ
  pub uncut : AreUncut rest v.lines
  pub cut : (later : List ℕ) → lines_of (bytes ++ later) ≡ lines ++ lines_of (rest ++ later)
  pub whole : HasNoLf rest
  pub has_taken : HasTaken choice lines told v

-- the same, where no whole line is there
abbrev pub FillsMore : Choice → Option (List ℕ) → Option (List ℕ) → ReaderView → Result (Option Taken) ReadFault → ReaderView → Type 0
FillsMore choice was left old result v = (bytes : List ℕ) (told : List Event) → IsBetween choice bytes told old
    → (more : List ℕ) × Consumes was left more × Goes choice (bytes ++ more) told left result v

-- the input is at its end, and no whole line is there: this was answered
abbrev pub EndsAt : Choice → ReaderView → Result (Option Taken) ReadFault → ReaderView → Type 0
EndsAt choice old result v = (bytes : List ℕ) (told : List Event) (left : Option (List ℕ)) → IsAtEnd left → IsBetween choice bytes told old → Goes choice bytes told left result v

-- whatever the input gave and was handed out before, this was handed out at its end
abbrev pub Pops : ReaderView → Option Taken → ReaderView → Type 0
Pops old out v = (choice : Choice) (bytes : List ℕ) (told : List Event) (left : Option (List ℕ)) → HasRead choice bytes told left old → Answers choice bytes told left (Ok out) v
