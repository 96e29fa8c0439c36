-- The lines of a log that were found.
use Rattle.std.specs.Prelude.{◌≡◌, ℕ, ◌<◌, ◌≤◌, List, [], ◌∷◌, ◌++◌, length, Bool, true, false, if◌then◌else◌, Option, Some, None, Result, Ok, Err}
use Rattle.std.specs.Io.KnownBytes.{Consumes, IsAtEnd}
use Rattle.apf_lines.specs.Lines.{AreUncut, HasNoLf, LinesView}
use Rattle.apf_traces.specs.TraceFile.{Line, lines_of}
use Rattle.apf_audit.specs.AuditLog.{max_line}
use Rattle.apf_cluster_text.specs.declared.log_lines.Found.{Found}
use Rattle.apf_cluster_text.specs.declared.log_lines.Found.TheVariants.{Held, TooLong}
use Rattle.apf_cluster_text.specs.LogViews.{LogView}

-- the line that was found last
abbrev pub held : LogView → Line
held v = record { bytes = if v.is_ended then v.lines.line else v.lines.kept; is_ended = v.is_ended }

-- these lines were found in these bytes: what stands behind them is not yet cut off, or nothing does
abbrev pub AreFound : (is_over : Bool) → List ℕ → List Line → LinesView → Type 0
AreFound false bytes found lines = (rest : List ℕ) × AreUncut rest lines × ((later : List ℕ) → lines_of (bytes ++ later) ≡ found ++ lines_of (rest ++ later))
AreFound true bytes found lines = lines_of bytes ≡ found

-- The input gave these bytes, and has this left; these lines were found.
pub record HasRead (bytes : List ℕ) (found : List Line) (left : Option (List ℕ)) (v : LogView) : Type 0 where
  pub lines : AreFound v.is_over bytes found v.lines
  pub number : v.number ≡ length found
  pub end : v.is_over ≡ true → IsAtEnd left

-- the line is held, or it is too long
abbrev pub IsFound : Found → Line → LogView → Type 0
IsFound Held line v = (line ≡ held v) × (length line.bytes ≤ max_line)
IsFound TooLong line v = max_line < length line.bytes

-- one line more was found
pub record Finds (bytes : List ℕ) (before : List Line) (left : Option (List ℕ)) (found : Found) (v : LogView) : Type 0 where
  pub line : Line
  pub is : IsFound found line v
  pub read : HasRead bytes (before ++ line ∷ []) left v

-- all lines were found
pub record AreAll (bytes : List ℕ) (found : List Line) (left : Option (List ℕ)) : Type 0 where
  pub lines : lines_of bytes ≡ found
  pub end : IsAtEnd left

-- the input gave these bytes; a line was found, or none yet
abbrev pub Goes : {E : Type 0} → List ℕ → List Line → Option (List ℕ) → Result (Option Found) E → LogView → Type 0
Goes bytes before left (Ok (Some found)) v = Finds bytes before left found v
Goes bytes before left (Ok None) v = HasRead bytes before left v
Goes bytes before left (Err error) v = HasRead bytes before left v

-- the input gave these bytes, and this was answered: the next line; or none, as all were found; or the input failed, and nothing is lost
abbrev pub Answers : {E : Type 0} → List ℕ → List Line → Option (List ℕ) → Result (Option Found) E → LogView → Type 0
Answers bytes before left (Ok (Some found)) v = Finds bytes before left found v
Answers bytes before left (Ok None) v = HasRead bytes before left v × AreAll bytes before left
Answers bytes before left (Err error) v = HasRead bytes before left v

-- whatever the input gave and was found before, the input gave more bytes, and this was answered
abbrev pub GoesMore : {E : Type 0} → Option (List ℕ) → Option (List ℕ) → LogView → Result (Option Found) E → LogView → Type 0
GoesMore was left old result v = (bytes : List ℕ) (before : List Line) → HasRead bytes before was old
    → (more : List ℕ) × Consumes was left more × Goes (bytes ++ more) before left result v

abbrev pub AnswersEach : {E : Type 0} → Option (List ℕ) → Option (List ℕ) → LogView → Result (Option Found) E → LogView → Type 0
AnswersEach was left old result v = (bytes : List ℕ) (before : List Line) → HasRead bytes before was old
    → (more : List ℕ) × Consumes was left more × Answers (bytes ++ more) before left result v

-- the input gave these bytes, and no whole line is among those that are not yet cut off
pub record IsBetween (bytes : List ℕ) (before : List Line) (v : LogView) : Type 0 where
  pub rest : List ℕ
  pub uncut : AreUncut rest v.lines
  pub lines : (later : List ℕ) → lines_of (bytes ++ later) ≡ before ++ lines_of (rest ++ later)
  pub whole : HasNoLf rest
  pub number : v.number ≡ length before

-- the same, where no whole line is there
abbrev pub FillsMore : {E : Type 0} → Option (List ℕ) → Option (List ℕ) → LogView → Result (Option Found) E → LogView → Type 0
FillsMore was left old result v = (bytes : List ℕ) (before : List Line) → IsBetween bytes before old
    → (more : List ℕ) × Consumes was left more × Goes (bytes ++ more) before left result v

-- the input is at its end: a last line was found, or all lines were
abbrev pub EndsWith : List ℕ → List Line → Option (List ℕ) → Option Found → LogView → Type 0
EndsWith bytes before left (Some found) v = Finds bytes before left found v
EndsWith bytes before left None v = HasRead bytes before left v

-- the same, where no whole line is there
abbrev pub EndsAt : LogView → Option Found → LogView → Type 0
EndsAt old result v = (bytes : List ℕ) (before : List Line) (left : Option (List ℕ)) → IsAtEnd left → IsBetween bytes before old
    → EndsWith bytes before left result v
