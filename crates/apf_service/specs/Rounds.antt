-- What the loops of `serve` did so far.
use Rattle.std.specs.Prelude.{◌≡◌, ℕ, ◌+◌, ◌<◌, List, [], ◌∷◌, ◌++◌, length, Bool, true, false, Option, Some}
use Rattle.std.specs.Io.KnownBytes.{Appends, Consumes, IsAtEnd}
use Rattle.apf_lines.specs.Lines.{lf, HasNoLf, AreLines, LinesView, AreUncut}
use Rattle.apf_model.specs.declared.config.Config.{Config}
use Rattle.apf_service.specs.declared.serving.ServeFault.{ServeFault}
use Rattle.apf_service.specs.declared.serving.ServeFault.TheVariants.{Open, CannotRead, CannotWrite, NoMemory}
use Rattle.apf_service.specs.Kept.{State, told}
use Rattle.apf_service.specs.Lines.{Serves, TellsBook}
use Rattle.apf_service.specs.Serving.{Setup, IsBegun, AnswersAll, WritesAll, IsRead, rest_text}

-- the first of these bytes are a line, which was taken as the line of this number, and its answer was written
pub record TakesFirst (name : List ℕ) (number : ℕ) (bytes : List ℕ) (old new : State) (held holds : Option (List ℕ)) (view : LinesView) : Type 0 where
  pub line : List ℕ
  pub later : List ℕ
  pub first : bytes ≡ line ++ (lf ∷ later)
  pub whole : HasNoLf line
  pub left : AreUncut later view
  pub serves : Serves name number line old (Appends held holds) new

-- whatever was read and not yet cut off, its first line was taken, and fewer bytes are kept
pub record TakesNext (name : List ℕ) (number : ℕ) (old new : State) (held holds : Option (List ℕ)) (before after : LinesView) : Type 0 where
  pub of_each : (bytes : List ℕ) → AreUncut bytes before → TakesFirst name number bytes old new held holds after
  pub shorter : length after.kept < length before.kept

-- no line was there, and nothing was done
pub record TakesNone (old new : State) (held holds : Option (List ℕ)) (before after : LinesView) : Type 0 where
  pub same : new ≡ old
  pub writes : holds ≡ held
  pub of_each : (bytes : List ℕ) → AreUncut bytes before → AreUncut bytes after
  pub none : HasNoLf after.kept

-- whether there was a line, and what was done with it
abbrev pub TakesOne : (name : List ℕ) → (number : ℕ) → State → State → (held holds : Option (List ℕ)) → (before after : LinesView) → Bool → Type 0
TakesOne name number old new held holds before after true = TakesNext name number old new held holds before after
TakesOne name number old new held holds before after false = TakesNone old new held holds before after

-- these bytes are lines, which were answered, the first by this number and the next one by that, and a rest that is not yet cut off
pub record AnswersLines (name : List ℕ) (number : ℕ) (bytes : List ℕ) (old new : State) (held holds : Option (List ℕ)) (view : LinesView) (next : ℕ) : Type 0 where
  pub lines : List (List ℕ)
  pub rest : List ℕ
  pub answers : List (Option (List ℕ))
  pub joined : AreLines bytes lines rest
  pub left : AreUncut rest view
  pub answered : AnswersAll name number lines answers old new
  pub written : WritesAll answers held holds
  pub next_is : next ≡ told (number + length lines)

-- so are all bytes that were read and not yet cut off, by any number that is told as the first one
abbrev pub AnswersEach : (name : List ℕ) → (first : ℕ) → State → State → (held holds : Option (List ℕ)) → (before after : LinesView) → (next : ℕ) → Type 0
AnswersEach name first old new held holds before after next =
    (number : ℕ) (bytes : List ℕ) → first ≡ told number → AreUncut bytes before → AnswersLines name number bytes old new held holds after next

-- these bytes came behind whatever was read and not yet cut off; none only at the end
pub record ReadsOn (was left : Option (List ℕ)) (is_on : Bool) (before after : LinesView) : Type 0 where
  pub more : List ℕ
  pub given : Consumes was left more
  pub end : is_on ≡ false → (more ≡ []) × IsAtEnd left
  pub of_each : (bytes : List ℕ) → AreUncut bytes before → AreUncut (bytes ++ more) after

-- the reader gave bytes, of which each line was answered
pub record AnswersInput (name : List ℕ) (old new : State) (was left held holds : Option (List ℕ)) (view : LinesView) (next : ℕ) : Type 0 where
  pub input : List ℕ
  pub given : Consumes was left input
  pub answers : AnswersLines name 1 input old new held holds view next

-- the reader gave all bytes, and no LF is behind the lines
pub record AnswersWhole (name : List ℕ) (old new : State) (was left held holds : Option (List ℕ)) (view : LinesView) (next : ℕ) : Type 0 where
  pub input : AnswersInput name old new was left held holds view next
  pub ended : IsAtEnd left
  pub whole : HasNoLf input.answers.rest

-- the reader gave some, and no LF is behind the lines
pub record AnswersPart (name : List ℕ) (old new : State) (was left held holds : Option (List ℕ)) (view : LinesView) : Type 0 where
  pub next : ℕ
  pub input : AnswersInput name old new was left held holds view next
  pub whole : HasNoLf input.answers.rest

-- what was answered before a fault of the reader or of the writer
abbrev pub AnswersUntil : (name : List ℕ) → State → State → (was left held holds : Option (List ℕ)) → LinesView → ServeFault → Type 0
AnswersUntil name old new was left held holds view CannotRead = AnswersPart name old new was left held holds view
AnswersUntil name old new was left held holds view CannotWrite = IsRead was left
AnswersUntil name old new was left held holds view NoMemory = ⊥
AnswersUntil name old new was left held holds view (Open fault) = ⊥

-- whatever was read and not yet cut off is told, if there are any bytes of it
abbrev pub TellsRestOf : ℕ → LinesView → (held holds : Option (List ℕ)) → Type 0
TellsRestOf number view held holds = (rest : List ℕ) → AreUncut rest view → Appends held holds (rest_text number rest)

-- a rest was told, and then the book
pub record TellsEndOf (number : ℕ) (old : State) (rest : List ℕ) (held holds : Option (List ℕ)) : Type 0 where
  pub last : State
  pub book : List ℕ
  pub tells : TellsBook old (λ text. text ≡ book) last
  pub written : WritesAll (Some (rest_text number rest) ∷ Some book ∷ []) held holds

-- so for whatever was read and not yet cut off
abbrev pub TellsEnd : ℕ → State → LinesView → (held holds : Option (List ℕ)) → Type 0
TellsEnd number old view held holds = (rest : List ℕ) → AreUncut rest view → TellsEndOf number old rest held holds

-- a level of this name and config was opened so
pub record IsOpenedWith (setup : Setup) (name : List ℕ) (config : Config) (s : State) : Type 0 where
  pub name_is : name ≡ setup.name
  pub config_is : config ≡ setup.config
  pub begun : IsBegun setup s
