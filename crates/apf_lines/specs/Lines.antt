-- Lines that are cut off what is read.
use Rattle.std.specs.Prelude.{◌≡◌, ◌≢◌, ℕ, ◌<◌, ◌≤◌, List, [], ◌∷◌, ◌++◌, length, All, Bool, true, false, Result, MatchResult}
use Rattle.std.specs.List.{flat_map}
use Rattle.std.specs.Io.KnownBytes.{Keeps, Consumes, IsAtEnd}
use Rattle.std.specs.declared.option.Option.{Option}
use Rattle.apf_lines.specs.declared.lines.Cut.{Cut}
use Rattle.apf_lines.specs.declared.lines.Cut.TheVariants.{Line, TooLong, Nothing}

-- the byte that ends a line, LF
abbrev pub lf : ℕ
lf = 10

-- none of these bytes is LF
abbrev pub HasNoLf : List ℕ → Type 0
HasNoLf bytes = All (λ b. b ≢ lf) bytes

-- a line with the LF that ends it
abbrev pub with_lf : List ℕ → List ℕ
with_lf line = line ++ (lf ∷ [])

-- these bytes are these lines, each with its LF, and the rest behind the last of them
pub record AreLines (bytes : List ℕ) (lines : List (List ℕ)) (rest : List ℕ) : Type 0 where
  pub joined : bytes ≡ flat_map with_lf lines ++ rest
  pub whole : All HasNoLf lines

-- the longest line that is handed out; the one that was cut off last; the bytes that are kept behind it; and whether in front of these stood others of their line, which were dropped
pub record LinesView : Type 0 where
  pub longest : ℕ
  pub line : List ℕ
  pub kept : List ℕ
  pub is_skipped : Bool

-- these were dropped: no bytes, or more than the longest line has, and no LF among them
abbrev pub AreDropped : (longest : ℕ) → Bool → List ℕ → Type 0
AreDropped longest false bytes = bytes ≡ []
AreDropped longest true bytes = (longest < length bytes) × HasNoLf bytes

-- these bytes were read and are not yet cut off: those that were dropped, and those that are kept
pub record AreUncut (rest : List ℕ) (view : LinesView) : Type 0 where
  pub dropped : List ℕ
  pub are : AreDropped view.longest view.is_skipped dropped
  pub both : rest ≡ dropped ++ view.kept

-- the line was cut off these bytes with its LF, and what stands behind is not yet cut off
pub record CutsLine (rest line : List ℕ) (view : LinesView) : Type 0 where
  pub later : List ℕ
  pub first : rest ≡ line ++ (lf ∷ later)
  pub whole : HasNoLf line
  pub left : AreUncut later view

-- a line that is too long was cut off these bytes
pub record CutsTooLong (rest : List ℕ) (view : LinesView) : Type 0 where
  pub line : List ℕ
  pub long : view.longest < length line
  pub cuts : CutsLine rest line view

-- what was cut off these bytes: the first line, by whether it is too long; or nothing, where no LF is among them
abbrev pub Cuts : List ℕ → LinesView → Cut → LinesView → Type 0
Cuts rest old Line new = (length new.line ≤ new.longest) × CutsLine rest new.line new
Cuts rest old TooLong new = CutsTooLong rest new
Cuts rest old Nothing new = HasNoLf rest × (new ≡ old)

-- whatever was read and not yet cut off, this was cut off it; where nothing was, no LF is kept, and else fewer bytes are kept
pub record CutsOff (old : LinesView) (cut : Cut) (new : LinesView) : Type 0 where
  pub of_each : (rest : List ℕ) → AreUncut rest old → Cuts rest old cut new
  pub none : cut ≡ Nothing → HasNoLf new.kept
  pub shorter : cut ≢ Nothing → length new.kept < length old.kept
  pub longest : new.longest ≡ old.longest

-- this many bytes came behind whatever was read and not yet cut off: those that the reader gave, none only at its end
pub record Gains (was left : Option (List ℕ)) (count : ℕ) (old new : LinesView) : Type 0 where
  pub bytes : List ℕ
  pub count_is : length bytes ≡ count
  pub given : Consumes was left bytes
  pub end : count ≡ 0 → IsAtEnd left
  pub of_each : (rest : List ℕ) → AreUncut rest old → AreUncut (rest ++ bytes) new

-- whatever was read and not yet cut off is so still, and the reader has what it had
pub record Stays (was left : Option (List ℕ)) (old new : LinesView) : Type 0 where
  pub kept : Keeps was left
  pub of_each : (rest : List ℕ) → AreUncut rest old → AreUncut rest new

-- what the reader gave was read, or it failed
pub record Fills {E : Type 0} (was left : Option (List ℕ)) (old : LinesView) (result : Result ℕ E) (new : LinesView) : Type 0 where
  pub reads : MatchResult result (λ count. Gains was left count old new) (λ _. Stays was left old new)
  pub longest : new.longest ≡ old.longest

-- whether bytes stand behind the last line that was cut off
abbrev pub TellsRest : LinesView → Bool → Type 0
TellsRest view true = (rest : List ℕ) → AreUncut rest view → 0 < length rest
TellsRest view false = (rest : List ℕ) → AreUncut rest view → rest ≡ []
