-- What was read, held and answered.
use Rattle.std.specs.Prelude.{◌≡◌, ◌≢◌, ◌≤◌, ◌<◌, ◌⊎◌, ℕ, ◌+◌, ◌-◌, ◌^◌, min, max, nat_lt, List, [], ◌∷◌, ◌++◌, length, take, flat_map, count_by, All, IsPermutation, bytes_eq, Bool, true, ◌&&◌, if◌then◌else◌, Option, Some, None, option_to_list, Result, Ok, Err, IfSome, IfNone}
use Rattle.std.specs.Io.KnownBytes.{Consumes, IsAtEnd}
use Rattle.apf_lines.specs.Lines.{AreLines, AreUncut, LinesView}
use Rattle.apf_request_lines.specs.declared.fault.RequestLineFault.{RequestLineFault}
use Rattle.apf_request_lines.specs.declared.line.RequestLine.{RequestLine}
use Rattle.apf_request_lines.specs.Lines.{Request, line_read, request}
use Rattle.apf_request_halves.specs.declared.fault.HalvesFault.{HalvesFault}
use Rattle.apf_request_halves.specs.declared.fault.HalvesFault.TheVariants.{NoMemory, Line, CannotRead}
use Rattle.apf_request_halves.specs.declared.halves.Turn.{Turn}
use Rattle.apf_request_halves.specs.declared.halves.Turn.TheVariants.{Found, More, Over}
use Rattle.apf_request_halves.specs.Held.{Placed}

-- the most bytes of a line, without its LF
abbrev pub max_line : ℕ
max_line = 1048576

-- the request of a line of this number, where this was read of it
abbrev pub given : ℕ → Result (Option Request) RequestLineFault → List Placed
given number (Ok (Some r)) = record { number = number; request = r } ∷ []
given number (Ok None) = []
given number (Err fault) = []

-- the request of this line, of this number; a line that is too long has none
abbrev pub request_at : ℕ → List ℕ → List Placed
request_at number line = if nat_lt max_line (length line) then [] else given number (line_read line)

-- the requests of these lines, of which the first has this number
unfoldable pub requests_from : ℕ → List (List ℕ) → List Placed
requests_from number [] = []
requests_from number (line ∷ lines) = request_at number line ++ requests_from (number + 1) lines

-- how many lines are held at most
abbrev pub max_held : ℕ
max_held = 131072

-- lines are read up to so many behind one that was answered
abbrev pub reach : ℕ
reach = 65536

-- how many more lines are read for each id that is not found
abbrev pub more_lines : ℕ
more_lines = 64

-- so many lines can be counted
abbrev pub most_lines : ℕ
most_lines = 2 ^ 64 - 1

-- what a caller sees: what is read and not yet cut off, the lines that are held, how many lines were read, how many of a request had to go,
-- up to which line more are read, and whether the input came to its end
pub record HalvesView : Type 0 where
  pub lines : LinesView
  pub held : List Placed
  pub number : ℕ
  pub dropped : ℕ
  pub limit : ℕ
  pub is_ended : Bool

-- an id that was asked for, and the line that was answered, if one was found
pub record Asked : Type 0 where
  pub id : List ℕ
  pub found : Option Placed

-- the lines that were answered
abbrev pub answers_of : List Asked → List Placed
answers_of asked = flat_map (λ a. option_to_list a.found) asked

-- up to which line more are read, once this was answered
abbrev pub limit_after : ℕ → Option Placed → ℕ
limit_after limit None = min (limit + more_lines) most_lines
limit_after limit (Some p) = max limit (min (p.number + reach) most_lines)

-- the same, once these were answered one after the other
abbrev pub limit_from : ℕ → List Asked → ℕ
limit_from limit [] = limit
limit_from limit (a ∷ asked) = limit_from (limit_after limit a.found) asked

abbrev pub limit_by : List Asked → ℕ
limit_by asked = limit_from reach asked

-- a line stands behind this one
abbrev pub is_behind : Placed → Placed → Bool
is_behind gone p = nat_lt gone.number p.number

-- and has its id
abbrev pub takes_place : Placed → Placed → Bool
takes_place gone p = is_behind gone p && bytes_eq p.request.audit_id gone.request.audit_id

-- a line had to go, as a later one of these has its id, or as many later ones of these as are held at most
abbrev pub HadToGo : List Placed → Placed → Type 0
HadToGo requests gone = (1 ≤ count_by (takes_place gone) requests) ⊎ (max_held ≤ count_by (is_behind gone) requests)

-- No line of this id was there: of these lines some were read by then, and of those that were held, none has the id. They were read up to the limit,
-- or the input was at its end
pub record IsMissed (lines : List (List ℕ)) (is_ended : Bool) (gone : List Placed) (before : List Asked) (id : List ℕ) : Type 0 where
  pub count : ℕ
  pub some : count ≤ length lines
  pub held : List Placed
  -- those that had to go by then, and later
  pub past : List Placed
  pub later : List Placed
  pub both : gone ≡ later ++ past
  pub all : IsPermutation (requests_from 1 (take count lines)) (answers_of before ++ (held ++ past))
  pub none : All (λ p. p.request.audit_id ≢ id) held
  pub far : (limit_by before ≤ count) ⊎ ((is_ended ≡ true) × (count ≡ length lines))

-- who asked for this id, after these, was told so
abbrev pub IsAnswered : List (List ℕ) → Bool → List Placed → List Asked → List ℕ → Option Placed → Type 0
IsAnswered lines is_ended gone before id None = IsMissed lines is_ended gone before id
IsAnswered lines is_ended gone before id (Some p) = p.request.audit_id ≡ id

-- the same of all that asked, one after the other, behind these
abbrev pub AreAnswered : List (List ℕ) → Bool → List Placed → List Asked → List Asked → Type 0
AreAnswered lines is_ended gone before [] = Unit {0}
AreAnswered lines is_ended gone before (a ∷ asked) = IsAnswered lines is_ended gone before a.id a.found × AreAnswered lines is_ended gone (before ++ a ∷ []) asked

-- each line that is held stands behind the next one, and before this number
abbrev pub AreFalling : ℕ → List Placed → Type 0
AreFalling top [] = Unit {0}
AreFalling top (p ∷ held) = (p.number < top) × AreFalling p.number held

-- The input gave these bytes, and has this left, and these ids were asked for. No more lines were read than the limit says. Each request of the lines was answered, is held,
-- or had to go, and no two of these.
pub record HasRead (bytes : List ℕ) (asked : List Asked) (left : Option (List ℕ)) (v : HalvesView) : Type 0 where
  pub lines : List (List ℕ)
  pub rest : List ℕ
  pub are : AreLines bytes lines rest
  pub uncut : AreUncut rest v.lines
  pub longest : v.lines.longest ≡ max_line
  pub number : v.number ≡ length lines
  pub gone : List Placed
  pub all : IsPermutation (requests_from 1 lines) (answers_of asked ++ (v.held ++ gone))
  pub dropped : v.dropped ≡ length gone
  pub few : length v.held ≤ max_held
  pub order : AreFalling (v.number + 1) v.held
  pub had_to : All (HadToGo (requests_from 1 lines)) gone
  pub each : AreAnswered lines v.is_ended gone [] asked
  pub limit : v.limit ≡ limit_by asked
  pub within : v.number ≤ v.limit
  pub end : v.is_ended ≡ true → IsAtEnd left

-- none of these lines has this id
abbrev pub IsWithout : List ℕ → List Placed → Type 0
IsWithout id held = All (λ p. p.request.audit_id ≢ id) held

-- a line behind the others is held in front of them, but for one where one had to go
pub record IsHeld (line : Placed) (old : List Placed) (is_gone : Bool) (new : List Placed) : Type 0 where
  pub gone : List Placed
  pub all : IsPermutation (line ∷ old) (new ++ gone)
  pub count : length gone ≡ (if is_gone then 1 else 0)
  pub few : length new ≤ max_held
  pub order : AreFalling line.number old → AreFalling (line.number + 1) new
  pub had_to : AreFalling line.number old → All (HadToGo new) gone

-- what was answered of the line of this number
abbrev pub answered : ℕ → Option RequestLine → List Placed
answered number None = []
answered number (Some line) = record { number = number; request = request line } ∷ []

-- the line of this number was answered, as it has the id, or it is held, if it is the line of a request
pub record Judges (number : ℕ) (line id : List ℕ) (old : List Placed) (found : Option RequestLine) (is_gone : Bool) (new : List Placed) : Type 0 where
  pub gone : List Placed
  pub all : IsPermutation (given number (line_read line) ++ old) (answered number found ++ (new ++ gone))
  pub count : length gone ≡ (if is_gone then 1 else 0)
  pub few : length old ≤ max_held → length new ≤ max_held
  pub order : AreFalling number old → AreFalling (number + 1) new
  pub had_to : AreFalling number old → All (HadToGo new) gone
  pub same_id : IfSome found (λ r. r.audit_id.items ≡ id)
  pub other_id : IfNone found (IsWithout id (given number (line_read line)))

-- the line of this number has this fault
pub record IsFaultAt (bytes : List ℕ) (number : ℕ) (fault : RequestLineFault) : Type 0 where
  pub front : List (List ℕ)
  pub line : List ℕ
  pub rest : List ℕ
  pub are : AreLines bytes (front ++ line ∷ []) rest
  pub place : number ≡ length front + 1
  pub has : line_read line ≡ Err fault

-- no line was answered: a line has a fault, or the input failed, and then nothing is lost
abbrev pub Stops : List ℕ → List Asked → Option (List ℕ) → HalvesFault → HalvesView → Type 0
Stops bytes asked left NoMemory v = Unit {0}
Stops bytes asked left (Line number fault) v = HasRead bytes asked left v × IsFaultAt bytes number fault
Stops bytes asked left (CannotRead error) v = HasRead bytes asked left v

-- an id was asked for, and this line of this number was answered
abbrev pub asked_and : List ℕ → ℕ → RequestLine → Asked
asked_and id number line = record { id = id; found = Some (record { number = number; request = request line }) }

-- this line of the input was answered, to who asked for its id
abbrev pub Finds : List ℕ → List ℕ → List Asked → Option (List ℕ) → RequestLine → HalvesView → Type 0
Finds id bytes asked left line v = (number : ℕ) × HasRead bytes (asked ++ asked_and id number line ∷ []) left v

-- the line that was cut off was answered or held, or it is no line of a request
pub record TakesLine (id : List ℕ) (old : HalvesView) (found : Option RequestLine) (new : HalvesView) : Type 0 where
  pub is_gone : Bool
  pub judges : Judges (old.number + 1) old.lines.line id old.held found is_gone new.held
  pub number : new.number ≡ old.number + 1
  pub dropped : new.dropped ≡ old.dropped + (if is_gone then 1 else 0)
  pub lines : new.lines ≡ old.lines
  pub limit : new.limit ≡ old.limit
  pub is_ended : new.is_ended ≡ old.is_ended

-- the same, or it has a fault
abbrev pub Took : List ℕ → HalvesView → Result (Option RequestLine) HalvesFault → HalvesView → Type 0
Took id old (Ok found) new = TakesLine id old found new
Took id old (Err NoMemory) new = Unit {0}
Took id old (Err (Line number fault)) new = (number ≡ old.number + 1) × (line_read old.lines.line ≡ Err fault) × (new ≡ record old { number = old.number + 1 })
Took id old (Err (CannotRead error)) new = ⊥

-- what one turn came to: the line was found; or none that is held has the id, and more is to be read, or nothing more is read for this id
abbrev pub Goes : List ℕ → List ℕ → List Asked → Option (List ℕ) → Result Turn HalvesFault → HalvesView → Type 0
Goes id bytes asked left (Ok (Found line)) v = Finds id bytes asked left line v
Goes id bytes asked left (Ok More) v = HasRead bytes asked left v × IsWithout id v.held
Goes id bytes asked left (Ok Over) v = HasRead bytes asked left v × IsWithout id v.held × ((v.limit ≤ v.number) ⊎ (v.is_ended ≡ true))
Goes id bytes asked left (Err fault) v = Stops bytes asked left fault v

-- the same, where none that was held has the id, and the input gave more bytes
abbrev pub GoesMore : List ℕ → Option (List ℕ) → Option (List ℕ) → HalvesView → Result Turn HalvesFault → HalvesView → Type 0
GoesMore id was left old result new = (bytes : List ℕ) (asked : List Asked) → HasRead bytes asked was old → IsWithout id old.held
    → (more : List ℕ) × Consumes was left more × Goes id (bytes ++ more) asked left result new

-- the line of this id was held, or none of this id was, and nothing changes
abbrev pub TakesHeld : List ℕ → HalvesView → Option RequestLine → HalvesView → Type 0
TakesHeld id old None new = (new ≡ old) × IsWithout id old.held
TakesHeld id old (Some line) new = (bytes : List ℕ) (asked : List Asked) (left : Option (List ℕ)) → HasRead bytes asked left old → Finds id bytes asked left line new

-- this was answered to who asked for this id: its line; or none
abbrev pub Answers : List ℕ → List ℕ → List Asked → Option (List ℕ) → Result (Option RequestLine) HalvesFault → HalvesView → Type 0
Answers id bytes asked left (Ok (Some line)) v = (number : ℕ) × HasRead bytes (asked ++ asked_and id number line ∷ []) left v
Answers id bytes asked left (Ok None) v = HasRead bytes (asked ++ record { id = id; found = None } ∷ []) left v
Answers id bytes asked left (Err fault) v = Stops bytes asked left fault v

-- whatever the input gave and was answered before, the input gave more bytes, and this was answered
abbrev pub AnswersMore : List ℕ → Option (List ℕ) → Option (List ℕ) → HalvesView → Result (Option RequestLine) HalvesFault → HalvesView → Type 0
AnswersMore id was left old result new = (bytes : List ℕ) (asked : List Asked) → HasRead bytes asked was old
    → (more : List ℕ) × Consumes was left more × Answers id (bytes ++ more) asked left result new
