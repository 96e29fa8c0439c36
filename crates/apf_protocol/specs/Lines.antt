-- What a line is, before its object is read.
use Rattle.std.specs.Prelude.{ℕ, ◌<◌, ◌≤◌, ⊤, List, [], ◌∷◌, length, Bool, ◌&&◌, nat_eq, nat_le, nat_lt, if◌then◌else◌, Option, Some, None, option_map, Result, Ok, Err, codes, bytes_eq}
use Rattle.std.specs.List.{starts_with}
use Rattle.std.specs.Str.{is_utf8}
use Rattle.apf_words.specs.Limits.{max_limit}
use Rattle.apf_files.specs.FirstFault.{◌>>=◌, or_fault}
use Rattle.apf_traces.specs.TraceFile.{max_bytes}
use Rattle.apf_protocol.specs.Numerals.{numeral, told}
use Rattle.apf_protocol.specs.declared.fault.FaultKind.{FaultKind}
use Rattle.apf_protocol.specs.declared.fault.FaultKind.TheVariants.{TooLong, BadLine, BadNumber, IsThere, IsNotThere, BadTime, BadLimit}
use Rattle.apf_protocol.specs.declared.form.Form.{Form}
use Rattle.apf_protocol.specs.declared.head.Head.{Head}
use Rattle.apf_protocol.specs.declared.head.Head.TheVariants.{Arrive, Try, Finish, Spent, Cancel, Limit, Close, Book, Queues, Metrics}

-- bytes that are cut at their first blank
pub record Cut : Type 0 where
  pub front : List ℕ
  pub rest : List ℕ

-- the cut, where this byte stands in front
abbrev pub longer : ℕ → Cut → Cut
longer b cut = record { front = b ∷ cut.front; rest = cut.rest }

-- the bytes before the first blank and those behind it, if there is one
abbrev pub cut_of : List ℕ → Option Cut
cut_of [] = None
cut_of (b ∷ bytes) = if nat_eq b 32 then Some (record { front = []; rest = bytes }) else option_map (longer b) (cut_of bytes)

-- the words of a line, and the text of its object, where it has one
pub record Words : Type 0 where
  pub head : Head
  pub object : List ℕ

-- the words that a form has
abbrev pub words : Form → Words
words form = record { head = form.head; object = form.object.now }

-- words without an object
abbrev pub alone : Head → Words
alone head = record { head = head; object = [] }

-- a line of one word
unfoldable pub word_of : List ℕ → Option Head
word_of word =
    if bytes_eq word (codes "close") then Some Close
    else (if bytes_eq word (codes "book") then Some Book
    else (if bytes_eq word (codes "queues") then Some Queues
    else (if bytes_eq word (codes "metrics") then Some Metrics else None)))

-- the number, if it is one of this many
abbrev pub one_of : ℕ → ℕ → Result ℕ FaultKind
one_of slots n = if nat_lt n slots then Ok n else Err BadNumber

-- the request's number that a numeral says
unfoldable pub number_of : ℕ → List ℕ → Result ℕ FaultKind
number_of slots digits = or_fault BadLine (numeral digits) >>= one_of slots

-- the number, if a level may have such a limit
abbrev pub one_limit : ℕ → Result ℕ FaultKind
one_limit n = if nat_le 1 n && nat_le n max_limit then Ok n else Err BadLimit

-- the limit that a numeral says
unfoldable pub limit_of : List ℕ → Result ℕ FaultKind
limit_of digits = or_fault BadLine (numeral digits) >>= one_limit

-- the longest that a request is said to have run, in microseconds
abbrev pub most_ran : ℕ
most_ran = 1000000000000

-- a time, if a request may have run so long
abbrev pub time_of : ℕ → Result ℕ FaultKind
time_of n = if nat_le n most_ran then Ok n else Err BadTime

-- a number, and how long its request ran, in bytes that are cut so
abbrev pub ended_at : ℕ → Cut → Result Head FaultKind
ended_at slots cut = do
  ran ← or_fault BadLine (option_map told (numeral cut.rest))
  number ← number_of slots cut.front
  micros ← time_of ran
  Ok (Finish number (Some micros))

-- the number of a request that ends, alone or with a blank and how long it ran
abbrev pub ending_by : ℕ → List ℕ → Option Cut → Result Head FaultKind
ending_by slots bytes None = number_of slots bytes >>= (λ n. Ok (Finish n None))
ending_by slots bytes (Some cut) = ended_at slots cut

unfoldable pub ending_of : ℕ → List ℕ → Result Head FaultKind
ending_of slots bytes = ending_by slots bytes (cut_of bytes)

-- the number of a request that executes still, and behind a blank how long it ran so far
unfoldable pub spending_of : ℕ → List ℕ → Result Head FaultKind
spending_of slots bytes = do
  cut ← or_fault BadLine (cut_of bytes)
  ran ← or_fault BadLine (option_map told (numeral cut.rest))
  number ← number_of slots cut.front
  micros ← time_of ran
  Ok (Spent number micros)

-- the text of an object: UTF-8 that begins with a brace, 123
unfoldable pub object_text : List ℕ → Option (List ℕ)
object_text bytes = if starts_with nat_eq bytes (123 ∷ []) && is_utf8 bytes then Some bytes else None

-- a number, and an object's text behind one blank
unfoldable pub arrival_of : ℕ → List ℕ → Result (ℕ × List ℕ) FaultKind
arrival_of slots bytes = do
  cut ← or_fault BadLine (cut_of bytes)
  object ← or_fault BadLine (object_text cut.rest)
  number ← number_of slots cut.front
  Ok (number, object)

-- a line of this word, a blank and these bytes
unfoldable pub behind_word : ℕ → (word rest : List ℕ) → Result Words FaultKind
behind_word slots word rest =
    if bytes_eq word (codes "arrive") then arrival_of slots rest >>= (λ a. Ok (record { head = Arrive a.0; object = a.1 }))
    else (if bytes_eq word (codes "try") then arrival_of slots rest >>= (λ a. Ok (record { head = Try a.0; object = a.1 }))
    else (if bytes_eq word (codes "finish") then ending_of slots rest >>= (λ head. Ok (alone head))
    else (if bytes_eq word (codes "spent") then spending_of slots rest >>= (λ head. Ok (alone head))
    else (if bytes_eq word (codes "cancel") then number_of slots rest >>= (λ n. Ok (alone (Cancel n)))
    else (if bytes_eq word (codes "limit") then limit_of rest >>= (λ n. Ok (alone (Limit n))) else Err BadLine)))))

-- a line that is cut so
abbrev pub form_from : ℕ → List ℕ → Option Cut → Result Words FaultKind
form_from slots line None = or_fault BadLine (option_map alone (word_of line))
form_from slots line (Some cut) = behind_word slots cut.front cut.rest

-- the form of a line, which comes without its LF, or its first fault; numbers of requests are below slots
unfoldable pub form_of : ℕ → List ℕ → Result Words FaultKind
form_of slots line = if nat_le (length line) max_bytes then form_from slots line (cut_of line) else Err TooLong

-- the number of the request that a line names, if it names one
abbrev pub request_in : Head → Option ℕ
request_in (Arrive n) = Some n
request_in (Try n) = Some n
request_in (Finish n ran) = Some n
request_in (Spent n micros) = Some n
request_in (Cancel n) = Some n
request_in head = None

-- what is wrong with the number of a line, where it is said of each whether a request is there under it
abbrev pub occupancy_fault : Bool → Head → Option FaultKind
occupancy_fault there (Arrive n) = if there then Some (IsThere n) else None
occupancy_fault there (Try n) = if there then Some (IsThere n) else None
occupancy_fault there (Finish n ran) = if there then None else Some (IsNotThere n)
occupancy_fault there (Spent n micros) = if there then None else Some (IsNotThere n)
occupancy_fault there (Cancel n) = if there then None else Some (IsNotThere n)
occupancy_fault there head = None

-- a time is one that a request may have run
abbrev pub IsTimeInRange : Option ℕ → Type 0
IsTimeInRange None = ⊤
IsTimeInRange (Some micros) = micros ≤ most_ran

-- the number of a request is below slots, and a limit is one that a level may have
abbrev pub IsHeadInRange : ℕ → Head → Type 0
IsHeadInRange slots (Arrive n) = n < slots
IsHeadInRange slots (Try n) = n < slots
IsHeadInRange slots (Finish n ran) = (n < slots) × IsTimeInRange ran
IsHeadInRange slots (Spent n micros) = (n < slots) × (micros ≤ most_ran)
IsHeadInRange slots (Cancel n) = n < slots
IsHeadInRange slots (Limit n) = (1 ≤ n) × (n ≤ max_limit)
IsHeadInRange slots head = ⊤
