-- The lines of the protocol, as they are written.
use Rattle.std.specs.Prelude.{◌≡◌, ℕ, ◌^◌, ◌<◌, ◌≤◌, List, [], ◌++◌, length, Some, None, Ok, codes, decimal}
use Rattle.apf_traces.specs.TraceFile.{max_bytes}
use Rattle.apf_protocol.specs.Lines.{Words, form_of, object_text, IsHeadInRange}
use Rattle.apf_protocol.specs.declared.head.Head.{Head}
use Rattle.apf_protocol.specs.declared.head.Head.TheVariants.{Arrive, Try, Finish, Spent, Cancel, Limit, Close, Book, Queues, Metrics}

-- the line of these words, and of this object's text behind the number of an arrival
abbrev pub line_of : Head → List ℕ → List ℕ
line_of (Arrive n) object = codes "arrive " ++ (decimal n ++ (codes " " ++ object))
line_of (Try n) object = codes "try " ++ (decimal n ++ (codes " " ++ object))
line_of (Finish n None) object = codes "finish " ++ decimal n
line_of (Finish n (Some micros)) object = codes "finish " ++ (decimal n ++ (codes " " ++ decimal micros))
line_of (Spent n micros) object = codes "spent " ++ (decimal n ++ (codes " " ++ decimal micros))
line_of (Cancel n) object = codes "cancel " ++ decimal n
line_of (Limit n) object = codes "limit " ++ decimal n
line_of Close object = codes "close"
line_of Book object = codes "book"
line_of Queues object = codes "queues"
line_of Metrics object = codes "metrics"

-- an object's text stands behind an arrival alone
abbrev pub IsObjectOf : Head → List ℕ → Type 0
IsObjectOf (Arrive n) object = object_text object ≡ Some object
IsObjectOf (Try n) object = object_text object ≡ Some object
IsObjectOf head object = object ≡ []

-- the line is that of these words, and is not too long
abbrev pub IsLineOf : ℕ → List ℕ → Words → Type 0
IsLineOf slots line words =
    (line ≡ line_of words.head words.object) × IsHeadInRange slots words.head × IsObjectOf words.head words.object × (length line ≤ max_bytes)

-- a line that is read is that of the words that are read
abbrev pub IsReadRight : Type 0
IsReadRight = (slots : ℕ) (line : List ℕ) (words : Words) → slots < 2 ^ 32 → form_of slots line ≡ Ok words → IsLineOf slots line words

-- the line of any words is read, and as these words
abbrev pub IsEveryLineRead : Type 0
IsEveryLineRead = (slots : ℕ) (line : List ℕ) (words : Words) → slots < 2 ^ 32 → IsLineOf slots line words → form_of slots line ≡ Ok words
