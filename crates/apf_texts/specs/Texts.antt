-- The texts of a transcript and of a book.
use Rattle.std.specs.Prelude.{ℕ, ◌+◌, List, [], ◌∷◌, ◌++◌, Bool, if◌then◌else◌, codes}
use Rattle.std.specs.List.{flat_map}
use Rattle.std.specs.Fmt.{decimal}
use Rattle.apf_words.specs.declared.decision.Decision.{Decision}
use Rattle.apf_words.specs.declared.decision.Decision.TheVariants.{Execute, QueueFull, Closed, Cancelled, ConcurrencyLimit}
use Rattle.apf_texts.specs.declared.line.Line.{Line}
use Rattle.apf_texts.specs.declared.line.Line.TheVariants as lines
use Rattle.apf_texts.specs.declared.totals.Totals.{Totals}

-- how a decision is written
abbrev pub decision_name : Decision → List ℕ
decision_name Execute = codes "execute"
decision_name QueueFull = codes "queue-full"
decision_name Closed = codes "closed"
decision_name Cancelled = codes "cancelled"
decision_name ConcurrencyLimit = codes "concurrency-limit"

-- a line of a transcript, with the LF that ends it
abbrev pub line_text : Line → List ℕ
line_text (lines.Arrives request decision) = codes "arrive " ++ decimal request ++ codes " " ++ decision_name decision ++ codes "\n"
line_text (lines.Queued request queue) = codes "arrive " ++ decimal request ++ codes " queued " ++ decimal queue ++ codes "\n"
line_text (lines.QueueFull request queue) = codes "arrive " ++ decimal request ++ codes " queue-full " ++ decimal queue ++ codes "\n"
line_text (lines.Again request) = codes "arrive " ++ decimal request ++ codes " again\n"
line_text (lines.Finishes request) = codes "finish " ++ decimal request ++ codes "\n"
line_text (lines.NotRunning request) = codes "finish " ++ decimal request ++ codes " not running\n"
line_text (lines.Cancels request decision) = codes "cancel " ++ decimal request ++ codes " " ++ decision_name decision ++ codes "\n"
line_text lines.ClosesFirst = codes "close first\n"
line_text lines.ClosesAlready = codes "close already\n"
line_text (lines.Limits limit old) = codes "limit " ++ decimal limit ++ codes " was " ++ decimal old ++ codes "\n"
line_text (lines.Dispatches request queue) = codes "dispatch " ++ decimal request ++ codes " queue " ++ decimal queue ++ codes "\n"
line_text (lines.Strikes request queue) = codes "strike " ++ decimal request ++ codes " queue " ++ decimal queue ++ codes "\n"

-- the lines, one after another
abbrev pub lines_text : List Line → List ℕ
lines_text lines = flat_map line_text lines

-- how it is written whether a level is closed
abbrev pub closed_name : Bool → List ℕ
closed_name closed = if closed then codes "closed" else codes "open"

-- the texts, one after another
abbrev pub joined : List (List ℕ) → List ℕ
joined [] = []
joined (text ∷ texts) = text ++ joined texts

-- the four lines of a book
unfoldable pub level_text : Totals → List ℕ
level_text t = joined (codes "level " ∷ closed_name t.closed ∷ codes " seats " ∷ decimal t.seats ∷ codes " waiting " ∷ decimal t.waiters ∷ codes "\n" ∷ [])

unfoldable pub decided_text : Totals → List ℕ
decided_text t = joined (codes "executed " ∷ decimal t.counts.executed
    ∷ codes " rejected " ∷ decimal (t.counts.queue_full + t.counts.closed + t.counts.concurrency_limit)
    ∷ codes " cancelled " ∷ decimal t.counts.cancelled ∷ codes " undecided " ∷ decimal t.undecided ∷ codes "\n" ∷ [])

unfoldable pub rejected_text : Totals → List ℕ
rejected_text t = joined (codes "queue-full " ∷ decimal t.counts.queue_full ∷ codes " closed " ∷ decimal t.counts.closed
    ∷ codes " concurrency-limit " ∷ decimal t.counts.concurrency_limit ∷ codes "\n" ∷ [])

unfoldable pub log_text : Totals → List ℕ
log_text t = joined (codes "entered " ∷ decimal t.entered ∷ codes " dispatched " ∷ decimal t.dispatched ∷ codes " struck " ∷ decimal t.struck ∷ codes "\n" ∷ [])

-- the text of a book
abbrev pub totals_text : Totals → List ℕ
totals_text t = level_text t ++ decided_text t ++ rejected_text t ++ log_text t
