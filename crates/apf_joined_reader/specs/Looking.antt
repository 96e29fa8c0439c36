-- How the line of one request is found, and what comes of it.
use Rattle.std.specs.Prelude.{◌≡◌, ℕ, List, [], ◌∷◌, ◌++◌, Option, Some, None, Result, Ok, Err, option_map}
use Rattle.std.specs.Io.KnownBytes.{Consumes}
use Rattle.apf_request_lines.specs.Lines.{request}
use Rattle.apf_request_lines.specs.declared.line.RequestLine.{RequestLine}
use Rattle.apf_request_halves.specs.Reading as lines
use Rattle.apf_request_halves.specs.declared.fault.HalvesFault.{HalvesFault}
use Rattle.apf_audit.specs.AuditEvent.{Event, event}
use Rattle.apf_audit.specs.declared.choice.By.{By}
use Rattle.apf_audit.specs.declared.event.Taken.{Taken}
use Rattle.apf_joined_reader.specs.Counts.{counts_then, name_by}
use Rattle.apf_joined_reader.specs.Joins.{Join, asked_of, joined_of, line_by}
use Rattle.apf_joined_reader.specs.Reading.{AreAsked, JoinedView}
use Rattle.apf_joined_reader.specs.declared.fault.JoinFault.{JoinFault}
use Rattle.apf_joined_reader.specs.declared.fault.JoinFault.TheVariants.{Read, Lines, NoMemory}

-- the line of this id was looked for; without an id nothing is read
abbrev pub LooksUp : Option (List ℕ) → Option (List ℕ) → Option (List ℕ) → lines.HalvesView → Result (Option RequestLine) HalvesFault → lines.HalvesView → Type 0
LooksUp None was left old result new = (result ≡ Ok None) × (left ≡ was) × (new ≡ old)
LooksUp (Some id) was left old result new = lines.AnswersMore id was left old result new

-- the request of this event, of which this was asked and answered
abbrev pub join_of : Event → Option lines.Asked → Join
join_of e asked = record { event = e; asked = asked }

-- its line was asked for, and is this one, or none was found; or a line has a fault
abbrev pub FoundBy : Event → List ℕ → List Join → Option (List ℕ) → Result (Option RequestLine) HalvesFault → lines.HalvesView → Type 0
FoundBy e bytes joins left (Ok line) v =
    (asked : Option lines.Asked) × (line_by asked ≡ option_map request line) × AreAsked (Some v) bytes (joins ++ join_of e asked ∷ []) left
FoundBy e bytes joins left (Err fault) v = lines.Stops bytes (asked_of joins) left fault v

-- the same, where the server's own log is read, and else there is no line
abbrev pub Found : Event → List ℕ → List Join → Option (List ℕ) → Result (Option RequestLine) JoinFault → JoinedView → Type 0
Found e bytes joins left (Ok line) v =
    (asked : Option lines.Asked) × (line_by asked ≡ option_map request line) × AreAsked v.halves bytes (joins ++ join_of e asked ∷ []) left
Found e bytes joins left (Err (Lines fault)) v = (view : lines.HalvesView) × (v.halves ≡ Some view) × lines.Stops bytes (asked_of joins) left fault view
Found e bytes joins left (Err NoMemory) v = ⊥
Found e bytes joins left (Err (Read fault)) v = ⊥

abbrev pub FoundMore : Event → Option (List ℕ) → Option (List ℕ) → JoinedView → Result (Option RequestLine) JoinFault → JoinedView → Type 0
FoundMore e was left old result new = (bytes : List ℕ) (joins : List Join) → AreAsked old.halves bytes joins was
    → (more : List ℕ) × Consumes was left more × Found e (bytes ++ more) joins left result new

-- the request has what its line says, and was counted; or its line was not read
abbrev pub Takes : By → Event → List ℕ → List Join → Option (List ℕ) → JoinedView → Result Taken JoinFault → JoinedView → Type 0
Takes by e bytes joins left old (Ok x) v =
    (asked : Option lines.Asked) × (event x ≡ joined_of (join_of e asked)) × AreAsked v.halves bytes (joins ++ join_of e asked ∷ []) left × (v.counts ≡ counts_then (name_by by e.schema) e (line_by asked) old.counts)
Takes by e bytes joins left old (Err (Lines fault)) v = (view : lines.HalvesView) × (v.halves ≡ Some view) × lines.Stops bytes (asked_of joins) left fault view
Takes by e bytes joins left old (Err NoMemory) v = Unit {0}
Takes by e bytes joins left old (Err (Read fault)) v = ⊥

abbrev pub TakesMore : By → Event → Option (List ℕ) → Option (List ℕ) → JoinedView → Result Taken JoinFault → JoinedView → Type 0
TakesMore by e was left old result new = (bytes : List ℕ) (joins : List Join) → AreAsked old.halves bytes joins was
    → (more : List ℕ) × Consumes was left more × Takes by e (bytes ++ more) joins left old result new
