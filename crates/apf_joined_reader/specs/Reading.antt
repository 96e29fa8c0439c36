-- What was read of an audit log and of the server's own log, and what was handed out.
use Rattle.std.specs.Prelude.{◌≡◌, ℕ, List, [], ◌∷◌, ◌++◌, All, Bool, is_some, Option, Some, None, Result, Ok, Err, option_map}
use Rattle.std.specs.Io.KnownBytes.{Consumes, IsAtEnd}
use Rattle.apf_request_halves.specs.Reading as lines
use Rattle.apf_request_halves.specs.declared.fault.HalvesFault.{HalvesFault}
use Rattle.apf_audit.specs.AuditEvent.{Event, event}
use Rattle.apf_audit.specs.declared.choice.Choice.{Choice}
use Rattle.apf_audit.specs.declared.event.Taken.{Taken}
use Rattle.apf_audit_reader.specs.Reading as log
use Rattle.apf_audit_reader.specs.Views.{ReaderView}
use Rattle.apf_joined_reader.specs.Counts.{CountsSaid, counts_of}
use Rattle.apf_joined_reader.specs.Joins.{Join, asked_of, events_of, joined_of}
use Rattle.apf_joined_reader.specs.declared.fault.JoinFault.{JoinFault}
use Rattle.apf_joined_reader.specs.declared.fault.JoinFault.TheVariants.{Read, Lines, NoMemory}

-- what a caller sees: the reader of the audit log, that of the server's own log where there is one, and what was counted
pub record JoinedView : Type 0 where
  pub reader : ReaderView
  pub halves : Option lines.HalvesView
  pub counts : CountsSaid

-- what both inputs have left
pub record Inputs : Type 0 where
  pub log : Option (List ℕ)
  pub lines : Option (List ℕ)

abbrev pub inputs : (log lines : Option (List ℕ)) → Inputs
inputs log lines = record { log = log; lines = lines }

-- a line was asked for by the id of the request, if it has one
abbrev pub IsAskedById : Join → Type 0
IsAskedById j = option_map (λ a. a.id) j.asked ≡ j.event.audit_id

-- no line was asked for
abbrev pub IsNotAsked : Join → Type 0
IsNotAsked j = j.asked ≡ None

-- The server's own log gave these bytes, and has this left, and a line was asked for each request; without such a log none was
abbrev pub AreAsked : Option lines.HalvesView → List ℕ → List Join → Option (List ℕ) → Type 0
AreAsked None bytes joins left = All IsNotAsked joins
AreAsked (Some v) bytes joins left = All IsAskedById joins × lines.HasRead bytes (asked_of joins) left v

-- The audit log and the server's own gave these bytes, and have this left; these requests were handed out, each with what its line says.
pub record HasJoined (choice : Choice) (log_bytes line_bytes : List ℕ) (joins : List Join) (left : Inputs) (v : JoinedView) : Type 0 where
  pub read : log.HasRead choice log_bytes (events_of joins) left.log v.reader
  pub asked : AreAsked v.halves line_bytes joins left.lines
  pub counts : v.counts ≡ counts_of choice.by joins

-- a request was read, and what was asked for and answered of its line
pub record IsJoined (choice : Choice) (log_bytes line_bytes : List ℕ) (joins : List Join) (left : Inputs) (x : Taken) (v : JoinedView) : Type 0 where
  pub join : Join
  pub is : event x ≡ joined_of join
  pub read : HasJoined choice log_bytes line_bytes (joins ++ join ∷ []) left v

-- a request was read, and its line was not: a line has a fault, memory was refused, or the input failed
pub record IsUnread (choice : Choice) (log_bytes line_bytes : List ℕ) (joins : List Join) (left : Inputs) (fault : HalvesFault) (v : JoinedView) : Type 0 where
  pub event : Event
  pub read : log.HasRead choice log_bytes (events_of joins ++ event ∷ []) left.log v.reader
  pub view : lines.HalvesView
  pub is : v.halves ≡ Some view
  pub stops : lines.Stops line_bytes (asked_of joins) left.lines fault view

-- no request was answered
abbrev pub Stops : Choice → List ℕ → List ℕ → List Join → Inputs → JoinFault → JoinedView → Type 0
Stops choice log_bytes line_bytes joins left (Read fault) v = log.Stops choice log_bytes (events_of joins) left.log fault v.reader
Stops choice log_bytes line_bytes joins left (Lines fault) v = IsUnread choice log_bytes line_bytes joins left fault v
Stops choice log_bytes line_bytes joins left NoMemory v = Unit {0}

-- the inputs gave these bytes, and this was answered: the next request; or none, as all were handed out
abbrev pub Answers : Choice → List ℕ → List ℕ → List Join → Inputs → Result (Option Taken) JoinFault → JoinedView → Type 0
Answers choice log_bytes line_bytes joins left (Ok (Some x)) v = IsJoined choice log_bytes line_bytes joins left x v
Answers choice log_bytes line_bytes joins left (Ok None) v =
    HasJoined choice log_bytes line_bytes joins left v × log.AreAll choice v.reader.window.size log_bytes (events_of joins) × IsAtEnd left.log
Answers choice log_bytes line_bytes joins left (Err fault) v = Stops choice log_bytes line_bytes joins left fault v

-- each input gave these bytes more
pub record Gave (was left : Inputs) (log_bytes line_bytes : List ℕ) : Type 0 where
  pub log : Consumes was.log left.log log_bytes
  pub lines : Consumes was.lines left.lines line_bytes

-- whatever the inputs gave and was handed out before, the inputs gave more bytes, and this was answered
abbrev pub AnswersMore : Choice → Inputs → Inputs → JoinedView → Result (Option Taken) JoinFault → JoinedView → Type 0
AnswersMore choice was left old result new = (log_bytes line_bytes : List ℕ) (joins : List Join) → HasJoined choice log_bytes line_bytes joins was old
    → (log_more line_more : List ℕ) × Gave was left log_more line_more × Answers choice (log_bytes ++ log_more) (line_bytes ++ line_more) joins left result new

-- lines may come as late as before, and the server's own log is read if it was
pub record IsAlike (old new : JoinedView) : Type 0 where
  pub size : new.reader.window.size ≡ old.reader.window.size
  pub lines : is_some new.halves ≡ is_some old.halves

-- The inputs gave these bytes, and these requests were handed out: all chosen ones of the audit log, in their one order, each with its line if one was found
pub record AreAll (choice : Choice) (size : ℕ) (has_lines : Bool) (was left : Inputs) (joins : List Join) (v : JoinedView) : Type 0 where
  pub log_bytes : List ℕ
  pub line_bytes : List ℕ
  pub given : Gave was left log_bytes line_bytes
  pub all : log.AreAll choice size log_bytes (events_of joins)
  pub ended : IsAtEnd left.log
  pub are_read : is_some v.halves ≡ has_lines
  pub asked : AreAsked v.halves line_bytes joins left.lines
  pub counts : v.counts ≡ counts_of choice.by joins
