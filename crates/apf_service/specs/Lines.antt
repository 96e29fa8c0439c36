-- What a live level does with one line.
use Rattle.std.specs.Prelude.{◌≡◌, ◌≢◌, ◌⊎◌, ℕ, ◌-◌, ◌^◌, ◌<◌, List, [], ◌++◌, length, map, drop, reverse, max, nat_eq, if◌then◌else◌, Bool, false, Option, Some, None, IfSome, Result, Ok, Err, OnOk}
use Rattle.std.specs.List.{flat_map}
use Rattle.std.specs.Io.KnownBytes.{Appends}
use Rattle.apf_words.specs.Level.{Level}
use Rattle.apf_files.specs.FirstFault.{◌>>=◌}
use Rattle.apf_gate.specs.StationSteps.{StationLoadsLevel}
use Rattle.apf_book.specs.declared.life_event.LifeEvent.{LifeEvent}
use Rattle.apf_book.specs.declared.life_stats.LifeStats.{LifeStats}
use Rattle.apf_book.specs.Life.{LifeView}
use Rattle.apf_book.specs.LifeBook.{IsLifeKept, IsLived}
use Rattle.apf_book.specs.RecentEvents.{event_of, AreLifeStats}
use Rattle.apf_local.specs.Levels.{LocalView}
use Rattle.apf_texts.specs.declared.totals.Totals.{Totals}
use Rattle.apf_texts.specs.Texts.{totals_text}
use Rattle.apf_protocol.specs.declared.answer.Answer.{Answer as Told}
use Rattle.apf_protocol.specs.declared.answer.Answer.TheVariants.{End}
use Rattle.apf_protocol.specs.declared.answer.Given.{Given}
use Rattle.apf_protocol.specs.declared.command.Command.{Command}
use Rattle.apf_protocol.specs.declared.command.Command.TheVariants as commands
use Rattle.apf_protocol.specs.declared.fault.FaultKind.{FaultKind}
use Rattle.apf_protocol.specs.declared.fault.FaultKind.TheVariants.{NoMemory}
use Rattle.apf_protocol.specs.declared.fault.Found.{Found}
use Rattle.apf_protocol.specs.declared.fault.Found.TheVariants.{Nothing}
use Rattle.apf_protocol.specs.Lines.{Words, form_of, request_in, occupancy_fault}
use Rattle.apf_protocol.specs.Commands.{command_from, HasObject}
use Rattle.apf_protocol.specs.Faults.{IsFoundIn, fault_text}
use Rattle.apf_protocol.specs.Texts.{answer_text, queue_text}
use Rattle.apf_service.specs.declared.replies.Refusal.{Refusal}
use Rattle.apf_service.specs.declared.tally.Tally.{Tally}
use Rattle.apf_service.specs.Kept.{State, FollowsAll, is_there, slot_in}
use Rattle.apf_service.specs.Replies.{reply_text, moves_text}
use Rattle.apf_service.specs.Turns.{Turns, OperatorDoes}
use Rattle.apf_service.specs.Metrics.{metrics_text}

-- exactly this was written, if the call answered Ok; else nothing is known of how much
abbrev pub WritesIfOk : {T E : Type 0} → Result T E → Option (List ℕ) → Option (List ℕ) → List ℕ → Type 0
WritesIfOk result old new text = OnOk result (Appends old new text)

-- a request is there under the number that a line names
abbrev pub there_in : State → Option ℕ → Bool
there_in s None = false
there_in s (Some n) = is_there (slot_in s n)

-- the words, unless they have this fault
abbrev pub unless_fault : Option FaultKind → Words → Result Words FaultKind
unless_fault None w = Ok w
unless_fault (Some kind) w = Err kind

-- the words, unless it is wrong that a request is there under their number, or that none is
abbrev pub judged : State → Words → Result Words FaultKind
judged s w = unless_fault (occupancy_fault (there_in s (request_in w.head)) w.head) w

-- the words of a line for a level in this state, or its first fault
unfoldable pub words_in : State → List ℕ → Result Words FaultKind
words_in s line = form_of (length s.level.places) line >>= judged s

-- what a line commands, or its first fault
unfoldable pub command_in : State → List ℕ → Result Command FaultKind
command_in s line = words_in s line >>= (λ w. command_from w.head w.object)

-- memory can be refused to a line with an object alone, whose words have no fault
abbrev pub CanLackMemory : Result Words FaultKind → Type 0
CanLackMemory (Ok w) = HasObject w.head
CanLackMemory (Err kind) = kind ≡ NoMemory

-- this was found with the fault: in the object's text, where the line's words have none, and else nothing
abbrev pub IsFoundFor : Result Words FaultKind → FaultKind → Found → Type 0
IsFoundFor (Ok w) kind found = IsFoundIn w.object kind found
IsFoundFor (Err first) kind found = found ≡ Nothing

-- this is the line's first fault, or memory was refused; and this was found there
pub record IsFaultOf (s : State) (line : List ℕ) (kind : FaultKind) (found : Found) : Type 0 where
  pub first : kind ≢ NoMemory → command_in s line ≡ Err kind
  pub memory : kind ≡ NoMemory → CanLackMemory (words_in s line)
  pub found_for : IsFoundFor (words_in s line) kind found

-- the line of this number has a fault: it is told, and nothing changed
pub record Refuses (number : ℕ) (line : List ℕ) (old : State) (Writes : List ℕ → Type 0) (new : State) : Type 0 where
  pub kind : FaultKind
  pub found : Found
  pub is : IsFaultOf old line kind found
  pub told : IfSome (fault_text number kind found) Writes
  pub same : new ≡ old

-- of a history these are the events from this place on, or from the oldest that is kept, and the next place is behind the newest
pub record AreEventsFrom (from : ℕ) (kept : ℕ) (v : LifeView) (log : List LifeEvent) (next : ℕ) : Type 0 where
  pub events : map event_of log ≡ drop (max from (length v.history - kept)) (reverse v.history)
  pub next_is : next ≡ max from (length v.history)

-- for each history that the level is of, of fewer than 2^64 events, these are the new events, as far as they are kept; and there is one (`lived`)
pub record AreNewEvents (l : LocalView) (from : ℕ) (log : List LifeEvent) (next : ℕ) : Type 0 where
  pub lived : IsLived l.owner.book
  pub of_each : (v : LifeView) → IsLifeKept v l.owner.book → length v.history < 2 ^ 64 → AreEventsFrom from l.owner.book.notes.capacity v log next

-- this is told as the answer to the line of this number, and then each event by which a request left a queue; and what follows of the events was done
pub record Tells (number : ℕ) (reply : Result Told Refusal) (old : State) (Writes : List ℕ → Type 0) (new : State) : Type 0 where
  pub log : List LifeEvent
  pub next : ℕ
  pub events : AreNewEvents old.level old.seen log next
  pub follows : FollowsAll log (record old { seen = next }) new
  pub told : Writes (reply_text number reply ++ moves_text log)

-- a command that changes something: the level's call was made, and what it answered is told
pub record Changes (number : ℕ) (command : Command) (old : State) (Writes : List ℕ → Type 0) (new : State) : Type 0 where
  pub reply : Result Told Refusal
  pub between : State
  pub turns : Turns command old reply between
  pub tells : Tells number reply between Writes new

-- the book, by what the level's word says of its being closed, by the numbers, and by those of a history
abbrev pub book_of : Level → Tally → LifeStats → Totals
book_of word t stats =
    record {
      closed = word.closed;
      seats = t.seats;
      waiters = t.waiting;
      counts = t.counts;
      undecided = t.waiting;
      entered = stats.entered;
      dispatched = stats.dispatched;
      struck = stats.struck;
    }

-- these are the numbers of each history that the level is of, of fewer than 2^64 events; and there is one (`lived`)
pub record AreStatsOf (l : LocalView) (stats : LifeStats) : Type 0 where
  pub lived : IsLived l.owner.book
  pub of_each : (v : LifeView) → IsLifeKept v l.owner.book → length v.history < 2 ^ 64 → AreLifeStats stats v.history

-- the book is told
pub record TellsBook (old : State) (Writes : List ℕ → Type 0) (new : State) : Type 0 where
  pub word : Level
  pub stats : LifeStats
  pub does : OperatorDoes (λ s s'. StationLoadsLevel s word s') old new
  pub stats_are : AreStatsOf new.level stats
  pub told : Writes (totals_text (book_of word old.tally stats))

-- the line of a queue that a request ever entered
abbrev pub given_text : Given → List ℕ
given_text given = if nat_eq given.entered 0 then [] else queue_text given

-- what the queues were given is told
pub record TellsQueues (old : State) (Writes : List ℕ → Type 0) (new : State) : Type 0 where
  pub told : Writes (flat_map given_text old.queues ++ answer_text End)
  pub same : new ≡ old

-- the numbers are told, with the limit that the level's word says
pub record TellsMetrics (level : List ℕ) (old : State) (Writes : List ℕ → Type 0) (new : State) : Type 0 where
  pub word : Level
  pub does : OperatorDoes (λ s s'. StationLoadsLevel s word s') old new
  pub told : Writes (metrics_text level word.limit old.tally)

-- the command was carried out
abbrev pub Obeys : (level : List ℕ) → (number : ℕ) → Command → State → (List ℕ → Type 0) → State → Type 0
Obeys level number commands.Book old Writes new = TellsBook old Writes new
Obeys level number commands.Queues old Writes new = TellsQueues old Writes new
Obeys level number commands.Metrics old Writes new = TellsMetrics level old Writes new
Obeys level number command old Writes new = Changes number command old Writes new

-- the line of this number commands this, and it was carried out
pub record Carries (level : List ℕ) (number : ℕ) (line : List ℕ) (old : State) (Writes : List ℕ → Type 0) (new : State) : Type 0 where
  pub command : Command
  pub commands : command_in old line ≡ Ok command
  pub obeys : Obeys level number command old Writes new

-- what a level of this name did with the line of this number, and what it answered
abbrev pub Serves : (level : List ℕ) → (number : ℕ) → (line : List ℕ) → State → (List ℕ → Type 0) → State → Type 0
Serves level number line old Writes new = Refuses number line old Writes new ⊎ Carries level number line old Writes new
