-- What a command is answered by what the level's call answered.
use Rattle.std.specs.Prelude.{ℕ, Bool, true, false, List, [], ◌++◌, Option, Some, Result, Ok, Err, codes}
use Rattle.std.specs.List.{flat_map}
use Rattle.apf_words.specs.declared.decision.Decision.TheVariants.{Execute}
use Rattle.apf_gate.specs.Slots.{slot_of}
use Rattle.apf_gate.specs.declared.answers.Cancel.{Cancel}
use Rattle.apf_gate.specs.declared.answers.Cancel.TheVariants as cancels
use Rattle.apf_gate.specs.declared.answers.Close.{Close}
use Rattle.apf_gate.specs.declared.answers.Close.TheVariants as closes
use Rattle.apf_book.specs.declared.life_event.LifeEvent.{LifeEvent}
use Rattle.apf_book.specs.declared.life_event.LifeEvent.TheVariants as events
use Rattle.apf_local.specs.declared.answer.Answer.{Answer}
use Rattle.apf_local.specs.declared.answer.Answer.TheVariants as answers
use Rattle.apf_explain.specs.declared.place.Part.TheVariants.{Sent}
use Rattle.apf_explain.specs.Lines.{place_text}
use Rattle.apf_protocol.specs.declared.answer.Answer.{Answer as Told}
use Rattle.apf_protocol.specs.declared.answer.Answer.TheVariants as tell
use Rattle.apf_protocol.specs.declared.answer.Arrived.TheVariants as arrived
use Rattle.apf_protocol.specs.declared.answer.Tried.TheVariants as tried
use Rattle.apf_protocol.specs.declared.fault.FaultKind.{FaultKind}
use Rattle.apf_protocol.specs.declared.fault.FaultKind.TheVariants as faults
use Rattle.apf_protocol.specs.Faults.{kind_text}
use Rattle.apf_service.specs.declared.replies.Refusal.{Refusal}
use Rattle.apf_service.specs.declared.replies.Refusal.TheVariants.{UsedUp, NotThere}
use Rattle.apf_protocol.specs.Texts.{answer_text}

-- an arrival in the slot that no event names: it is decided so, or the slot's numbers are used up
abbrev pub told_of_answer : ℕ → Answer → Result Told Refusal
told_of_answer n answers.Run = Ok (tell.Arrives n (arrived.Decided Execute))
told_of_answer n (answers.Over decision) = Ok (tell.Arrives n (arrived.Decided decision))
told_of_answer n answer = Err (UsedUp n)

-- an arrival: by its event, which names the queue that it entered or found full
abbrev pub told_of_arrival : ℕ → Answer → Option LifeEvent → Result Told Refusal
told_of_arrival n answer (Some (events.Enter t q)) = Ok (tell.Arrives n (arrived.Queued q))
told_of_arrival n answer (Some (events.Full t q)) = Ok (tell.Arrives n (arrived.QueueFull q))
told_of_arrival n answer event = told_of_answer n answer

-- an attempt
abbrev pub told_of_attempt : ℕ → Answer → Result Told Refusal
told_of_attempt n answers.Run = Ok (tell.Tries n (tried.Decided Execute))
told_of_attempt n (answers.Over decision) = Ok (tell.Tries n (tried.Decided decision))
told_of_attempt n answers.Busy = Ok (tell.Tries n tried.Busy)
told_of_attempt n answer = Err (UsedUp n)

-- a finish
abbrev pub told_of_finish : ℕ → Answer → Result Told Refusal
told_of_finish n answers.Released = Ok (tell.Finishes n)
told_of_finish n answer = Ok (tell.NotRunning n)

-- a time so far
abbrev pub told_of_spent : ℕ → Bool → Result Told Refusal
told_of_spent n true = Ok (tell.Spends n)
told_of_spent n false = Ok (tell.SpendsNothing n)

-- a cancel; where another request holds the slot, its own is not there
abbrev pub told_of_cancel : ℕ → Cancel → Result Told Refusal
told_of_cancel n (cancels.Is decision) = Ok (tell.Cancels n decision)
told_of_cancel n cancels.Other = Err (NotThere n)

-- a close
abbrev pub told_of_close : Close → Result Told Refusal
told_of_close closes.First = Ok tell.ClosesFirst
told_of_close closes.Already = Ok tell.ClosesAlready

-- the fault that a refusal is told as
abbrev pub fault_of : Refusal → FaultKind
fault_of (UsedUp n) = faults.UsedUp n
fault_of (NotThere n) = faults.IsNotThere n

-- its text, as that of the fault of the line of this number
abbrev pub refused_text : ℕ → Refusal → List ℕ
refused_text line refusal = place_text (codes "fault") (Sent line) ++ (kind_text (fault_of refusal) ++ codes "\n")

-- what is answered, to the line of this number
abbrev pub reply_text : ℕ → Result Told Refusal → List ℕ
reply_text line (Ok told) = answer_text told
reply_text line (Err refusal) = refused_text line refusal

-- the line of an event by which a request left its queue
abbrev pub moved_text : LifeEvent → List ℕ
moved_text (events.Enter t q) = []
moved_text (events.Full t q) = []
moved_text (events.Dispatch t q) = answer_text (tell.Dispatches (slot_of t.number) q)
moved_text (events.Strike t q) = answer_text (tell.Strikes (slot_of t.number) q)

-- the lines of these events, the oldest first
abbrev pub moves_text : List LifeEvent → List ℕ
moves_text log = flat_map moved_text log
