-- The texts of what is answered. A line that a transcript has, too, is written as there.
use Rattle.std.specs.Prelude.{ℕ, List, ◌++◌, codes}
use Rattle.std.specs.Fmt.{decimal}
use Rattle.apf_model.specs.declared.config.Config.{Config}
use Rattle.apf_model.specs.declared.response.Response.{Response}
use Rattle.apf_model.specs.declared.response.Response.TheVariants as responses
use Rattle.apf_texts.specs.Texts.{decision_name, line_text}
use Rattle.apf_texts.specs.declared.line.Line.{Line}
use Rattle.apf_texts.specs.declared.line.Line.TheVariants as lines
use Rattle.apf_protocol.specs.declared.answer.Answer.{Answer}
use Rattle.apf_protocol.specs.declared.answer.Answer.TheVariants.{Arrives, Tries, Finishes, NotRunning, Spends, SpendsNothing, Cancels, Limits, ClosesFirst, ClosesAlready, Dispatches, Strikes, Queue, End}
use Rattle.apf_protocol.specs.declared.answer.Arrived.{Arrived}
use Rattle.apf_protocol.specs.declared.answer.Arrived.TheVariants as arrived
use Rattle.apf_protocol.specs.declared.answer.FirstLine.{FirstLine}
use Rattle.apf_protocol.specs.declared.answer.Given.{Given}
use Rattle.apf_protocol.specs.declared.answer.Tried.{Tried}
use Rattle.apf_protocol.specs.declared.answer.Tried.TheVariants as tried

-- the line of a transcript that says what became of an arrival
abbrev pub arrived_line : ℕ → Arrived → Line
arrived_line request (arrived.Queued queue) = lines.Queued request queue
arrived_line request (arrived.QueueFull queue) = lines.QueueFull request queue
arrived_line request (arrived.Decided decision) = lines.Arrives request decision

-- how it is written what became of a request that was tried
abbrev pub tried_name : Tried → List ℕ
tried_name tried.Busy = codes "busy"
tried_name (tried.Decided decision) = decision_name decision

-- the line of a queue
abbrev pub queue_text : Given → List ℕ
queue_text given =
    codes "queue " ++ (decimal given.queue ++ (codes " waiting " ++ (decimal given.waiting
    ++ (codes " entered " ++ (decimal given.entered ++ (codes " service " ++ (decimal given.service ++ codes "\n")))))))

-- a line that is answered, with the LF that ends it
abbrev pub answer_text : Answer → List ℕ
answer_text (Arrives request it) = line_text (arrived_line request it)
answer_text (Tries request it) = codes "try " ++ (decimal request ++ (codes " " ++ (tried_name it ++ codes "\n")))
answer_text (Finishes request) = line_text (lines.Finishes request)
answer_text (NotRunning request) = line_text (lines.NotRunning request)
answer_text (Spends request) = codes "spent " ++ (decimal request ++ codes "\n")
answer_text (SpendsNothing request) = codes "spent " ++ (decimal request ++ codes " not running\n")
answer_text (Cancels request decision) = line_text (lines.Cancels request decision)
answer_text (Limits limit old) = line_text (lines.Limits limit old)
answer_text ClosesFirst = line_text lines.ClosesFirst
answer_text ClosesAlready = line_text lines.ClosesAlready
answer_text (Dispatches request queue) = line_text (lines.Dispatches request queue)
answer_text (Strikes request queue) = line_text (lines.Strikes request queue)
answer_text (Queue given) = queue_text given
answer_text End = codes "end\n"

-- the first line, by what becomes of an arrival that does not fit; the protocol is the first version of itself
abbrev pub opened_text : (slots : ℕ) → Config → Response → List ℕ
opened_text slots config responses.Queue =
    codes "serve 1 slots " ++ (decimal slots ++ (codes " limit " ++ (decimal config.limit
    ++ (codes " queues " ++ (decimal config.queues ++ (codes " hand " ++ (decimal config.hand_size
    ++ (codes " length " ++ (decimal config.queue_length_limit ++ codes " queue\n")))))))))
opened_text slots config responses.Reject =
    codes "serve 1 slots " ++ (decimal slots ++ (codes " limit " ++ (decimal config.limit ++ codes " reject\n")))

-- the first line
abbrev pub first_text : FirstLine → List ℕ
first_text line = opened_text line.slots line.config line.config.limit_response
