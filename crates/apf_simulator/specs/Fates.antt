-- The lines of what became of each request.
use Rattle.std.specs.Prelude.{ℕ, ◌-◌, List, ◌++◌, Option, Some, None, codes, decimal}
use Rattle.apf_words.specs.declared.decision.Decision.{Decision}
use Rattle.apf_words.specs.declared.decision.Decision.TheVariants.{Execute, QueueFull, Closed, Cancelled, ConcurrencyLimit}
use Rattle.apf_flows.specs.Names.{hash_text, names_text}
use Rattle.apf_times.specs.declared.window.Arrival.{Arrival}
use Rattle.apf_traces.specs.declared.request.TraceRequest.{TraceRequest}
use Rattle.apf_stream.specs.declared.ended.Ended.{Ended}

-- the word of a decision
abbrev pub decision_text : Decision → List ℕ
decision_text Execute = codes "execute"
decision_text QueueFull = codes "queue-full"
decision_text Closed = codes "closed"
decision_text Cancelled = codes "cancelled"
decision_text ConcurrencyLimit = codes "concurrency-limit"

-- a number, or a dash where there is none
abbrev pub number_or_dash : Option ℕ → List ℕ
number_or_dash None = codes "-"
number_or_dash (Some number) = decimal number

-- the number of a request, which is that of its line less one, its flow and its arrival
unfoldable pub asked_text : Arrival TraceRequest → List ℕ
asked_text x = decimal (x.place.line - 1) ++ codes " " ++ hash_text x.item.hash ++ codes " " ++ decimal x.item.arrives_at

-- the queue that it entered, and when it took its seats
unfoldable pub seated_text : Ended → List ℕ
seated_text e = codes " " ++ number_or_dash e.hold.queue ++ codes " " ++ number_or_dash e.since

-- when it ended, and how
unfoldable pub ended_text : Ended → List ℕ
ended_text e = codes " " ++ decimal e.over_at ++ codes " " ++ decision_text e.decision

-- the line of a request, up to its names
unfoldable pub course_text : Arrival TraceRequest → Ended → List ℕ
course_text x e = asked_text x ++ seated_text e ++ ended_text e

-- the line of a request
unfoldable pub fate_text : Arrival TraceRequest → Ended → List ℕ
fate_text x e = course_text x e ++ names_text x.item.names ++ codes "\n"

-- the names of the columns
unfoldable pub fates_header : List ℕ
fates_header = codes "request flow arrival queue start end decision schema distinguisher\n"
