-- What is drawn of each request.
use Rattle.std.specs.Prelude.{ℕ, ◌+◌, ◌-◌, ◌^◌, min, nat_le, if◌then◌else◌, List, [], ◌∷◌, slice_index, Option, None}
use Rattle.apf_words.specs.declared.decision.Decision.{Decision}
use Rattle.apf_words.specs.declared.decision.Decision.TheVariants.{Execute, QueueFull, Closed, Cancelled, ConcurrencyLimit}
use Rattle.apf_traces.specs.declared.request.TraceRequest.{TraceRequest}
use Rattle.apf_picture.specs.declared.scene.Outcome.{Outcome}
use Rattle.apf_picture.specs.declared.life.Fate.{Fate}
use Rattle.apf_picture.specs.declared.life.Fate.TheVariants.{Executed, Rejected, GaveUp}
use Rattle.apf_picture.specs.declared.life.Life.{Life}

-- how a request ended
abbrev pub fate_of : Decision → Fate
fate_of Execute = Executed
fate_of QueueFull = Rejected
fate_of Closed = Rejected
fate_of Cancelled = GaveUp
fate_of ConcurrencyLimit = Rejected

-- a later time, 2 ^ 64 - 1 at most
abbrev pub later_by : (time by : ℕ) → ℕ
later_by time by = min (time + by) (2 ^ 64 - 1)

-- its seats, if it was given some
abbrev pub seats_by : Decision → ℕ → ℕ
seats_by Execute width = width
seats_by QueueFull width = 0
seats_by Closed width = 0
seats_by Cancelled width = 0
seats_by ConcurrencyLimit width = 0

-- a request in this row: it waited from its arrival on, and then it had its seats for as long as it runs
abbrev pub life_by : TraceRequest → Outcome → ℕ → Life
life_by request outcome row = record {
  row = row;
  fate = fate_of outcome.decision;
  arrives = request.arrives_at;
  until = later_by request.arrives_at outcome.wait;
  ends = later_by (later_by request.arrives_at outcome.wait) request.runs_for;
  seats = seats_by outcome.decision request.width;
  wait = outcome.wait;
  queue = outcome.queue;
}

-- a time as the stretch of this length shows it: how long after its beginning, and of what is later a microsecond behind its end
abbrev pub seen_at : (from length time : ℕ) → ℕ
seen_at from length time = if nat_le (time - from) length then time - from else length + 1

-- the queue of a request that waited in the stretch, or after it
abbrev pub queue_seen : (from : ℕ) → Life → Option ℕ
queue_seen from life = if nat_le from life.until then life.queue else None

-- a request as the stretch shows it
abbrev pub life_seen : (from length : ℕ) → Life → Life
life_seen from length life = record {
  row = life.row;
  fate = life.fate;
  arrives = seen_at from length life.arrives;
  until = seen_at from length life.until;
  ends = seen_at from length life.ends;
  seats = life.seats;
  wait = life.wait;
  queue = queue_seen from life;
}

-- each request of a trace in the row of its flow
abbrev pub lives_by : List TraceRequest → List Outcome → (flows rows : List ℕ) → List Life
lives_by [] outcomes flows rows = []
lives_by (request ∷ requests) [] flows rows = []
lives_by (request ∷ requests) (outcome ∷ outcomes) [] rows = []
lives_by (request ∷ requests) (outcome ∷ outcomes) (flow ∷ flows) rows =
    life_by request outcome (slice_index rows flow) ∷ lives_by requests outcomes flows rows
