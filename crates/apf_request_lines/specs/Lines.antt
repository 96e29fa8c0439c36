-- What a line says of a request.
use Rattle.std.specs.Prelude.{◌≤◌, ◌<◌, ℕ, ◌+◌, ◌/◌, ◌==◌, List, length, drop, max, nat_le, if◌then◌else◌, Option, Some, None, Result, Ok, Err, option_map, option_and_then, IfSome, codes}
use Rattle.apf_request_lines.specs.declared.fault.RequestLineFault.{RequestLineFault}
use Rattle.apf_request_lines.specs.declared.fault.RequestLineFault.TheVariants.{NotOfKind, TooLong}
use Rattle.apf_request_lines.specs.declared.key.Key.{Key}
use Rattle.apf_request_lines.specs.declared.key.Key.TheVariants.{AuditId, Schema, Level, Seats, FinalSeats, ExecutionTime, AdditionalLatency}
use Rattle.apf_request_lines.specs.declared.line.RequestLine as code
use Rattle.apf_request_lines.specs.Faults.{◌>>=◌}
use Rattle.apf_request_lines.specs.Numbers.{number_of}
use Rattle.apf_request_lines.specs.Pairs.{Written, before, bracket, name_of, value_of}
use Rattle.apf_request_lines.specs.Texts.{said}
use Rattle.apf_request_lines.specs.Times.{begins, time_of}

-- what a line says of a request
pub record Request : Type 0 where
  pub audit_id : List ℕ
  pub schema : Option (List ℕ)
  pub level : Option (List ℕ)
  pub seats : ℕ
  -- in microseconds
  pub runs_for : Option ℕ

-- the pairs of a line of a request: what stands behind `"HTTP"`, which stands behind klog's own part of the line, up to the first closing bracket
abbrev pub pairs_in : List ℕ → Option (List ℕ)
pairs_in line =
    let behind = drop (before bracket line + 1) line in
    if begins behind (codes " \"HTTP\"") then Some (drop 7 behind) else None

-- what the kind of this key reads of its value, which has to be of the kind
abbrev pub of_kind : {A : Type 0} → Key → Option A → Result (Option A) RequestLineFault
of_kind key None = Err (NotOfKind key)
of_kind key (Some x) = Ok (Some x)

-- the same where the key is there, and nothing where it is not
abbrev pub if_there : {A : Type 0} → Key → (Written → Option A) → Option Written → Result (Option A) RequestLineFault
if_there key kind None = Ok None
if_there key kind (Some value) = of_kind key (kind value)

-- a text
unfoldable pub text_at : Key → List ℕ → Result (Option (List ℕ)) RequestLineFault
text_at key bytes = value_of (name_of key) bytes >>= if_there key said

-- a number of seats, 0 to 10,000
abbrev pub seats_said : Written → Option ℕ
seats_said value = option_and_then (λ n. if nat_le n 10000 then Some n else None) (number_of value.bytes)

unfoldable pub seats_at : Key → List ℕ → Result (Option ℕ) RequestLineFault
seats_at key bytes = value_of (name_of key) bytes >>= if_there key seats_said

-- a time in nanoseconds
abbrev pub time_said : Written → Option ℕ
time_said value = time_of value.bytes

unfoldable pub time_at : Key → List ℕ → Result (Option ℕ) RequestLineFault
time_at key bytes = value_of (name_of key) bytes >>= if_there key time_said

-- the number, or this one where there is none
abbrev pub or_else : ℕ → Option ℕ → ℕ
or_else other None = other
or_else other (Some n) = n

-- the seats that a request takes: the most that it has at once, and one at least
unfoldable pub seats_in : List ℕ → Result ℕ RequestLineFault
seats_in bytes = do
  first ← seats_at Seats bytes
  final ← seats_at FinalSeats bytes
  Ok (max (max (or_else 0 first) (or_else 0 final)) 1)

-- these two times together, in microseconds rounded down, up to 10,000 seconds
abbrev pub together : ℕ → Option ℕ → Result (Option ℕ) RequestLineFault
together execution latency =
    if nat_le ((execution + or_else 0 latency) / 1000) 10000000000 then Ok (Some ((execution + or_else 0 latency) / 1000)) else Err TooLong

-- how long it has its seats, where it says how long it was executed
abbrev pub with_latency : List ℕ → Option ℕ → Result (Option ℕ) RequestLineFault
with_latency bytes None = Ok None
with_latency bytes (Some execution) = time_at AdditionalLatency bytes >>= together execution

unfoldable pub run_in : List ℕ → Result (Option ℕ) RequestLineFault
run_in bytes = time_at ExecutionTime bytes >>= with_latency bytes

-- what these pairs say of the request of this id
unfoldable pub request_of : List ℕ → List ℕ → Result Request RequestLineFault
request_of bytes id = do
  schema ← text_at Schema bytes
  level ← text_at Level bytes
  seats ← seats_in bytes
  run ← run_in bytes
  Ok (record { audit_id = id; schema = schema; level = level; seats = seats; runs_for = run })

-- the same, where an id is there that has a byte
abbrev pub request_with : List ℕ → Option (List ℕ) → Result (Option Request) RequestLineFault
request_with bytes None = Ok None
request_with bytes (Some id) = if length id == 0 then Ok None else (request_of bytes id >>= λ request. Ok (Some request))

-- what these pairs say, if they have an id
abbrev pub request_in : Option (List ℕ) → Result (Option Request) RequestLineFault
request_in None = Ok None
request_in (Some bytes) = text_at AuditId bytes >>= request_with bytes

-- what a line says of a request, if it is the line of a request; or the first fault
unfoldable pub line_read : List ℕ → Result (Option Request) RequestLineFault
line_read line = request_in (pairs_in line)

-- the value of this key as it stands in a line: between its quotes, or up to the next blank
abbrev pub bytes_found : Result (Option Written) RequestLineFault → Option (List ℕ)
bytes_found (Ok value) = option_map (λ v. v.bytes) value
bytes_found (Err fault) = None

unfoldable pub written_at : Key → List ℕ → Option (List ℕ)
written_at key line = option_and_then (λ pairs. bytes_found (value_of (name_of key) pairs)) (pairs_in line)

-- the ranges of what a line says
pub record IsInRange (request : Request) : Type 0 where
  pub id : 0 < length request.audit_id
  pub one : 1 ≤ request.seats
  pub most : request.seats ≤ 10000
  pub run : IfSome request.runs_for (λ run. run ≤ 10000000000)

-- a line of the code, without where it lies in memory
abbrev pub request : code.RequestLine → Request
request line = record {
  audit_id = line.audit_id.items;
  schema = option_map (λ text. text.items) line.schema;
  level = option_map (λ text. text.items) line.level;
  seats = line.seats;
  runs_for = line.runs_for;
}
