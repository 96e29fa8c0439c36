-- What each queue was given, event by event, and how that is written.
use Rattle.std.specs.Prelude.{ℕ, ◌+◌, ◌-◌, ◌^◌, min, List, [], ◌∷◌, ◌++◌, length, map, nat_eq, nat_lt, if◌then◌else◌, codes, slice_get, slice_index_or, slice_set, Option, Some, None}
use Rattle.std.specs.List.{flat_map, range_with_len}
use Rattle.std.specs.Fmt.{decimal}
use Rattle.apf_history.specs.declared.events.Event.{Event}
use Rattle.apf_history.specs.declared.events.Event.TheVariants.{Enter, Full, Dispatch, Strike}
use Rattle.apf_files.specs.declared.requests.Request.{Request}
use Rattle.apf_run.specs.declared.services.Service.{Service}

-- the queue of this number, which was given nothing
abbrev pub given_none : ℕ → Service
given_none queue = record { queue = queue; entered = 0; service = 0 }

-- this many queues, in the order of their numbers, which were given nothing
abbrev pub none_given : ℕ → List Service
none_given queues = map given_none (range_with_len 0 queues)

-- a queue that was given nothing
abbrev pub no_service : Service
no_service = given_none 0

-- the seats that the request takes
abbrev pub width_of : Option Request → ℕ
width_of (Some request) = request.width
width_of None = 0

-- the queues, of which this one is changed so
abbrev pub changed : ℕ → (Service → Service) → List Service → List Service
changed queue change ss =
    if nat_lt queue (length ss) then slice_set ss queue (change (slice_index_or ss queue no_service)) else ss

-- as much as a number of 64 bits can tell
abbrev pub told : ℕ → ℕ
told n = min n (2 ^ 64 - 1)

-- each queue by one event more: a request that enters counts there, and the seats of one that is dispatched are added to its service
abbrev pub with_event : List Request → Event → List Service → List Service
with_event requests (Enter request queue) ss = changed queue (λ s. record s { entered = told (s.entered + 1) }) ss
with_event requests (Dispatch request queue) ss =
    changed queue (λ s. record s { service = told (s.service + width_of (slice_get requests request)) }) ss
with_event requests (Full request queue) ss = ss
with_event requests (Strike request queue) ss = ss

-- each queue by all these events more, of which the oldest stands first
abbrev pub after_events : List Request → List Event → List Service → List Service
after_events requests [] ss = ss
after_events requests (event ∷ log) ss = after_events requests log (with_event requests event ss)

-- the line of a queue, which is not written where nobody entered
abbrev pub service_text : Service → List ℕ
service_text s = if nat_eq s.entered 0 then [] else
    codes "queue " ++ decimal s.queue ++ codes " entered " ++ decimal s.entered ++ codes " service " ++ decimal s.service ++ codes "\n"

-- the lines, one after another
abbrev pub services_text : List Service → List ℕ
services_text services = flat_map service_text services
