-- The requests of a trace run on one lane or on two.
use Rattle.std.specs.Prelude.{◌≡◌, ℕ, ◌≤◌, List, ◌++◌, Option, Some, None}
use Rattle.std.specs.Option.{option_to_list}
use Rattle.std.specs.Io.KnownBytes.{Consumes, IsAtEnd}
use Rattle.apf_calendar.specs.Guests.{NothingBy}
use Rattle.apf_times.specs.Limits.{max_wait}
use Rattle.apf_times.specs.declared.window.Arrival.{Arrival}
use Rattle.apf_times.specs.declared.window.Place.{Place}
use Rattle.apf_traces.specs.TraceValue.{IsRequestInRange}
use Rattle.apf_traces.specs.declared.request.TraceRequest.{TraceRequest}
use Rattle.apf_trace_reader.specs.Reading.{AreAll, HasRead}
use Rattle.apf_trace_reader.specs.Views.{ReaderView}
use Rattle.apf_simulator.specs.Lanes.{GoesOn, IsLived, LaneView}
use Rattle.apf_simulator.specs.Turns.{Turn, AreBothTurns, came_by}

-- nothing later was carried out
abbrev pub AreInTime : ℕ → LaneView → Option LaneView → Type 0
AreInTime at one None = one.state.slots.time ≤ at
AreInTime at one (Some other) = (one.state.slots.time ≤ at) × (other.state.slots.time ≤ at)

abbrev pub AreLivedBoth : LaneView → Option LaneView → Type 0
AreLivedBoth one None = IsLived one
AreLivedBoth one (Some other) = IsLived one × IsLived other

-- these came more, on each lane
abbrev pub GoOn : List (Arrival TraceRequest) → LaneView → Option LaneView → LaneView → Option LaneView → Type 0
GoOn more one None one' None = GoesOn more one one'
GoOn more one None one' (Some other') = ⊥
GoOn more one (Some other) one' None = ⊥
GoOn more one (Some other) one' (Some other') = GoesOn more one one' × GoesOn more other other'

-- nothing is due any more, and each that came was told
pub record IsOver (v : LaneView) : Type 0 where
  pub over : NothingBy v.state.slots max_wait
  pub each : v.rows.all.sums.requests ≡ v.came

abbrev pub AreOver : LaneView → Option LaneView → Type 0
AreOver one None = IsOver one
AreOver one (Some other) = IsOver one × IsOver other

-- nobody came yet, and it is time 0
abbrev pub AreNew : LaneView → Option LaneView → Type 0
AreNew one other = AreInTime 0 one other

-- what was handed out last, and comes next: a request of a trace, or none
abbrev pub IsHandedOut : Option (Arrival TraceRequest) → Option Place → Type 0
IsHandedOut None last = Unit {0}
IsHandedOut (Some x) last = IsRequestInRange x.item × (x.place.arrives_at ≡ x.item.arrives_at) × (last ≡ Some x.place)

-- what comes next is no earlier than anything that was carried out
abbrev pub IsAhead : Option (Arrival TraceRequest) → LaneView → Option LaneView → Type 0
IsAhead None one other = Unit {0}
IsAhead (Some x) one other = AreInTime x.item.arrives_at one other

-- what the input gave so far: who came in these turns was handed out, and who comes next; nobody does once all were
pub record HasFed (was left : Option (List ℕ)) (turns : List Turn) (next : Option (Arrival TraceRequest)) (v : ReaderView) : Type 0 where
  pub bytes : List ℕ
  pub given : Consumes was left bytes
  pub read : HasRead bytes (came_by turns ++ option_to_list next) left v
  pub all : next ≡ None → AreAll v.window.size bytes (came_by turns) × IsAtEnd left

-- by what came so far, in turns that were heard, the lanes went on
pub record HaveGone (was left : Option (List ℕ)) (next : Option (Arrival TraceRequest)) (v : ReaderView) (one : LaneView) (other : Option LaneView) (one' : LaneView) (other' : Option LaneView) (heard : List Turn → Type 0) : Type 0 where
  pub turns : List Turn
  pub fed : HasFed was left turns next v
  pub lanes : AreBothTurns turns one other one' other'
  pub heard_them : heard turns
