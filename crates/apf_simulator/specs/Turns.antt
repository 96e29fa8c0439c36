-- What comes to a lane, turn by turn.
use Rattle.std.specs.Prelude.{◌≡◌, List, [], ◌∷◌, ◌++◌, Option, Some, None}
use Rattle.std.specs.List.{flat_map}
use Rattle.std.specs.Option.{option_to_list}
use Rattle.apf_times.specs.declared.window.Arrival.{Arrival}
use Rattle.apf_traces.specs.declared.request.TraceRequest.{TraceRequest}
use Rattle.apf_stream.specs.declared.ended.Ended.{Ended}
use Rattle.apf_simulator.specs.Lanes.{GoesOn, LaneView}

-- a request came, or nobody comes any more; and these were told by that
pub record Turn : Type 0 where
  pub came : Option (Arrival TraceRequest)
  pub ends : List Ended

abbrev pub came_in : Turn → List (Arrival TraceRequest)
came_in t = option_to_list t.came

abbrev pub ends_in : Turn → List Ended
ends_in t = t.ends

-- who came in these turns
abbrev pub came_by : List Turn → List (Arrival TraceRequest)
came_by turns = flat_map came_in turns

-- who was told in these turns
abbrev pub told_by : List Turn → List Ended
told_by turns = flat_map ends_in turns

-- the first of these, if there is one
abbrev pub first_of : List (Arrival TraceRequest) → Option (Arrival TraceRequest)
first_of [] = None
first_of (x ∷ came) = Some x

-- this came first in these turns, or comes next, if nobody came yet
abbrev pub Begins : Option (Arrival TraceRequest) → List Turn → Option (Arrival TraceRequest) → Type 0
Begins first turns next = first_of (came_by turns ++ option_to_list next) ≡ first

-- a lane goes on by a turn
pub record IsTurn (t : Turn) (v v' : LaneView) : Type 0 where
  pub goes : GoesOn (came_in t) v v'
  pub told : v'.ends ≡ t.ends

-- a lane goes on by these turns, the first first
abbrev pub AreTurns : List Turn → LaneView → LaneView → Type 0
AreTurns [] v v' = v' ≡ v
AreTurns (t ∷ turns) v v' = (between : LaneView) × IsTurn t v between × AreTurns turns between v'

-- the same came to another lane, in as many turns
abbrev pub HasTurns : List (Arrival TraceRequest) → LaneView → LaneView → Type 0
HasTurns came v v' = (turns : List Turn) × (came_by turns ≡ came) × AreTurns turns v v'

-- two lanes go on by the same that come, or one lane does: these are the turns of the first
abbrev pub AreBothTurns : List Turn → LaneView → Option LaneView → LaneView → Option LaneView → Type 0
AreBothTurns turns one None one' None = AreTurns turns one one'
AreBothTurns turns one None one' (Some other') = ⊥
AreBothTurns turns one (Some other) one' None = ⊥
AreBothTurns turns one (Some other) one' (Some other') = AreTurns turns one one' × HasTurns (came_by turns) other other'
