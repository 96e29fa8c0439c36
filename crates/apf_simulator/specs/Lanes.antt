-- A level that the requests of a trace come to, with what they came to.
use Rattle.std.specs.Prelude.{◌≡◌, ℕ, Bool, true, false, List, [], ◌∷◌, ◌++◌, length, map, max, min, replicate, Option, Some, None}
use Rattle.std.specs.List.{AllByRecursion}
use Rattle.apf_model.specs.declared.config.Config.{Config}
use Rattle.apf_charges.specs.Charging.{opening_charges}
use Rattle.apf_charges.specs.declared.charges.ChargedBy.{ChargedBy}
use Rattle.apf_charges.specs.declared.charges.ChargedBy.TheVariants.{Time, Seats}
use Rattle.apf_local.specs.Openings.{IsOpened}
use Rattle.apf_times.specs.declared.window.Arrival.{Arrival}
use Rattle.apf_traces.specs.declared.request.TraceRequest.{TraceRequest}
use Rattle.apf_stream.specs.declared.asked.Asked.{Asked}
use Rattle.apf_stream.specs.declared.deed.NewLimit.{NewLimit}
use Rattle.apf_stream.specs.declared.ended.Ended.{Ended}
use Rattle.apf_stream.specs.Runs.{AreOf, HasRunUnder}
use Rattle.apf_stream.specs.States.{IsAsked, State, settling_by}
use Rattle.apf_stream.specs.Ties.{AreTied}
use Rattle.apf_rows.specs.Accounts.{IsInReach}
use Rattle.apf_rows.specs.Rows.{AreRows, HaveMet, IsMet, RowsView}

-- how many requests may be there at once, at most
abbrev pub most_slots : ℕ
most_slots = 10000

-- how many slots a level has for a trace: the most, but no more than there are requests in all, if that is known, and one at least
abbrev pub slots_for : Option ℕ → ℕ
slots_for None = most_slots
slots_for (Some requests) = max (min requests most_slots) 1

-- what the request of a line asks for
abbrev pub asked_by : Arrival TraceRequest → Asked
asked_by x = record {
  line = x.place.line;
  times = record { arrives_at = x.item.arrives_at; runs_for = x.item.runs_for };
  width = x.item.width;
  hash = x.item.hash;
  cost = x.item.cost;
}

-- what requests are charged where nothing is said: their seats if a line says what its request is charged, and else time
abbrev pub usual_charge : Bool → ChargedBy
usual_charge true = Seats
usual_charge false = Time

-- a level of this config and a calendar of this many slots, to which nobody came
pub record IsOpening (config : Config) (slots patience : ℕ) (by : ChargedBy) (s : State) : Type 0 where
  pub level : IsOpened config slots (settling_by by) s.level
  pub slots_are : s.slots ≡ record { time = 0; patience = patience; slots = replicate slots None }
  pub charges : s.charges ≡ opening_charges by

-- What contracts see of a lane.
pub record LaneView : Type 0 where
  pub state : State
  pub rows : RowsView
  -- who was told by the last call
  pub ends : List Ended
  -- how many came
  pub came : ℕ

-- From a level to which nobody came, these came, these limits were set, and these were told. Each was counted in its row.
pub record IsLaneUnder (under : List NewLimit) (opening : State) (came : List (Arrival TraceRequest)) (told : List Ended) (v : LaneView) : Type 0 where
  pub tied : AreTied opening
  pub nobody : AreOf [] opening
  pub run : HasRunUnder under (map asked_by came) opening [] v.state told
  pub still : AreTied v.state
  pub asked : AllByRecursion IsAsked (map asked_by came)
  pub met : HaveMet came v.rows
  pub are : AreRows told v.rows
  pub number : v.came ≡ length came

-- the same, and the limit stayed
abbrev pub IsLane : State → List (Arrival TraceRequest) → List Ended → LaneView → Type 0
IsLane = IsLaneUnder []

-- some came, some limits were set, and some were told
pub record IsLived (v : LaneView) : Type 0 where
  pub under : List NewLimit
  pub opening : State
  pub came : List (Arrival TraceRequest)
  pub told : List Ended
  pub lane : IsLaneUnder under opening came told v

-- whatever it was of before: these came more, some were told more, and the limit stayed
abbrev pub GoesOn : List (Arrival TraceRequest) → LaneView → LaneView → Type 0
GoesOn more v v' = (under : List NewLimit) (opening : State) (came : List (Arrival TraceRequest)) (told : List Ended) → IsLaneUnder under opening came told v
    → IsLaneUnder under opening (came ++ more) (told ++ v'.ends) v'

-- whatever it was of before: this limit was set, and some were told more
abbrev pub GoesOnUnder : NewLimit → LaneView → LaneView → Type 0
GoesOnUnder new v v' = (under : List NewLimit) (opening : State) (came : List (Arrival TraceRequest)) (told : List Ended) → IsLaneUnder under opening came told v
    → IsLaneUnder (under ++ new ∷ []) opening came (told ++ v'.ends) v'

-- a request that was told can be counted: it is in reach, and its flow came
pub record IsCounted (v : RowsView) (e : Ended) : Type 0 where
  pub reach : IsInReach e
  pub met : IsMet v e.hold.asked.hash

-- those that came are met, and these were told last
pub record IsTold (s : State) (v : RowsView) (ends : List Ended) : Type 0 where
  pub under : List NewLimit
  pub opening : State
  pub came : List (Arrival TraceRequest)
  pub told : List Ended
  pub tied : AreTied opening
  pub nobody : AreOf [] opening
  pub run : HasRunUnder under (map asked_by came) opening [] s (told ++ ends)
  pub asked : AllByRecursion IsAsked (map asked_by came)
  pub met : HaveMet came v
