-- What is handed out next is no earlier than what was carried out.
use Rattle.std.proofs.Common.{◌≡◌, ℕ, ◌≤◌, false, List, ◌++◌, Option, Some, None, arith}
use Rattle.std.proofs.lemmas.Bool.Decides.{nat_tests}
use Rattle.apf_times.specs.declared.window.Arrival.{Arrival}
use Rattle.apf_times.specs.declared.window.Place.{Place}
use Rattle.apf_times.specs.Windows.{is_late, precedes}
use Rattle.apf_traces.specs.declared.request.TraceRequest.{TraceRequest}
use Rattle.apf_simulator.specs.Feeds.{AreInTime, AreLivedBoth, GoOn}
use Rattle.apf_simulator.specs.Lanes.{GoesOn, IsLived, LaneView}

after_place : (p q : Place) → precedes p q ≡ false → q.arrives_at ≤ p.arrives_at
after_place p q late = grind (arith, nat_tests)

later : (a b : ℕ) (one : LaneView) (other : Option LaneView) → a ≤ b → AreInTime a one other → AreInTime b one other
later a b one None low is = omega arith
later a b one (Some other) low is = (let x = is.0 in omega arith, let x = is.1 in omega arith)

pub in_turn : (was p : Place) (before at : ℕ) (one : LaneView) (other : Option LaneView) → was.arrives_at ≡ before → p.arrives_at ≡ at → is_late p (Some was) ≡ false → AreInTime before one other → AreInTime at one other
in_turn was p before at one other was_is is late in_time = let a = after_place p was late in later before at one other (omega arith) in_time

-- a lane that goes on is lived
lived_one : (more : List (Arrival TraceRequest)) (v v' : LaneView) → GoesOn more v v' → IsLived v → IsLived v'
lived_one more v v' goes l = record { under = l.under; opening = l.opening; came = l.came ++ more; told = l.told ++ v'.ends; lane = goes l.under l.opening l.came l.told l.lane }

pub lived : (more : List (Arrival TraceRequest)) (one : LaneView) (other : Option LaneView) (one' : LaneView) (other' : Option LaneView) → GoOn more one other one' other' → AreLivedBoth one other → AreLivedBoth one' other'
lived more one None one' None goes l = lived_one more one one' goes l
lived more one None one' (Some other') goes l = absurd goes
lived more one (Some other) one' None goes l = absurd goes
lived more one (Some other) one' (Some other') goes l = (lived_one more one one' goes.0 l.0, lived_one more other other' goes.1 l.1)
