-- Lanes that go on by turns.
use Rattle.std.proofs.Common.{◌≡◌, List, [], ◌∷◌, ◌++◌, Option, Some, None, refl, sym, ap, ◌∙◌, subst, append_assoc}
use Rattle.std.specs.Option.{option_to_list}
use Rattle.std.proofs.lemmas.Grind.{flat_map-append}
use Rattle.std.proofs.lemmas.List.{append-nil}
use Rattle.apf_times.specs.declared.window.Arrival.{Arrival}
use Rattle.apf_traces.specs.declared.request.TraceRequest.{TraceRequest}
use Rattle.apf_stream.specs.declared.ended.Ended.{Ended}
use Rattle.apf_stream.specs.States.{State}
use Rattle.apf_simulator.specs.Feeds.{GoOn}
use Rattle.apf_simulator.specs.Lanes.{GoesOn, IsLane, LaneView}
use Rattle.apf_simulator.specs.Turns.{AreBothTurns, AreTurns, Begins, HasTurns, Turn, came_by, came_in, ends_in, first_of, told_by}

abbrev pub Came : Type 0
Came = Arrival TraceRequest

-- who came, with one turn more
pub came_then : (turns : List Turn) (t : Turn) → came_by (turns ++ t ∷ []) ≡ came_by turns ++ came_in t
came_then turns t = flat_map-append came_in turns (t ∷ []) ∙ ap (λ (l : List Came). came_by turns ++ l) (append-nil (came_in t))

-- who came first stays so
pub first_alone : (first : Option Came) → Begins first [] first
first_alone None = refl
first_alone (Some x) = refl

first_stays : (came : List Came) (x : Came) (more : List Came) → first_of ((came ++ x ∷ []) ++ more) ≡ first_of (came ++ x ∷ [])
first_stays [] x more = refl
first_stays (y ∷ came) x more = refl

pub begins_on : (first : Option Came) (turns : List Turn) (x : Came) (ends : List Ended) (next : Option Came) → Begins first turns (Some x) → Begins first (turns ++ record { came = Some x; ends = ends } ∷ []) next
begins_on first turns x ends next is =
    ap (λ (l : List Came). first_of (l ++ option_to_list next)) (came_then turns (record { came = Some x; ends = ends })) ∙ (first_stays (came_by turns) x (option_to_list next) ∙ is)

pub begins_last : (first : Option Came) (turns : List Turn) (ends : List Ended) → Begins first turns None → Begins first (turns ++ record { came = None; ends = ends } ∷ []) None
begins_last first turns ends is =
    ap (λ (l : List Came). first_of (l ++ [])) (came_then turns (record { came = None; ends = ends }) ∙ append-nil (came_by turns)) ∙ is

pub first_came : (first : Option Came) (turns : List Turn) → Begins first turns None → first ≡ first_of (came_by turns)
first_came first turns is = sym is ∙ ap first_of (append-nil (came_by turns))

pub told_then : (turns : List Turn) (t : Turn) → told_by (turns ++ t ∷ []) ≡ told_by turns ++ t.ends
told_then turns t = flat_map-append ends_in turns (t ∷ []) ∙ ap (λ (l : List Ended). told_by turns ++ l) (append-nil t.ends)

-- the turn of these, where one came or nobody
abbrev pub turn_of : Option Came → LaneView → Turn
turn_of came v = record { came = came; ends = v.ends }

turns_then : (turns : List Turn) (came : Option Came) (u v v' : LaneView) → AreTurns turns u v → GoesOn (option_to_list came) v v' → AreTurns (turns ++ turn_of came v' ∷ []) u v'
turns_then [] came u v v' is goes = (v', record { goes = subst (λ (w : LaneView). GoesOn (option_to_list came) w v') is goes; told = refl }, refl)
turns_then (t ∷ turns) came u v v' is goes = (is.0, is.1, turns_then turns came is.0 v v' is.2 goes)

other_then : (all : List Came) (came : Option Came) (u v v' : LaneView) → HasTurns all u v → GoesOn (option_to_list came) v v' → HasTurns (all ++ option_to_list came) u v'
other_then all came u v v' has goes =
    let t = turn_of came v' in
    (has.0 ++ t ∷ [], came_then has.0 t ∙ ap (λ (l : List Came). l ++ option_to_list came) has.1, turns_then has.0 came u v v' has.2 goes)

-- the lanes go on by one turn more
pub both_then : (turns : List Turn) (came : Option Came) (one : LaneView) (other : Option LaneView) (one' : LaneView) (other' : Option LaneView) (one'' : LaneView) (other'' : Option LaneView)
    → AreBothTurns turns one other one' other' → GoOn (option_to_list came) one' other' one'' other'' → AreBothTurns (turns ++ turn_of came one'' ∷ []) one other one'' other''
both_then turns came one None one' None one'' None are goes = turns_then turns came one one' one'' are goes
both_then turns came one None one' None one'' (Some o'') are goes = absurd goes
both_then turns came one None one' (Some o') one'' other'' are goes = absurd are
both_then turns came one (Some o) one' None one'' other'' are goes = absurd are
both_then turns came one (Some o) one' (Some o') one'' None are goes = absurd goes
both_then turns came one (Some o) one' (Some o') one'' (Some o'') are goes =
    let t = turn_of came one'' in
    (turns_then turns came one one' one'' are.0 goes.0, subst (λ (l : List Came). HasTurns l o o'') (sym (came_then turns t)) (other_then (came_by turns) came o o' o'' are.1 goes.1))

pub both_none : (one : LaneView) (other : Option LaneView) → AreBothTurns [] one other one other
both_none one None = refl
both_none one (Some o) = (refl, ([], refl, refl))

-- a lane that went on by these turns is of all who came in them, and told all that was told in them
pub lane_by : (turns : List Turn) (opening : State) (came : List Came) (told : List Ended) (u v : LaneView) → AreTurns turns u v → IsLane opening came told u → IsLane opening (came ++ came_by turns) (told ++ told_by turns) v
lane_by [] opening came told u v is lane =
    subst (λ (w : LaneView). IsLane opening (came ++ []) (told ++ []) w) (sym is)
    (subst (λ (l : List Came). IsLane opening l (told ++ []) u) (sym (append-nil came)) (subst (λ (l : List Ended). IsLane opening came l u) (sym (append-nil told)) lane))
lane_by (t ∷ turns) opening came told u v is lane =
    let m = is.0 in
    let next : IsLane opening (came ++ came_in t) (told ++ t.ends) m = subst (λ (l : List Ended). IsLane opening (came ++ came_in t) (told ++ l) m) is.1.told (is.1.goes [] opening came told lane) in
    let all = lane_by turns opening (came ++ came_in t) (told ++ t.ends) m v is.2 next in
    subst (λ (l : List Came). IsLane opening l (told ++ told_by (t ∷ turns)) v) (append_assoc came (came_in t) (came_by turns))
    (subst (λ (l : List Ended). IsLane opening ((came ++ came_in t) ++ came_by turns) l v) (append_assoc told t.ends (told_by turns)) all)
