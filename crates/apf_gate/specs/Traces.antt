-- The steps of all tokens, in order, each with the token that made it.
use Rattle.std.specs.Prelude.{◌≡◌, ◌≢◌, ◌⊎◌, ℕ, ◌<◌, ◌≤◌, true, List, [], ◌∷◌, ◌++◌, length, Option, Some, None}
use Rattle.apf_words.specs.Limits.{max_limit}
use Rattle.apf_words.specs.declared.decision.Decision.TheVariants.{Cancelled}
use Rattle.apf_model.specs.declared.moves.Move.{Move}
use Rattle.apf_model.specs.declared.moves.Move.TheVariants.{Take, Enter, Grant, Leave, Decide, Release, Close, SetLimit, See}
use Rattle.apf_model.specs.World.{Opening, World, put}
use Rattle.apf_model.specs.Schedule.{world}
use Rattle.apf_gate.specs.declared.record.Shape.{Shape}
use Rattle.apf_gate.specs.declared.record.Actor.{Actor}
use Rattle.apf_gate.specs.declared.record.Actor.TheVariants.{OfPass, OfDesk, OfStation}
use Rattle.apf_gate.specs.declared.record.Asked.{Asked}
use Rattle.apf_gate.specs.declared.record.Entry.{Entry}

-- what the model opens a level of this shape with
abbrev pub opening_of : Shape → Opening
opening_of shape = record { limit = shape.limit; response = shape.response; widths = shape.widths }

-- one step of a token: a move of the model, or a load, which is none
abbrev pub entry : Actor → Option Move → Entry
entry who step = record { by = who; step = step; ask = None }

-- a Pass begins the request r, which asks for this
abbrev pub renewal : ℕ → Asked → Entry
renewal r ask = record { by = OfPass r; step = None; ask = Some ask }

abbrev pub asks_nothing : ℕ → Option Asked
asks_nothing r = None

-- what a step says that the request r asks for
abbrev pub ask_by : Actor → Option Asked → ℕ → Option Asked
ask_by (OfPass j) ask r = put asks_nothing j ask r
ask_by OfDesk ask r = None
ask_by (OfStation k) ask r = None

abbrev pub first_ask : Option Asked → Option Asked → Option Asked
first_ask None latest = latest
first_ask (Some ask) latest = Some ask

-- what each request asks for, by the steps of a trace. What was said first stands
abbrev pub asked_in : List Entry → ℕ → Option Asked
asked_in [] r = None
asked_in (newest ∷ trace) r = first_ask (asked_in trace r) (ask_by newest.by newest.ask r)

abbrev pub move_before : Option Move → List Move → List Move
move_before None moves = moves
move_before (Some move) moves = move ∷ moves

-- the schedule of a trace: its moves
abbrev pub moves : List Entry → List Move
moves [] = []
moves (newest ∷ trace) = move_before newest.step (moves trace)

-- the world of a gate of this shape after the steps of a trace
abbrev pub world_of : Shape → List Entry → World
world_of shape trace = world (opening_of shape) (moves trace)

-- none of these steps is the token's own
abbrev pub NoneOf : Actor → List Entry → Type 0
NoneOf who [] = Unit {0}
NoneOf who (newest ∷ trace) = (newest.by ≢ who) × NoneOf who trace

-- the trace goes on from what the token saw, by steps of others
abbrev pub GoesOn : List Entry → Actor → List Entry → Type 0
GoesOn trace who saw = (later : List Entry) × (later ++ saw ≡ trace) × NoneOf who later

-- the token made this move
abbrev pub Made : List Entry → Actor → Move → Type 0
Made [] who move = ⊥
Made (newest ∷ trace) who move = ((newest.by ≡ who) × (newest.step ≡ Some move)) ⊎ Made trace who move

-- the token closed a level that was open
abbrev pub MadeFirstClose : Shape → List Entry → Actor → Type 0
MadeFirstClose shape [] who = ⊥
MadeFirstClose shape (newest ∷ trace) who = ((newest.by ≡ who) × (newest.step ≡ Some Close) × ((world_of shape trace).is_open ≡ true)) ⊎ MadeFirstClose shape trace who

-- the kinds of move that each token makes: a Pass takes its seats, decides, releases, and may see no room
abbrev pub IsOfPass : ℕ → Option Move → Type 0
IsOfPass r None = Unit {0}
IsOfPass r (Some (Take j)) = j ≡ r
IsOfPass r (Some (Decide j decision)) = (j ≡ r) × (decision ≢ Cancelled)
IsOfPass r (Some (Release j)) = j ≡ r
IsOfPass r (Some (See j)) = j ≡ r
IsOfPass r (Some (Enter j)) = ⊥
IsOfPass r (Some (Grant j)) = ⊥
IsOfPass r (Some (Leave j)) = ⊥
IsOfPass r (Some Close) = ⊥
IsOfPass r (Some (SetLimit n)) = ⊥

-- the Desk enters, grants, lets leave, decides and releases
abbrev pub IsOfDesk : Option Move → Type 0
IsOfDesk None = Unit {0}
IsOfDesk (Some (Enter r)) = Unit {0}
IsOfDesk (Some (Grant r)) = Unit {0}
IsOfDesk (Some (Leave r)) = Unit {0}
IsOfDesk (Some (Decide r decision)) = decision ≢ Cancelled
IsOfDesk (Some (Release r)) = Unit {0}
IsOfDesk (Some (Take r)) = ⊥
IsOfDesk (Some (See r)) = ⊥
IsOfDesk (Some Close) = ⊥
IsOfDesk (Some (SetLimit n)) = ⊥

-- a Station cancels, closes and sets the limit
abbrev pub IsOfStation : Option Move → Type 0
IsOfStation None = Unit {0}
IsOfStation (Some (Decide r decision)) = decision ≡ Cancelled
IsOfStation (Some Close) = Unit {0}
IsOfStation (Some (SetLimit n)) = (1 ≤ n) × (n ≤ max_limit)
IsOfStation (Some (Take r)) = ⊥
IsOfStation (Some (Enter r)) = ⊥
IsOfStation (Some (Grant r)) = ⊥
IsOfStation (Some (Leave r)) = ⊥
IsOfStation (Some (Release r)) = ⊥
IsOfStation (Some (See r)) = ⊥

-- the token is one of this gate
abbrev pub IsToken : Shape → Actor → Type 0
IsToken shape (OfPass r) = r < length shape.widths
IsToken shape OfDesk = Unit {0}
IsToken shape (OfStation k) = k < shape.stations

-- a token makes such steps
abbrev pub MayMake : Actor → Option Move → Type 0
MayMake (OfPass r) step = IsOfPass r step
MayMake OfDesk step = IsOfDesk step
MayMake (OfStation k) step = IsOfStation step

-- each step was made by a token of this gate that makes such steps
abbrev pub AreMade : Shape → List Entry → Type 0
AreMade shape [] = Unit {0}
AreMade shape (newest ∷ trace) = IsToken shape newest.by × MayMake newest.by newest.step × AreMade shape trace
