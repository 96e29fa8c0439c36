-- Why no dispatch is lost: what may happen to the level word while requests wait.
use Rattle.std.specs.Prelude.{◌≡◌, ℕ, ◌<◌, ◌≤◌, List, [], ◌∷◌, ◌++◌, length, Option, Some, None}
use Rattle.apf_model.specs.declared.moves.Move.{Move}
use Rattle.apf_model.specs.declared.moves.Move.TheVariants.{Take, Enter, Grant, Leave, Decide, Release, Close, SetLimit, See}
use Rattle.apf_gate.specs.declared.record.Shape.{Shape}
use Rattle.apf_gate.specs.declared.record.Actor.TheVariants.{OfDesk}
use Rattle.apf_gate.specs.declared.record.Entry.{Entry}
use Rattle.apf_gate.specs.declared.record.Service.TheVariants.{Waiting}
use Rattle.apf_gate.specs.Records.{level_of, service}
use Rattle.apf_gate.specs.Traces.{world_of}
use Rattle.apf_gate.specs.Account.{Account, IsSound}

-- a step that may make room: seats are given back, or the limit is set
abbrev pub MayMakeRoom : Option Move → Type 0
MayMakeRoom None = ⊥
MayMakeRoom (Some (Take r)) = ⊥
MayMakeRoom (Some (Enter r)) = ⊥
MayMakeRoom (Some (Grant r)) = ⊥
MayMakeRoom (Some (Leave r)) = ⊥
MayMakeRoom (Some (Decide r d)) = ⊥
MayMakeRoom (Some (Release r)) = Unit {0}
MayMakeRoom (Some Close) = ⊥
MayMakeRoom (Some (SetLimit n)) = Unit {0}
MayMakeRoom (Some (See r)) = ⊥

-- none of these steps may make room
abbrev pub NoneMakesRoom : List Entry → Type 0
NoneMakesRoom [] = Unit {0}
NoneMakesRoom (newest ∷ later) = (¬ MayMakeRoom newest.step) × NoneMakesRoom later

-- of these steps the Desk's are loads
abbrev pub DeskLoads : List Entry → Type 0
DeskLoads [] = Unit {0}
DeskLoads (newest ∷ later) = (newest.by ≡ OfDesk → newest.step ≡ None) × DeskLoads later

-- each of these steps that may make room found requests waiting in the level word, where the trace was saw before them
abbrev pub EachFindsWaiters : Shape → List Entry → List Entry → Type 0
EachFindsWaiters shape [] saw = Unit {0}
EachFindsWaiters shape (newest ∷ later) saw = (MayMakeRoom newest.step → 1 ≤ (level_of shape.widths (world_of shape (later ++ saw))).waiters) × EachFindsWaiters shape later saw

-- what these steps leave of the level word as it was when the trace was saw
pub record IsOwed (shape : Shape) (later saw : List Entry) : Type 0 where
  -- where none of them makes room, seats and limit are still the same
  pub seats : NoneMakesRoom later → (level_of shape.widths (world_of shape (later ++ saw))).seats ≡ (level_of shape.widths (world_of shape saw)).seats
  pub limit : NoneMakesRoom later → (level_of shape.widths (world_of shape (later ++ saw))).limit ≡ (level_of shape.widths (world_of shape saw)).limit
  -- whoever made room was told that requests wait, and so owes a dispatch
  pub owes : EachFindsWaiters shape later saw

-- for each account under the rule in whose Desk's record a request waits: the steps since any place of the trace after which the Desk only loaded
abbrev pub NoDispatchIsLost : Type 0
NoDispatchIsLost = (shape : Shape) (account : Account) → IsSound shape account
    → (r : ℕ) → r < length shape.widths → service account.desk r ≡ Waiting
    → (later saw : List Entry) → later ++ saw ≡ account.trace → DeskLoads later → IsOwed shape later saw
