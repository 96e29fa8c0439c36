-- The limit of a gate whose Stations set none.
use Rattle.std.proofs.Common.{◌≡◌, ◌∙◌, ℕ, ◌<◌, List, [], ◌∷◌, All, Option, Some, None, refl, sym, ap, subst, inl, inr}
use Rattle.std.specs.Prelude.{Any, slice_index_or}
use Rattle.apf_model.specs.declared.moves.Move.{Move}
use Rattle.apf_model.specs.declared.moves.Move.TheVariants.{Take, Enter, Grant, Leave, Decide, Release, Close, SetLimit, See}
use Rattle.apf_gate.specs.declared.record.Shape.{Shape}
use Rattle.apf_gate.specs.declared.record.Actor.{Actor}
use Rattle.apf_gate.specs.declared.record.Actor.TheVariants.{OfPass, OfDesk, OfStation}
use Rattle.apf_gate.specs.declared.record.Entry.{Entry}
use Rattle.apf_gate.specs.Traces.{entry, world_of, GoesOn, Made, IsToken, MayMake, AreMade}
use Rattle.apf_gate.specs.Tokens.{GateId, StationToken}
use Rattle.apf_files.specs.declared.requests.Request.{Request}
use Rattle.apf_run.specs.Plans.{KeepsTo}
use Rattle.apf_run.proofs.Makers.{made_own}

-- a step leaves the limit, unless it is a Station's that sets one
limit_step :
    (shape : Shape) (by : Actor) (step : Option Move) (trace : List Entry) → IsToken shape by → MayMake by step
    → ((k n : ℕ) → k < shape.stations → by ≡ OfStation k → step ≡ Some (SetLimit n) → ⊥)
    → (world_of shape trace).limit ≡ shape.limit → (world_of shape (entry by step ∷ trace)).limit ≡ shape.limit
limit_step shape by None trace token may none is = is
limit_step shape by (Some (Take r)) trace token may none is = is
limit_step shape by (Some (Enter r)) trace token may none is = is
limit_step shape by (Some (Grant r)) trace token may none is = is
limit_step shape by (Some (Leave r)) trace token may none is = is
limit_step shape by (Some (Decide r d)) trace token may none is = is
limit_step shape by (Some (Release r)) trace token may none is = is
limit_step shape by (Some Close) trace token may none is = is
limit_step shape by (Some (See r)) trace token may none is = is
limit_step shape (OfPass r) (Some (SetLimit n)) trace token may none is = absurd may
limit_step shape OfDesk (Some (SetLimit n)) trace token may none is = absurd may
limit_step shape (OfStation k) (Some (SetLimit n)) trace token may none is = absurd (none k n token refl refl)

-- the limit is that of the opening, where no Station set one
limit_stays : (shape : Shape) (trace : List Entry) → AreMade shape trace → ((k n : ℕ) → k < shape.stations → ¬ Made trace (OfStation k) (SetLimit n)) → (world_of shape trace).limit ≡ shape.limit
limit_stays shape [] made none = refl
limit_stays shape (e ∷ trace) made none =
    limit_step shape e.by e.step trace made.0 made.1 (λ k n low by is. none k n low (inl (by, is)))
    (limit_stays shape trace made.2 (λ k n low later. none k n low (inr later)))

-- what a token made in a trace that goes on from its own, it made in its own
made_within : (trace saw : List Entry) (who : Actor) (m : Move) → GoesOn trace who saw → Made trace who m → Made saw who m
made_within trace saw who m on made = made_own on.0 saw who m on.2 (subst (λ (t : List Entry). Made t who m) (sym on.1) made)

-- the limit is that of the opening, where each Station was handed in, and set none
pub limit_kept : (gate : GateId) (may : ℕ → Type 0) (requests : List Request) (stations : List StationToken) (trace : List Entry) → AreMade gate.shape trace
    → All (KeepsTo gate may requests) stations → ((j : ℕ) → j < gate.shape.stations → Any (λ (s : StationToken). s.station.number ≡ j) stations)
    → All (λ (s : StationToken). GoesOn trace (OfStation s.station.number) s.station.knows.trace) stations → (world_of gate.shape trace).limit ≡ gate.shape.limit
limit_kept gate may requests stations trace made faithful each on = limit_stays gate.shape trace made sets_none
  where
    sets_none : (j n : ℕ) → j < gate.shape.stations → ¬ Made trace (OfStation j) (SetLimit n)
    sets_none j n low by =
        let any = each j low in
        let s : StationToken = slice_index_or stations any.0 any.1 in
        let number : s.station.number ≡ j = ap (λ (t : StationToken). t.station.number) any.3 ∙ any.4 in
        (faithful any.0 any.1 any.2).limits n
        (made_within trace s.station.knows.trace (OfStation s.station.number) (SetLimit n) (on any.0 any.1 any.2) (subst (λ (i : ℕ). Made trace (OfStation i) (SetLimit n)) (sym number) by))
