-- Nothing was carried out behind a time.
use Rattle.std.proofs.Common.{◌≡◌, ◌≤◌, ℕ, List, [], ◌∷◌, length, refl, arith}
use Rattle.apf_cluster.specs.Runs.{AreInTime}
use Rattle.apf_cluster.specs.declared.lanes.LevelLane.{LevelLane}
use Rattle.apf_cluster.proofs.Zips.{all_weaker}

-- nothing was carried out behind a later time either
pub later : (a b : ℕ) (lanes : List LevelLane) → a ≤ b → AreInTime a lanes → AreInTime b lanes
later a b lanes low is = all_weaker (λ (v : LevelLane). v.lane.state.slots.time ≤ a) (λ (v : LevelLane). v.lane.state.slots.time ≤ b) (λ v h. omega (arith, h, low)) lanes is

pub empty_by : {A : Type 0} (xs : List A) → length xs ≡ 0 → xs ≡ []
empty_by [] h = refl
empty_by (x ∷ xs) h = absurd (omega (arith, h))
