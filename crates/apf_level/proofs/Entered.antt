-- A request that did not arrive has no Enter.
use Rattle.std.proofs.Common.{◌≡◌, ℕ, ◌<◌, zero, suc, Bool, true, false, List, [], ◌∷◌, length, refl, arith}
use Rattle.std.specs.Prelude.{Contains, slice_index_or}
use Rattle.apf_history.specs.declared.events.Event.{Event}
use Rattle.apf_history.specs.declared.events.Event.TheVariants.{Enter, Full, Dispatch, Strike}
use Rattle.apf_model.specs.History.{has_arrived}

arrived_at : (h : List Event) (r q k : ℕ) → k < length h → slice_index_or h k (Enter r q) ≡ Enter r q → has_arrived h r ≡ true
arrived_at [] r q k low at = absurd (omega arith)
arrived_at (Enter j p ∷ h) r q zero low at = grind arith
arrived_at (Full j p ∷ h) r q zero low at = grind arith
arrived_at (Dispatch j p ∷ h) r q zero low at = grind arith
arrived_at (Strike j p ∷ h) r q zero low at = grind arith
arrived_at (Enter j p ∷ h) r q (suc k) low at = let before = arrived_at h r q k (omega arith) at in grind arith
arrived_at (Full j p ∷ h) r q (suc k) low at = let before = arrived_at h r q k (omega arith) at in grind arith
arrived_at (Dispatch j p ∷ h) r q (suc k) low at = arrived_at h r q k (omega arith) at
arrived_at (Strike j p ∷ h) r q (suc k) low at = arrived_at h r q k (omega arith) at

is_false : (b : Bool) → (b ≡ true → ⊥) → b ≡ false
is_false true never = absurd (never refl)
is_false false never = refl

-- a request that did not arrive has no Enter, so that a flag which says that it has one is not set
pub never : (h : List Event) (r : ℕ) (entered : Bool) → has_arrived h r ≡ false → (entered ≡ true → ((q : ℕ) × Contains h (Enter r q))) → entered ≡ false
never h r entered away then = is_false entered (λ is. let has = then is in absurd (let yes = arrived_at h r has.0 has.1.0 has.1.1 has.1.2 in grind (arith, away)))
