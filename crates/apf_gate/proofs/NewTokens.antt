-- The lists of new tokens.
use Rattle.std.proofs.Common.{◌≡◌, ℕ, zero, suc, ◌+◌, ◌<◌, List, [], ◌∷◌, ◌++◌, length, Some, refl, sym, ◌∙◌, subst, arith}
use Rattle.std.specs.Prelude.{slice_get, All}
use Rattle.std.proofs.lemmas.Option.{get_or_from_slice_get}
use Rattle.apf_gate.specs.declared.record.State.TheVariants.{Fresh}
use mathlib.Core.Logic.{dite}
use native.Mathlib.Decide.{ℕ_discrete}
use Rattle.apf_gate.specs.Records.{new_pass, new_station}
use Rattle.apf_gate.specs.Tokens.{GateId, PassToken, StationToken, pass_gate, station_gate}
use Rattle.apf_gate.specs.Opens.{new_passes, new_stations}
use Rattle.apf_gate.proofs.Gathering.{snoc_front, snoc_last}

length_snoc : {A : Type 0} (xs : List A) (x : A) → length (xs ++ x ∷ []) ≡ length xs + 1
length_snoc [] x = refl
length_snoc (y ∷ xs) x = let h = length_snoc xs x in omega arith

pub length_passes : (g : GateId) (n : ℕ) → length (new_passes g n) ≡ n
length_passes g zero = refl
length_passes g (suc n) = let h = length_passes g n in let k = length_snoc (new_passes g n) (record { table = g.table; pass = new_pass g.shape n }) in omega arith

pub length_stations : (g : GateId) (n : ℕ) → length (new_stations g n) ≡ n
length_stations g zero = refl
length_stations g (suc n) = let h = length_stations g n in let k = length_snoc (new_stations g n) (record { table = g.table; station = new_station g.shape n }) in omega arith

abbrev new_pass_token : GateId → ℕ → PassToken
new_pass_token g r = record { table = g.table; pass = new_pass g.shape r }

abbrev new_station_token : GateId → ℕ → StationToken
new_station_token g k = record { table = g.table; station = new_station g.shape k }

pub pass_at : (g : GateId) (n r : ℕ) → r < n → slice_get (new_passes g n) r ≡ Some (record { table = g.table; pass = new_pass g.shape r })
pass_at g zero r l = absurd (omega arith)
pass_at g (suc n) r l = dite (ℕ_discrete r n)
    (λ e. subst (λ k. slice_get (new_passes g n ++ new_pass_token g n ∷ []) k ≡ Some (new_pass_token g k)) (sym e)
    (subst (λ k. slice_get (new_passes g n ++ new_pass_token g n ∷ []) k ≡ Some (new_pass_token g n)) (length_passes g n) (snoc_last (new_passes g n) (new_pass_token g n))))
    (λ ne. let below : r < n = omega arith in snoc_front (new_passes g n) (new_pass_token g n) r (subst (λ k. r < k) (sym (length_passes g n)) below) ∙ pass_at g n r below)

pub station_at : (g : GateId) (n r : ℕ) → r < n → slice_get (new_stations g n) r ≡ Some (record { table = g.table; station = new_station g.shape r })
station_at g zero r l = absurd (omega arith)
station_at g (suc n) r l = dite (ℕ_discrete r n)
    (λ e. subst (λ k. slice_get (new_stations g n ++ new_station_token g n ∷ []) k ≡ Some (new_station_token g k)) (sym e)
    (subst (λ k. slice_get (new_stations g n ++ new_station_token g n ∷ []) k ≡ Some (new_station_token g n)) (length_stations g n) (snoc_last (new_stations g n) (new_station_token g n))))
    (λ ne. let below : r < n = omega arith in snoc_front (new_stations g n) (new_station_token g n) r (subst (λ k. r < k) (sym (length_stations g n)) below) ∙ station_at g n r below)

pub all_passes : (g : GateId) (n : ℕ) → All (λ (t : PassToken). (pass_gate t ≡ g) × (t.pass.state ≡ Fresh)) (new_passes g n)
all_passes g n = λ k d l. subst (λ (t : PassToken). (pass_gate t ≡ g) × (t.pass.state ≡ Fresh)) (sym (get_or_from_slice_get (new_passes g n) k (new_pass_token g k) d (pass_at g n k (subst (λ m. k < m) (length_passes g n) l)))) (refl, refl)

pub all_stations : (g : GateId) (n : ℕ) → All (λ (t : StationToken). station_gate t ≡ g) (new_stations g n)
all_stations g n = λ k d l. subst (λ (t : StationToken). station_gate t ≡ g) (sym (get_or_from_slice_get (new_stations g n) k (new_station_token g k) d (station_at g n k (subst (λ m. k < m) (length_stations g n) l)))) refl
