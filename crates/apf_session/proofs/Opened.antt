-- A gate that was just opened: its numbers, its Stations, which made no step, and its slots, of which no request came.
use Rattle.std.proofs.Common.{◌≡◌, ℕ, zero, suc, ◌+◌, ◌≤◌, true, List, [], ◌∷◌, ◌++◌, length, refl, arith, All}
use Rattle.std.specs.Prelude.{slice_index_or}
use Rattle.std.proofs.lemmas.List.{length-append}
use Rattle.std.proofs.lemmas.List.Elements.{All-push}
use Rattle.apf_gate.specs.Tokens.{GateId}
use Rattle.apf_gate.specs.Gauges.{spread, all_widths, max_numbers}
use Rattle.apf_gate.specs.Records.{new_pass, new_station}
use Rattle.apf_gate.specs.Slots.{round_of, coded_width}
use Rattle.apf_gate.specs.Opens.{new_passes, new_stations}
use Rattle.apf_session.specs.Openings.{IsNew}
use Rattle.apf_session.specs.LifeOpenings.{IsFirstOf}

pub are_new : (gate : GateId) (n : ℕ) → All (IsNew gate) (new_stations gate n)
are_new gate zero = λ k d low. absurd (omega arith)
are_new gate (suc n) = All-push (IsNew gate) (new_stations gate n) (record { table = gate.table; station = new_station gate.shape n }) (are_new gate n) (refl, refl)

pub are_first : (gate : GateId) (n : ℕ) → n ≤ 10000 → All (IsFirstOf gate) (new_passes gate n)
are_first gate zero few = λ k d low. absurd (omega arith)
are_first gate (suc n) few =
    let none : round_of n ≡ 0 = omega arith in
    All-push (IsFirstOf gate) (new_passes gate n) (record { table = gate.table; pass = new_pass gate.shape n }) (are_first gate n (omega arith)) (refl, none)

length_spread : (ws : List ℕ) (n : ℕ) → length (spread ws n) ≡ n
unfolding spread
length_spread ws zero = refl
length_spread ws (suc n) = let h = length_spread ws n in let e : length (spread ws n ++ slice_index_or ws n (coded_width n) ∷ []) ≡ length (spread ws n) + 1 = length-append (spread ws n) (slice_index_or ws n (coded_width n) ∷ []) in omega arith

-- a gate whose slots are used again has all the numbers that there are
pub all_numbers : (ws : List ℕ) → length (all_widths true max_numbers ws) ≡ max_numbers
all_numbers ws = length_spread ws max_numbers
