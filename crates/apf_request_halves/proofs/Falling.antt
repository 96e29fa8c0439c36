-- Lines of which each stands behind the next one.
use Rattle.std.proofs.Common.{◌≡◌, ◌<◌, ◌≤◌, ◌+◌, ℕ, List, [], ◌∷◌, ◌++◌, true, length, refl, ap, ◌∙◌, cond, arith}
use Rattle.std.specs.Prelude.{All, count_by, slice_index_or}
use Rattle.std.proofs.lemmas.List.Elements.{All-cons, All-nil, All-weaker}
use Rattle.std.proofs.lemmas.List.Sums.{sum_by-cons}
use Rattle.std.proofs.lemmas.Bool.Decides.{nat_tests}
use Rattle.apf_request_halves.specs.Held.{Placed}
use Rattle.apf_request_halves.specs.Reading.{AreFalling, is_behind}

-- they stand before any higher number
pub falling_up : (top low : ℕ) (ps : List Placed) → low ≤ top → AreFalling low ps → AreFalling top ps
falling_up top low [] up falls = tt
falling_up top low (p ∷ ps) up falls = (omega (arith, up, falls.0), falls.1)

-- each stands before the number
pub falling_below : (top : ℕ) (ps : List Placed) → AreFalling top ps → All (λ p. p.number < top) ps
falling_below top [] falls = All-nil (λ p. p.number < top)
falling_below top (p ∷ ps) falls =
    All-cons (λ (q : Placed). q.number < top) p ps falls.0 (falling_below top ps (falling_up top p.number ps (omega (arith, falls.0)) falls.1))

-- the first ones fall too
pub falling_front : (top : ℕ) (front back : List Placed) → AreFalling top (front ++ back) → AreFalling top front
falling_front top [] back falls = tt
falling_front top (p ∷ front) back falls = (falls.0, falling_front p.number front back falls.1)

-- and the last ones
pub falling_back : (top : ℕ) (front back : List Placed) → AreFalling top (front ++ back) → AreFalling top back
falling_back top [] back falls = falls
falling_back top (p ∷ front) back falls = falling_up top p.number back (omega (arith, falls.0)) (falling_back p.number front back falls.1)

-- all of the first ones stand behind each of the last ones
pub behind : (top : ℕ) (front back : List Placed) → AreFalling top (front ++ back) → All (λ g. count_by (is_behind g) front ≡ length front) back
behind top [] back falls = All-weaker (λ (g : Placed). g.number < top) (λ g. count_by (is_behind g) [] ≡ 0) (λ g low. refl) back (falling_below top back falls)
behind top (p ∷ front) back falls =
    let later = behind p.number front back falls.1 in
    let low = falling_below p.number back (falling_back p.number front back falls.1) in
    λ k d short.
    let g = slice_index_or back k d in
    let before : g.number < p.number = low k d short in
    let after : is_behind g p ≡ true = grind (arith, nat_tests) in
    let sum : count_by (is_behind g) (p ∷ front) ≡ cond (is_behind g p) 1 0 + count_by (is_behind g) front = sum_by-cons (λ x. cond (is_behind g x) 1 0) p front in
    let one : count_by (is_behind g) (p ∷ front) ≡ 1 + count_by (is_behind g) front = sum ∙ ap (λ b. cond b 1 0 + count_by (is_behind g) front) after in
    omega (arith, one, later k d short)
