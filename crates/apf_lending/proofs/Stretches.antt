-- Stretches, one after another.
use Rattle.std.proofs.Common.{◌≡◌, ℕ, ◌+◌, ◌*◌, ◌-◌, ◌/◌, ◌≤◌, max, List, [], ◌∷◌, ◌++◌, arith, ap, ◌∙◌, inl, inr}
use Rattle.std.proofs.Math.Nat.{div-le_of_le-mul, mul_comm, add-mul, mul-add}
use Rattle.std.proofs.lemmas.Nat.{mul-le}
use Rattle.std.proofs.lemmas.Bool.{cases_lt}
use Rattle.apf_lending.specs.Demands.{Stretch, DemandView, AreAsked, area_of, squares_of, high_of, length_of}

area-push : (ss : List Stretch) (s : Stretch) → area_of (ss ++ s ∷ []) ≡ area_of ss + s.seats * s.micros
area-push [] s = omega arith
area-push (x ∷ ss) s = omega (arith, area-push ss s)

squares-push : (ss : List Stretch) (s : Stretch) → squares_of (ss ++ s ∷ []) ≡ squares_of ss + s.seats * s.seats * s.micros
squares-push [] s = omega arith
squares-push (x ∷ ss) s = omega (arith, squares-push ss s)

length-push : (ss : List Stretch) (s : Stretch) → length_of (ss ++ s ∷ []) ≡ length_of ss + s.micros
length-push [] s = omega arith
length-push (x ∷ ss) s = omega (arith, length-push ss s)

high-push : (ss : List Stretch) (s : Stretch) → high_of (ss ++ s ∷ []) ≡ max (high_of ss) s.seats
high-push [] s = omega arith
high-push (x ∷ ss) s = omega (arith, high-push ss s)

-- one stretch more
pub asked_more : (ss : List Stretch) (seats at : ℕ) (old new : DemandView) → AreAsked ss old.seats old.since old
    → old.began ≤ old.since → old.since ≤ at
    → new.seats ≡ seats → new.since ≡ at → new.began ≡ old.began → new.high ≡ max old.high old.seats
    → new.area ≡ old.area + old.seats * (at - old.since) → new.squares ≡ old.squares + old.seats * old.seats * (at - old.since)
    → AreAsked (ss ++ record { seats = old.seats; micros = at - old.since } ∷ []) seats at new
asked_more ss seats at old new asked order forward is_seats is_since is_began is_high is_area is_squares =
    let s : Stretch = record { seats = old.seats; micros = at - old.since } in
    record {
      now = is_seats;
      until = is_since;
      whole = omega (arith, length-push ss s, asked.whole, is_since, is_began, order, forward);
      high = omega (arith, high-push ss s, asked.high, is_high);
      area = omega (arith, area-push ss s, asked.area, is_area);
      squares = omega (arith, squares-push ss s, asked.squares, is_squares);
    }

-- a mean is not above the most
pub mean_small : (area micros : ℕ) → area ≤ 17179869184 * micros → area * 1000 / micros ≤ 17179869184000
mean_small area micros small = div-le_of_le-mul micros (omega (arith, small, mul_comm micros 17179869184000))

square_next : (n : ℕ) → (n + 1) * (n + 1) ≡ n * n + (n + n + 1)
square_next n = add-mul n 1 (n + 1) ∙ (ap (λ x. x + 1 * (n + 1)) (mul-add n n 1) ∙ omega arith)

-- a root is not above that of a greater square
pub root_small : (n r most : ℕ) → r * r ≤ n → n ≤ most * most → r ≤ most
root_small n r most within few = elim (cases_lt most r) [
  | inl h ↦ let up : (most + 1) * (most + 1) ≤ r * r = mul-le (most + 1) (most + 1) r r (omega (arith, h)) (omega (arith, h)) in
      let wide : (most + 1) * (most + 1) ≡ most * most + (most + most + 1) = square_next most in
      absurd (omega (arith, up, wide, within, few))
  | inr h ↦ h
]

-- the mean of squares is not above the square of the most
pub squares_small : (squares micros : ℕ) → squares ≤ 17179869184 * 17179869184 * micros
    → squares * 1000000 / micros ≤ 17179869184000 * 17179869184000
squares_small squares micros small = div-le_of_le-mul micros (omega (arith, small, mul_comm micros (17179869184000 * 17179869184000)))
