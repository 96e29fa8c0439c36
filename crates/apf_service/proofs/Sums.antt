-- The sums over the slots are small, and how they change with one slot.
use Rattle.std.proofs.Common.{◌≡◌, ℕ, ◌+◌, ◌*◌, ◌^◌, ◌<◌, ◌≤◌, ◌%◌, List, [], ◌∷◌, length, get_or, set, Bool, true, false, refl, sym, subst, arith}
use Rattle.std.specs.List.{sum_by}
use Rattle.std.specs.Prelude.{All, max, nat_le, if◌then◌else◌}
use Rattle.std.proofs.lemmas.Bool.{leb-true}
use Rattle.std.proofs.Math.Nat.{le_trans, mul-le-mul_right, min-le_right}
use Rattle.std.proofs.lemmas.List.Elements.{All-head, All-tail}
use Rattle.std.proofs.lemmas.List.Sums.{sum_by-set, sum_by-le, get_or-le-sum_by}
use Rattle.apf_words.specs.Limits.{max_requests}
use Rattle.apf_gate.specs.Slots.{wide, coded_width, mark_of, round_of}
use Rattle.apf_gate.specs.Tokens.{PassToken}
use Rattle.apf_local.specs.declared.answer.Place.{Place}
use Rattle.apf_local.specs.declared.answer.Place.TheVariants.{Free, Fresh, Waits, Runs}
use Rattle.apf_local.specs.Levels.{LocalView}
use Rattle.apf_service.specs.declared.tally.Tally.{Tally}
use Rattle.apf_service.specs.Tallies.{Held, held_by, slots_of, decided_in, waits_at, runs_at, seats_at, waits_in, runs_in, seats_in, rounds_in, no_tally, IsTallyOf, IsTallied}
use Rattle.apf_service.specs.Kept.{no_slot}
use Rattle.apf_service.proofs.Slots.{held_few}

waits_small : (p : Place) → waits_at p ≤ 1
waits_small Free = omega arith
waits_small (Fresh ask) = omega arith
waits_small Waits = omega arith
waits_small Runs = omega arith

runs_small : (p : Place) → runs_at p ≤ 1
runs_small Free = omega arith
runs_small (Fresh ask) = omega arith
runs_small Waits = omega arith
runs_small Runs = omega arith

wide_small : (code : ℕ) → wide code ≤ 20000
wide_small code = by (nat_le code 20000) refl
  where
    by : (b : Bool) → nat_le code 20000 ≡ b → (if nat_le code 20000 then max code 1 else 20000) ≤ 20000
    by true e = subst (λ c. (if c then max code 1 else 20000) ≤ 20000) (sym e) (let l = leb-true code 20000 e in omega arith)
    by false e = subst (λ c. (if c then max code 1 else 20000) ≤ 20000) (sym e) (omega arith)

pub coded_small : (r : ℕ) → coded_width r ≤ 20000
coded_small r = wide_small (mark_of r % 32768)

seats_small : (p : Place) (r : ℕ) → seats_at p r ≤ 20000
seats_small Free r = omega arith
seats_small (Fresh ask) r = omega arith
seats_small Waits r = omega arith
seats_small Runs r = coded_small r

rounds_small : (h : Held) → rounds_in h ≤ 2 ^ 46
rounds_small h = min-le_right (round_of h.number) (2 ^ 46)

each_all : (P : Held → Type 0) → ((h : Held) → P h) → (hs : List Held) → All P hs
each_all P each hs k d inside = each (get_or hs k d)

-- a sum over the slots of a level whose terms are small
few_small : (f : Held → ℕ) (m : ℕ) → ((h : Held) → f h ≤ m) → (l : LocalView) → length l.places ≤ max_requests → sum_by f (slots_of l) ≤ 10000 * m
few_small f m each l few = le_trans (sum_by-le f m (slots_of l) (each_all (λ h. f h ≤ m) each (slots_of l))) (mul-le-mul_right m (le_trans (held_few l.places l.owner.passes) few))

pub waiting_few : (l : LocalView) (t : Tally) → IsTallied l t → t.waiting ≤ 10000
waiting_few l t kept = omega (arith, kept.numbers.waiting, few_small waits_in 1 (λ h. waits_small h.place) l kept.few)

pub running_few : (l : LocalView) (t : Tally) → IsTallied l t → t.running ≤ 10000
running_few l t kept = omega (arith, kept.numbers.running, few_small runs_in 1 (λ h. runs_small h.place) l kept.few)

pub seats_few : (l : LocalView) (t : Tally) → IsTallied l t → t.seats ≤ 200000000
seats_few l t kept = omega (arith, kept.numbers.seats, few_small seats_in 20000 (λ h. seats_small h.place h.number) l kept.few)

pub decided_few : (l : LocalView) (t : Tally) → IsTallied l t → decided_in t.counts < 2 ^ 63
decided_few l t kept = omega (arith, kept.numbers.arrived, few_small rounds_in (2 ^ 46) rounds_small l kept.few)

-- a sum as one slot holds something else
pub sum_at : (f : Held → ℕ) (slots : List Held) (slot : ℕ) (h : Held) → slot < length slots → sum_by f (set slots slot h) + f (get_or slots slot no_slot) ≡ sum_by f slots + f h
sum_at f slots slot h inside = sum_by-set f slots slot h no_slot inside

-- one slot is part of the sum
pub part_at : (f : Held → ℕ) (slots : List Held) (slot : ℕ) → slot < length slots → f (get_or slots slot no_slot) ≤ sum_by f slots
part_at f slots slot inside = get_or-le-sum_by f slots slot no_slot inside

-- a level whose slots are free has no numbers
none_by : (places : List Place) (passes : List PassToken) → All (λ (p : Place). p ≡ Free) places
    → (sum_by waits_in (held_by places passes) ≡ 0) × (sum_by runs_in (held_by places passes) ≡ 0) × (sum_by seats_in (held_by places passes) ≡ 0)
none_by [] passes free = (refl, refl, refl)
none_by (place ∷ places) [] free = (refl, refl, refl)
none_by (Free ∷ places) (token ∷ passes) free = let rest = none_by places passes (All-tail (λ (p : Place). p ≡ Free) Free places free) in (omega (arith, rest.0), omega (arith, rest.1), omega (arith, rest.2))
none_by (Fresh ask ∷ places) (token ∷ passes) free = absurd (let is = All-head (λ (p : Place). p ≡ Free) (Fresh ask) places free in cc)
none_by (Waits ∷ places) (token ∷ passes) free = absurd (let is = All-head (λ (p : Place). p ≡ Free) Waits places free in cc)
none_by (Runs ∷ places) (token ∷ passes) free = absurd (let is = All-head (λ (p : Place). p ≡ Free) Runs places free in cc)

pub none_kept : (l : LocalView) → All (λ (p : Place). p ≡ Free) l.places → IsTallyOf (slots_of l) no_tally
none_kept l free = let none = none_by l.places l.owner.passes free in record {
  waiting = sym none.0;
  running = sym none.1;
  seats = sym none.2;
  arrived = omega arith;
}
