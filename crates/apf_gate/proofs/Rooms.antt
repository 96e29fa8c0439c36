-- When a level word shows no room.
use Rattle.std.proofs.Common.{◌≡◌, ℕ, ◌+◌, ◌<◌, ◌≤◌, Bool, true, false, refl, ap, ◌∙◌, inl, inr, ⊎_elim, arith, eq-eqb}
use Rattle.std.specs.Prelude.{◌||◌, ◌&&◌, not, nat_le, ◌==◌}
use Rattle.std.proofs.lemmas.Bool.{leb-true, le-leb, eqb-true, not-true, not_from_false, false_from_ne_true, cases_lt, or_cases, or_right}
use Rattle.apf_words.specs.Fits.{Fits}
use Rattle.apf_words.specs.Level.{Level}
use Rattle.apf_gate.specs.PassSteps.{has_room, is_no_room}

pub both_true : (a b : Bool) → (a && b) ≡ true → (a ≡ true) × (b ≡ true)
both_true true b e = (refl, e)
both_true false b e = absurd (cc)

pub has_room_fits : (l : Level) (k : ℕ) → has_room l k ≡ true → Fits l.seats l.limit k
has_room_fits l k e = ⊎_elim
    (λ (a : nat_le (l.seats + k) l.limit ≡ true). inl (leb-true (l.seats + k) l.limit a))
    (λ (a : (not (nat_le k l.limit) && (l.seats == 0)) ≡ true). let b = both_true _ _ a in
    inr (over (not-true (nat_le k l.limit) b.0), eqb-true l.seats 0 b.1))
    (or_cases _ _ e)
  where
    over : nat_le k l.limit ≡ false → l.limit < k
    over f = ⊎_elim (λ (t : l.limit < k). t) (λ (t : k ≤ l.limit). let z = le-leb k l.limit t in absurd (cc)) (cases_lt l.limit k)

pub fits_has_room : (l : Level) (k : ℕ) → Fits l.seats l.limit k → has_room l k ≡ true
fits_has_room l k f = ⊎_elim
    (λ (a : l.seats + k ≤ l.limit). ap (λ b. b || (not (nat_le k l.limit) && (l.seats == 0))) (le-leb (l.seats + k) l.limit a))
    (λ (a : (l.limit < k) × (l.seats ≡ 0)). or_right (nat_le (l.seats + k) l.limit) (not (nat_le k l.limit) && (l.seats == 0))
    (ap (λ b. b && (l.seats == 0)) (not_from_false (nat_le k l.limit) (false_from_ne_true (nat_le k l.limit) (λ t. let z = leb-true k l.limit t in let y = a.0 in omega arith)))
    ∙ eq-eqb l.seats 0 a.1))
    f

-- what it says of the level
pub record HasNoRoom (l : Level) (k : ℕ) : Type 0 where
  pub is_open : l.closed ≡ false
  pub nobody_waits : l.waiters ≡ 0
  pub does_not_fit : ¬ Fits l.seats l.limit k

pub no_room_true : (l : Level) (k : ℕ) → is_no_room l k ≡ true → HasNoRoom l k
no_room_true l k e =
    let a = both_true _ _ e in
    let b = both_true _ _ a.1 in record {
      is_open = not-true l.closed a.0;
      nobody_waits = eqb-true l.waiters 0 b.0;
      does_not_fit = λ f. let x = fits_has_room l k f in let y = not-true (has_room l k) b.1 in absurd (cc);
    }

pub no_room_false : (l : Level) (k : ℕ) → HasNoRoom l k → is_no_room l k ≡ true
no_room_false l k h =
    ap (λ b. b && ((l.waiters == 0) && not (has_room l k))) (not_from_false l.closed h.is_open)
    ∙ (ap (λ b. b && not (has_room l k)) (eq-eqb l.waiters 0 h.nobody_waits)
    ∙ not_from_false (has_room l k) (false_from_ne_true (has_room l k) (λ t. h.does_not_fit (has_room_fits l k t))))
