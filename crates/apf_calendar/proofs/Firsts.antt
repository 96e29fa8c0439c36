-- What has the least number is due first.
use Rattle.std.proofs.Common.{◌≡◌, ℕ, ◌*◌, ◌^◌, ◌<◌, ◌≤◌, inl, inr, false, List, length, get_or, Option, Some, None, ap, ◌∙◌, subst, arith}
use Rattle.std.specs.Prelude.{slice_get}
use Rattle.std.proofs.lemmas.Bool.{cases_lt}
use Rattle.std.proofs.lemmas.Bool.Decides.{nat_tests}
use Rattle.std.proofs.lemmas.Option.{slice_get_within, slice_get_past}
use Rattle.apf_least.specs.Least.{no_number, IsFirstLeastFrom}
use Rattle.apf_times.specs.declared.due.Due.{Due}
use Rattle.apf_times.specs.Dues.{is_before, turn}
use Rattle.apf_calendar.specs.declared.guest.Guest.{Guest}
use Rattle.apf_calendar.specs.declared.calendar.Carried.{Carried}
use Rattle.apf_calendar.specs.Guests.{SlotsView, IsIn, IsFirstDue, IsNext, NothingBy, due_of, then_of}
use Rattle.apf_calendar.specs.Kept.{AreKept, IsKeptGuest, key, key_if, key_in}
use Rattle.apf_calendar.proofs.Dues.{due_small}
use Rattle.apf_calendar.proofs.Puts.{later_kept, then_kept}
use Rattle.apf_calendar.proofs.Keys.{least_is_first, key_low}

module _ (v : SlotsView) (dues frees : List ℕ) (old : AreKept v dues frees) where
  -- the number of what is due of a guest stands at its slot
  key_here : (i : ℕ) (g : Guest) (d : Due) → IsIn v i g → due_of v.patience g ≡ Some d → (i < length dues) × (get_or dues i 0 ≡ key d)
  key_here i g d here is =
      let low = slice_get_within v.slots i (Some g) here in
      let room = old.some_due in
      (omega arith, old.keys i (omega arith) ∙ ap (key_in v.patience) here ∙ ap key_if is)

  small : (i : ℕ) (g : Guest) (d : Due) → IsIn v i g → due_of v.patience g ≡ Some d → (turn d.kind ≤ 1) × (d.request < 2 ^ 64)
  small i g d here is =
      let s = due_small v.patience g.line g.times g.stay d is in
      let e = s.0 in
      let k = (old.guests i g here).line in
      (s.1, omega arith)

  low_key : (i : ℕ) (g : Guest) (d : Due) → IsIn v i g → due_of v.patience g ≡ Some d → key d < no_number
  low_key i g d here is = let s = small i g d here is in key_low d ((old.guests i g here).low d is) s.0 s.1

  -- where no slot has a number, nothing is due
  pub nothing_due : (by : ℕ) → ((q : ℕ) → q < length dues → no_number ≤ get_or dues q 0) → NothingBy v by
  nothing_due by none i g d here is =
      let k = key_here i g d here is in
      let a = k.1 in
      let b = none i k.0 in
      let c = low_key i g d here is in
      absurd (omega arith)

  -- the slot of the least number
  module _ (slot : ℕ) (first : IsFirstLeastFrom dues 0 slot) where
    below : key_in v.patience (slice_get v.slots slot) < no_number
    below = let a = old.keys slot first.is_place in let b = first.is_number in omega arith

    -- somebody is in it, of whom something is due
    pub not_past : slice_get v.slots slot ≡ None → ⊥
    not_past e = let b = subst (λ (o : Option (Option Guest)). key_in v.patience o < no_number) e below in absurd (omega arith)

    -- and it is a slot
    pub inside : slot < length v.slots
    inside = elim (cases_lt slot (length v.slots)) [
      | inl l ↦ l
      | inr past ↦ absurd (not_past (slice_get_past v.slots slot past))
    ]

    pub not_free : slice_get v.slots slot ≡ Some None → ⊥
    not_free e = let b = subst (λ (o : Option (Option Guest)). key_in v.patience o < no_number) e below in absurd (omega arith)

    pub something : (g : Guest) → IsIn v slot g → due_of v.patience g ≡ None → ⊥
    something g here e =
        let b = subst (λ (o : Option (Option Guest)). key_in v.patience o < no_number) here below in
        let c = subst (λ (o : Option Due). key_if o < no_number) e b in
        absurd (omega arith)

    pub is_first : (g : Guest) (d : Due) → IsIn v slot g → due_of v.patience g ≡ Some d → IsFirstDue v slot g d
    is_first g d here is = record {
      here = here;
      is_due = is;
      first = λ i h e there due.
          let a = key_here slot g d here is in
          let b = key_here i h e there due in
          let c = small slot g d here is in
          let f = small i h e there due in
          let l = first.least i b.0 in
          let m = a.1 in
          let n = b.1 in
          least_is_first d e c.0 f.0 c.1 f.1 (omega arith);
    }

-- none that is not before it is earlier
pub no_earlier : (d e : Due) → is_before e d ≡ false → d.at ≤ e.at
no_earlier d e h = grind (arith, nat_tests)

-- time may go on to what is due first
module _ (v : SlotsView) (dues frees : List ℕ) (old : AreKept v dues frees) (c : Carried) (next : IsNext v c) where
  pub next_later : v.time ≤ c.at
  next_later = let a = (old.guests c.slot c.guest next.first.here).ahead next.due next.first.is_due in let e = next.at in omega arith

  pub next_low : c.at ≤ 2 * 10 ^ 14
  next_low = let a = (old.guests c.slot c.guest next.first.here).low next.due next.first.is_due in let e = next.at in omega arith

  pub next_ahead : (i : ℕ) (g : Guest) (d : Due) → IsIn v i g → due_of v.patience g ≡ Some d → c.at ≤ d.at
  next_ahead i g d here is = let a = no_earlier next.due d (next.first.first i g d here is) in let e = next.at in omega arith

  pub next_kept : AreKept (record { time = c.at; patience = v.patience; slots = v.slots }) dues frees
  next_kept = later_kept v dues frees c.at old next_later next_low next_ahead

  pub next_then : (h : Guest) → then_of c.guest ≡ Some h → IsKeptGuest c.at v.patience h
  next_then h e = then_kept c.at v.patience c.guest h (next_kept.guests c.slot c.guest next.first.here) e

  -- later than this nothing is due
  pub none_by : (by : ℕ) → by < c.at → NothingBy v by
  none_by by late i g d here is = let a = next_ahead i g d here is in omega arith
