-- One slot changes, and the others are as they were.
use Rattle.std.proofs.Common.{◌≡◌, ℕ, zero, suc, ◌<◌, inl, inr, List, length, set, Option, Some, None, sym, ap, ◌∙◌, subst, arith}
use Rattle.std.specs.Prelude.{slice_get, replicate, All}
use Rattle.std.proofs.lemmas.Bool.{cases_eq}
use Rattle.std.proofs.lemmas.Option.{get_or_from_slice_get, slice_get_within}
use Rattle.std.proofs.lemmas.List.{length-set, length-replicate}
use Rattle.apf_local.specs.declared.answer.Place.{Place}
use Rattle.apf_local.specs.declared.answer.Place.TheVariants as places
use Rattle.apf_calendar.specs.declared.guest.Guest.{Guest}
use Rattle.apf_stream.specs.declared.asked.Hold.{Hold}
use Rattle.apf_stream.specs.States.{State}
use Rattle.apf_stream.specs.Ties.{AreTied, AreTiedBut, IsNoted, IsTiedAt, IsWhere}
use Rattle.apf_stream.proofs.Places.{get_set, get_other, none_is, some_is}

-- nobody
abbrev pub nobody : Option Guest
nobody = None

pub but_of : (s : State) (slot : ℕ) → slot < length s.slots.slots → AreTied s → AreTiedBut s slot
but_of s slot inside tied = record { count = tied.count; inside = inside; each = λ i ne. tied.each i }

-- a slot of which nothing changed
pub still_at : (s s' : State) (i : ℕ) → slice_get s'.level.places i ≡ slice_get s.level.places i → slice_get s'.slots.slots i ≡ slice_get s.slots.slots i → slice_get s'.holds i ≡ slice_get s.holds i → IsTiedAt s i → IsTiedAt s' i
still_at s s' i places slots holds at = record {
  at = λ p x is here. at.at p x (sym places ∙ is) (sym slots ∙ here);
  noted = λ g h here is. at.noted g h (sym slots ∙ here) (sym holds ∙ is);
}

module _ (s s' : State) (slot : ℕ) (but : AreTiedBut s slot) (p' : Place) (x' : Option Guest)
    (places : s'.level.places ≡ set s.level.places slot p') (slots : s'.slots.slots ≡ set s.slots.slots slot x') where
  place_there : slice_get s'.level.places slot ≡ Some p'
  place_there = ap (λ (l : List Place). slice_get l slot) places ∙ get_set s.level.places slot p' (let a = but.count.places in let b = but.inside in omega arith)

  guest_there : slice_get s'.slots.slots slot ≡ Some x'
  guest_there = ap (λ (l : List (Option Guest)). slice_get l slot) slots ∙ get_set s.slots.slots slot x' but.inside

  here_at : IsWhere p' x' → ((g : Guest) (h : Hold) → x' ≡ Some g → slice_get s'.holds slot ≡ Some h → IsNoted h g) → IsTiedAt s' slot
  here_at where_is noted = record {
    at = λ p x is here. subst (λ (q : Place). IsWhere q x) (some_is (sym place_there ∙ is)) (subst (IsWhere p') (some_is (sym guest_there ∙ here)) where_is);
    noted = λ g h here is. noted g h (some_is (sym guest_there ∙ here)) is;
  }

  many : length s'.level.places ≡ length s'.slots.slots
  many =
      let a = but.count.places in
      let b = length-set s.level.places slot p' in
      let c = length-set s.slots.slots slot x' in
      let d = ap (λ (l : List Place). length l) places in
      let e = ap (λ (l : List (Option Guest)). length l) slots in
      omega arith

  -- what is noted stays
  pub tied_set : s'.holds ≡ s.holds → IsWhere p' x' → ((g : Guest) (h : Hold) → x' ≡ Some g → slice_get s.holds slot ≡ Some h → IsNoted h g) → AreTied s'
  tied_set holds where_is noted = record {
    count = record {
      places = many;
      holds = (let a = but.count.holds in let c = length-set s.slots.slots slot x' in let d = ap (λ (l : List Hold). length l) holds in let e = ap (λ (l : List (Option Guest)). length l) slots in omega arith);
    };
    each = λ i. elim (cases_eq i slot) [
      | inl e ↦ subst (IsTiedAt s') (sym e) (here_at where_is (λ g h is there. noted g h is (ap (λ (l : List Hold). slice_get l slot) (sym holds) ∙ there)))
      | inr ne ↦
          still_at s s' i
          (ap (λ (l : List Place). slice_get l i) places ∙ get_other s.level.places slot i p' ne)
          (ap (λ (l : List (Option Guest)). slice_get l i) slots ∙ get_other s.slots.slots slot i x' ne)
          (ap (λ (l : List Hold). slice_get l i) holds) (but.each i ne)
    ];
  }

  -- another is noted
  pub tied_anew : (hold : Hold) → s'.holds ≡ set s.holds slot hold → IsWhere p' x' → ((g : Guest) → x' ≡ Some g → IsNoted hold g) → AreTied s'
  tied_anew hold holds where_is noted = record {
    count = record {
      places = many;
      holds = (let a = but.count.holds in let b = length-set s.holds slot hold in let c = length-set s.slots.slots slot x' in let d = ap (λ (l : List Hold). length l) holds in let e = ap (λ (l : List (Option Guest)). length l) slots in omega arith);
    };
    each = λ i. elim (cases_eq i slot) [
      | inl e ↦ subst (IsTiedAt s') (sym e) (here_at where_is (λ g h is there. subst (λ (k : Hold). IsNoted k g) (some_is (sym (ap (λ (l : List Hold). slice_get l slot) holds ∙ get_set s.holds slot hold (let a = but.count.holds in let b = but.inside in omega arith)) ∙ there)) (noted g is)))
      | inr ne ↦
          still_at s s' i
          (ap (λ (l : List Place). slice_get l i) places ∙ get_other s.level.places slot i p' ne)
          (ap (λ (l : List (Option Guest)). slice_get l i) slots ∙ get_other s.slots.slots slot i x' ne)
          (ap (λ (l : List Hold). slice_get l i) holds ∙ get_other s.holds slot i hold ne) (but.each i ne)
    ];
  }

-- nobody came yet
free_at : (ps : List Place) (i : ℕ) (p : Place) → All (λ (q : Place). q ≡ places.Free) ps → slice_get ps i ≡ Some p → p ≡ places.Free
free_at ps i p all is = subst (λ (q : Place). q ≡ places.Free) (get_or_from_slice_get ps i p p is) (all i p (slice_get_within ps i p is))

nobody_in : (slots i : ℕ) (x : Option Guest) → slice_get (replicate slots nobody) i ≡ Some x → x ≡ None
nobody_in zero i x is = absurd (none_is is)
nobody_in (suc slots) zero x is = sym (some_is is)
nobody_in (suc slots) (suc i) x is = nobody_in slots i x is

free_where : (p : Place) (x : Option Guest) → p ≡ places.Free → x ≡ None → IsWhere p x
free_where p x free none = subst (λ (q : Place). IsWhere q x) (sym free) (subst (IsWhere places.Free) (sym none) tt)

pub opening_tied : (s : State) (slots : ℕ) → length s.level.places ≡ slots → All (λ (p : Place). p ≡ places.Free) s.level.places → s.slots.slots ≡ replicate slots nobody → length s.holds ≡ slots → AreTied s
opening_tied s slots many free none holds =
    let n = length-replicate slots nobody in
    let m = ap (λ (l : List (Option Guest)). length l) none in
    record {
      count = record { places = omega arith; holds = omega arith };
      each = λ i. record {
        at = λ p x is here. free_where p x (free_at s.level.places i p free is) (nobody_in slots i x (ap (λ (l : List (Option Guest)). slice_get l i) (sym none) ∙ here));
        noted = λ g h here is. absurd (none_is (sym (nobody_in slots i (Some g) (ap (λ (l : List (Option Guest)). slice_get l i) (sym none) ∙ here))));
      };
    }
