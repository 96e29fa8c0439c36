-- The table at the start, and the tokens that are dealt off its first seat.
use Rattle.std.proofs.Common.{◌≡◌, ◌≢◌, ℕ, false, zero, suc, ◌+◌, ◌-◌, ◌*◌, ◌<◌, ◌≤◌, List, [], ◌∷◌, length, get_or, set, replicate, inl, inr, ⊎_elim, sym, refl, ap, ◌∙◌, subst, arith, length-set, get_or-set_other, get_or-set_same}
use Rattle.std.proofs.lemmas.List.{length-replicate}
use Rattle.std.specs.Prelude.{slice_index, nat_le, if◌then◌else◌, None}
use Rattle.std.proofs.lemmas.Bool.{leb-true, le-leb, false_from_ne_true, cases_lt}
use Rattle.apf_words.specs.Codes.{marked}
use Rattle.apf_gate.specs.Slots.{slot_of, mark_of}
use mathlib.Core.Option.{some, some-injective, some-ne-none}
use lib.ListN.{get_elem?}
use Rattle.atomic_table.specs.Table.{opening}
use Rattle.apf_words.specs.Level.{packed}
use Rattle.apf_gate.specs.declared.record.Actor.{Actor}
use Rattle.apf_gate.specs.declared.record.Actor.TheVariants.{OfPass, OfDesk, OfStation}
use Rattle.apf_gate.specs.declared.record.Shape.{Shape}
use Rattle.apf_gate.specs.declared.record.Record.{Record}
use Rattle.apf_gate.specs.declared.record.Record.TheVariants.{Pass, Desk, Station}
use Rattle.apf_gate.specs.Records.{level_of, new_knowledge, new_pass, new_desk, new_station}
use Rattle.apf_gate.specs.Traces.{world_of}
use Rattle.apf_gate.specs.Account.{Account, AreSlots, IsKnown}
use Rattle.apf_gate.specs.Rule.{Every, AreApart, IsKeptAt, IsView, IsRuled, token_of, passes_from, stations_from, opening_stations, opening_records}
use Rattle.apf_gate.specs.Gauges.{IsShape, AreLaws}

get_replicated : {A : Type 0} (n k : ℕ) (a : A) → get_or (replicate n a) k a ≡ a
get_replicated zero k a = refl
get_replicated (suc n) zero a = refl
get_replicated (suc n) (suc k) a = get_replicated n k a

module _ (s : Shape) where
  -- each slot has the request of its own number, and past the slots is nobody
  abbrev first_current : ℕ → ℕ
  first_current i = if nat_le s.slots i then length s.widths else i

  first_here : (i : ℕ) → i < s.slots → first_current i ≡ i
  first_here i l = ap (λ b. if b then length s.widths else i) (false_from_ne_true (nat_le s.slots i) (λ t. let x = leb-true s.slots i t in omega arith))

  first_past : (i : ℕ) → s.slots ≤ i → first_current i ≡ length s.widths
  first_past i l = ap (λ b. if b then length s.widths else i) (le-leb s.slots i l)

  -- nothing was done
  abbrev first_account : Account
  first_account = record { trace = []; pass = new_pass s; desk = new_desk s; station = new_station s; seat = λ _. 0; current = first_current }

  first_slots : IsShape s → AreSlots s first_account
  first_slots shape = record {
    current = λ i l. let a = shape.all_slots in let b = shape.few_slots in let e = first_here i l in (omega arith, (let x : slot_of i ≡ i = omega arith in ap slot_of e ∙ x));
    inside = λ r l e. ⊎_elim (λ (x : slot_of r < s.slots). x) (λ (x : s.slots ≤ slot_of r). let y = first_past (slot_of r) x in absurd (omega arith)) (cases_lt (slot_of r) s.slots);
    idle = λ r l not. inl refl;
    later = λ r l e. (refl, refl);
    past = λ r l e. inr refl;
    noted = λ i l. let b = shape.few_slots in record { in_order = tt; says = λ r inside e before. let c = first_here i l in absurd (omega arith) };
    nobody = λ r l e. refl;
    newest = λ r e. absurd e;
    older = λ r l small not. omega arith;
    order = tt;
    absent = λ r l beyond. refl;
  }

  first_known : (who : Actor) → IsKnown s who (new_knowledge s) []
  first_known who = record { shape_is = refl; closed = λ e. absurd (cc); told = λ r ne. absurd (ne refl); newer = ([], refl, tt) }

  -- the records that are dealt are the account's
  kept_stations : (n k : ℕ) → k + n ≤ s.stations → Every (IsKeptAt s first_account 0) (stations_from s n k (Desk (new_desk s) ∷ []))
  kept_stations zero k l = ((refl, refl), tt)
  kept_stations (suc n) k l = ((refl, (omega arith, refl)), kept_stations n (k + 1) (omega arith))

  kept_passes : IsShape s → (n r : ℕ) (rest : List Record) → r + n ≤ s.slots → Every (IsKeptAt s first_account 0) rest → Every (IsKeptAt s first_account 0) (passes_from s n r rest)
  kept_passes shape zero r rest l k = k
  kept_passes shape (suc n) r rest l k = let a = shape.all_slots in let b = shape.few_slots in let e : slot_of r ≡ r = omega arith in ((refl, (omega arith, refl, (ap first_current e ∙ first_here r (omega arith)))), kept_passes shape n (r + 1) rest (omega arith) k)

  -- no two of them are of one token
  above_stations : (n k a : ℕ) → a < k → Every (λ y. token_of y ≢ 2 * a + 2) (stations_from s n k (Desk (new_desk s) ∷ []))
  above_stations zero k a l = ((λ e. omega arith), tt)
  above_stations (suc n) k a l = ((λ e. omega arith), above_stations n (k + 1) a (omega arith))

  apart_stations : (n k : ℕ) → AreApart (stations_from s n k (Desk (new_desk s) ∷ []))
  apart_stations zero k = (tt, tt)
  apart_stations (suc n) k = (above_stations n (k + 1) k (omega arith), apart_stations n (k + 1))

  even_stations : (n k a : ℕ) → Every (λ y. token_of y ≢ 2 * slot_of a + 1) (stations_from s n k (Desk (new_desk s) ∷ []))
  even_stations zero k a = ((λ e. omega arith), tt)
  even_stations (suc n) k a = ((λ e. omega arith), even_stations n (k + 1) a)

  above_passes : (n r a : ℕ) (rest : List Record) → a < r → r + n ≤ 16384 → Every (λ y. token_of y ≢ 2 * slot_of a + 1) rest → Every (λ y. token_of y ≢ 2 * slot_of a + 1) (passes_from s n r rest)
  above_passes zero r a rest l few k = k
  above_passes (suc n) r a rest l few k = ((λ e. omega arith), above_passes n (r + 1) a rest (omega arith) (omega arith) k)

  apart_passes : (n r : ℕ) (rest : List Record) → r + n ≤ 16384 → ((a : ℕ) → Every (λ y. token_of y ≢ 2 * slot_of a + 1) rest) → AreApart rest → AreApart (passes_from s n r rest)
  apart_passes zero r rest few even k = k
  apart_passes (suc n) r rest few even k = (above_passes n (r + 1) r rest (omega arith) (omega arith) (even r), apart_passes n (r + 1) rest (omega arith) even k)

  first_view : IsShape s → IsView s first_account 0 (opening_records s 0)
  first_view shape = let b = shape.few_slots in (
    kept_passes shape (s.slots - 0) 0 (opening_stations s 0) (omega arith) (kept_stations (s.stations - 0) 0 (omega arith)),
    apart_passes (s.slots - 0) 0 (opening_stations s 0) (omega arith) (λ a. even_stations (s.stations - 0) 0 a) (apart_stations (s.stations - 0) 0),
  )

  seats : IsShape s → (i : ℕ) (v : List Record) → get_elem? (opening_records s 0 ∷ []) i ≡ some v → IsView s first_account i v
  seats shape zero v e = subst (IsView s first_account 0) (some-injective _ _ e) (first_view shape)
  seats shape (suc i) v e = absurd (some-ne-none v (sym e))

  -- the level word as it begins
  abbrev first_packed : ℕ
  first_packed = packed (record { closed = false; waiters = 0; seats = 0; limit = s.limit })

  pub begins : IsShape s → AreLaws s → (words : List ℕ) → words ≡ set (replicate (s.slots + 1) 0) 0 (packed (record { closed = false; waiters = 0; seats = 0; limit = s.limit })) → IsRuled s (opening words [] (opening_records s 0))
  unfolding marked
  begins shape laws words is = record {
    account = first_account;
    sound = record {
      schedule = tt;
      made = tt;
      request = λ r l. record {
        own = record { state = (refl, refl, refl); wrote = tt; handed = λ e. absurd (cc); queues = λ e. absurd (cc); no_room = λ e. absurd (cc) };
        tied = record { number = refl; handed = refl; entered = refl; left = λ e. absurd (cc) };
        stage = refl;
        saw = refl;
        word = inl refl;
        closed = λ e. absurd (cc);
      };
      pass_knows = λ r l. first_known (OfPass r);
      desk_knows = first_known OfDesk;
      station_knows = λ k. first_known (OfStation k);
      held = λ r e. absurd (cc);
      is_held = λ r e. absurd (cc);
    };
    slots = first_slots shape;
    packs = record {
      count = ap length is ∙ (length-set (replicate (s.slots + 1) 0) 0 first_packed ∙ length-replicate (s.slots + 1) 0);
      level = ap (λ ws. slice_index ws 0) is ∙ (get_or-set_same (replicate (s.slots + 1) 0) 0 first_packed 0 some_words ∙ first_word);
      decisions = λ r l. ap (λ ws. slice_index ws (r + 1)) is ∙ (get_or-set_other (replicate (s.slots + 1) 0) 0 (r + 1) first_packed 0 (λ e. omega arith) ∙ get_replicated (s.slots + 1) (r + 1) 0 ∙ sym (first_word_of r l));
    };
    views = seats shape;
  }
    where
      first_word_of : (r : ℕ) → r < s.slots → marked (mark_of (first_current r)) None ≡ 0
      first_word_of r l = let b = shape.few_slots in let e : mark_of r ≡ 0 = omega arith in ap (λ c. marked (mark_of c) None) (first_here r l) ∙ ap (λ m. marked m None) e

      some_words : 0 < length {A = ℕ} (replicate (s.slots + 1) 0)
      some_words = let e : length {A = ℕ} (replicate (s.slots + 1) 0) ≡ s.slots + 1 = length-replicate (s.slots + 1) 0 in omega arith

      first_word : first_packed ≡ packed (level_of s.widths (world_of s []))
      first_word =
          let a = laws.nobody_waits (world_of s []) (λ r l e. cc) in
          let b = laws.nobody_stands (world_of s []) (λ r l e. cc) in
          λ i. packed (record { closed = false; waiters = sym a i; seats = sym b i; limit = s.limit })

  -- one more token is dealt
  pub pass_dealt : (r : ℕ) → r < s.slots → opening_records s r ≡ Pass (new_pass s r) ∷ opening_records s (r + 1)
  pass_dealt r l = let e : s.slots - r ≡ suc (s.slots - (r + 1)) = omega arith in ap (λ k. passes_from s k r (opening_stations s 0)) e

  pub all_passes : (r : ℕ) → s.slots ≤ r → opening_records s r ≡ opening_stations s 0
  all_passes r l = let e : s.slots - r ≡ 0 = omega arith in ap (λ k. passes_from s k r (opening_stations s 0)) e

  pub station_dealt : (k : ℕ) → k < s.stations → opening_stations s k ≡ Station (new_station s k) ∷ opening_stations s (k + 1)
  station_dealt k l = let e : s.stations - k ≡ suc (s.stations - (k + 1)) = omega arith in ap (λ n. stations_from s n k (Desk (new_desk s) ∷ [])) e

  pub all_stations : (k : ℕ) → s.stations ≤ k → opening_stations s k ≡ Desk (new_desk s) ∷ []
  all_stations k l = let e : s.stations - k ≡ 0 = omega arith in ap (λ n. stations_from s n k (Desk (new_desk s) ∷ [])) e
