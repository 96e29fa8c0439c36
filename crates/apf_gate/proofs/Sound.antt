-- The rule after one step of a token, from what the step touches.
use Rattle.std.proofs.Common.{◌≡◌, ◌≢◌, ℕ, ◌+◌, ◌*◌, ◌<◌, ◌≤◌, Bool, true, false, List, [], ◌∷◌, length, set, Option, Some, sym, refl, ap, ◌∙◌, subst, arith, eq-eqb, ne_eqb}
use Rattle.std.specs.Prelude.{slice_index, ◌==◌}
use mathlib.Core.Logic.{dite}
use mathlib.Core.Option.{some}
use lib.ListN.{get_elem?}
use native.Mathlib.Decide.{ℕ_discrete}
use prog.Atomic.{either}
use Rattle.atomic_table.specs.Table.{Act, Valid, carried_after, stepped}
use Rattle.apf_model.specs.declared.moves.Move.{Move}
use Rattle.apf_model.specs.World.{World, put}
use Rattle.apf_gate.specs.declared.record.Shape.{Shape}
use Rattle.apf_gate.specs.declared.record.Service.TheVariants.{Held}
use Rattle.apf_gate.specs.declared.record.PassRecord.{PassRecord}
use Rattle.apf_gate.specs.declared.record.DeskRecord.{DeskRecord}
use Rattle.apf_gate.specs.declared.record.StationRecord.{StationRecord}
use Rattle.apf_gate.specs.declared.record.Record.{Record}
use Rattle.apf_gate.specs.declared.record.Record.TheVariants.{Pass, Desk, Station}
use Rattle.apf_gate.specs.declared.record.Actor.{Actor}
use Rattle.apf_gate.specs.declared.record.Actor.TheVariants.{OfPass, OfDesk, OfStation}
use Rattle.apf_gate.specs.declared.record.Entry.{Entry}
use Rattle.apf_gate.specs.Records.{service}
use Rattle.apf_gate.specs.Traces.{entry, world_of, NoneOf, GoesOn}
use Rattle.std.proofs.lemmas.List.{append-nil}
use Rattle.apf_gate.specs.Requests.{IsRequest}
use Rattle.apf_gate.specs.Slots.{slot_of}
use Rattle.apf_gate.specs.Account.{Account, HoldsSlot, IsKnown}
use Rattle.apf_gate.proofs.Slots.{apart_from, slots_after}
use Rattle.apf_gate.specs.Rule.{Packs, IsRuled}
use Rattle.apf_gate.proofs.Puts.{put_here, put_else}
use Rattle.apf_gate.proofs.Later.{IsNext, known_later, other_pass, other_station, own_newest, not_longer}
use Rattle.apf_gate.proofs.Requests.{IsSame, request_elsewhere}
use Rattle.apf_gate.proofs.Views.{Table, kept}

-- an exchange goes by cases on whether it found what it expected
pub by_found : (P : Bool → Type 0) (n expected : ℕ) → (n ≡ expected → P true) → (n ≢ expected → P false) → P (n == expected)
by_found P n expected hit miss = dite (ℕ_discrete n expected) (λ e. subst P (sym (eq-eqb n expected e)) (hit e)) (λ ne. subst P (sym (ne_eqb n expected ne)) (miss ne))

-- the table after a step that leaves the number n in the word i, and the view v at the seat
abbrev pub left : Table → ℕ → ℕ → ℕ → List Record → Table
left t i n id v = record { words = set t.words i n; homes = t.homes; views = set t.views id v }

module _ (s : Shape) where
  -- what an exchange of the word i for the number new owes, by whether it was made
  abbrev pub Exchanged : Table → ℕ → ℕ → ℕ → (Bool → List Record → Type 0) → Bool → Type 0
  Exchanged t i new id Says made = (v : List Record) × (a : Act (Unit {0})) × Valid t.homes [] a × IsRuled s (stepped t i (either made new (slice_index t.words i)) id [] v a) × ((carried_after [] a ≡ []) × Says made v)

  -- a function that is changed at one place
  pub put_each : {A : Type 0} (P : ℕ → A → Type 0) (f : ℕ → A) (r : ℕ) (a : A) → P r a → (j : ℕ) → (j ≢ r → P j (f j)) → P j (put f r a j)
  put_each P f r a mine j rest = dite (ℕ_discrete j r)
      (λ e. subst (λ y. P y (put f r a y)) (sym e) (subst (P r) (sym (put_here f r a)) mine))
      (λ ne. subst (P j) (sym (put_else f r a j ne)) (rest ne))

  module _ (t : Table) (h : IsRuled s t) (id i n : ℕ) (m : Option Move) where
    abbrev g : Account
    g = h.account

    abbrev w : World
    w = world_of s h.account.trace

    -- what is noted stays, where the record of one Pass changes
    noted_as : (p q : PassRecord) (r : ℕ) → q.past ≡ p.past → h.account.pass r ≡ p → (j : ℕ) → (put h.account.pass r q j).past ≡ (h.account.pass j).past
    noted_as p q r past was j = dite (ℕ_discrete j r)
        (λ e. subst (λ y. (put h.account.pass r q y).past ≡ (h.account.pass y).past) (sym e) (ap (λ (o : PassRecord). o.past) (put_here h.account.pass r q) ∙ (past ∙ ap (λ (o : PassRecord). o.past) (sym was))))
        (λ ne. ap (λ (o : PassRecord). o.past) (put_else h.account.pass r q j ne))

    -- the record of one Pass changes, to one that saw no less
    grows : (p q : PassRecord) (r : ℕ) → h.account.pass r ≡ p → length p.knows.trace ≤ length q.knows.trace → (j : ℕ) → length (h.account.pass j).knows.trace ≤ length (put h.account.pass r q j).knows.trace
    grows p q r was more j = dite (ℕ_discrete j r)
        (λ e. let a = ap (λ y. length (h.account.pass y).knows.trace) e in let b = ap (λ (o : PassRecord). length o.knows.trace) was in let c = ap (λ y. length (put h.account.pass r q y).knows.trace) e in let d = ap (λ (o : PassRecord). length o.knows.trace) (put_here h.account.pass r q) in omega arith)
        (λ ne. let a = ap (λ (o : PassRecord). length o.knows.trace) (put_else h.account.pass r q j ne) in omega arith)

    -- no two Passes have one name
    same_pass : (r j : ℕ) → OfPass r ≡ OfPass j → r ≡ j
    same_pass r j e = ap number_of e
      where
        number_of : Actor → ℕ
        number_of (OfPass n) = n
        number_of OfDesk = 0
        number_of (OfStation k) = 0

    -- of who did not hold the slot yet there is no step
    no_later : (r c j : ℕ) → r ≡ j → HoldsSlot h.account r → slot_of c ≡ slot_of j → j < c → c < length s.widths → NoneOf (OfPass c) h.account.trace
    no_later r c j is holds same l inside =
        let at : h.account.current (slot_of c) ≡ r = ap h.account.current (same ∙ ap slot_of (sym is)) ∙ holds in
        let fresh = (h.slots.later c inside (omega arith)).0 in
        let n = subst (λ (o : PassRecord). GoesOn h.account.trace (OfPass c) o.knows.trace) fresh (h.sound.pass_knows c inside).newer in
        subst (NoneOf (OfPass c)) (sym (append-nil n.0) ∙ n.1) n.2

    -- a step of a Pass, after which its record is q
    pub pass_step : (p q : PassRecord) → get_elem? t.views id ≡ some (Pass p ∷ []) → IsNext s (OfPass p.number) m h.account.trace
        → ((j : ℕ) → j ≢ p.number → IsSame (world_of s h.account.trace) (world_of s (entry (OfPass p.number) m ∷ h.account.trace)) j)
        → Packs s h.account.current (set t.words i n) (world_of s (entry (OfPass p.number) m ∷ h.account.trace))
        → IsRequest s p.number q (service h.account.desk p.number) (world_of s (entry (OfPass p.number) m ∷ h.account.trace))
        → IsKnown s (OfPass p.number) q.knows (entry (OfPass p.number) m ∷ h.account.trace)
        → q.past ≡ p.past
        → IsRuled s (left t i n id (Pass q ∷ []))
    pass_step p q at next elsewhere packs mine known past =
        let r = p.number in
        let es : List Entry = entry (OfPass r) m ∷ g.trace in
        let was = (h.views id (Pass p ∷ []) at).0.0 in
        let w' = world_of s es in
        let g' : Account = record g { trace = es; pass = put g.pass r q } in
        let number = mine.tied.number in
        kept s t h id i n (Pass q ∷ []) g'
        (record {
          seat = λ x. refl;
          pass = λ j away. put_else g.pass r q j (λ e. away (ap (λ x. g.seat (2 * slot_of x + 1)) e ∙ was.0));
          current = λ _ _. refl;
          desk = λ _. refl;
          station = λ _ _. refl;
        })
        (((ap (λ x. g.seat (2 * slot_of x + 1)) number ∙ was.0, (subst (λ x. x < length s.widths) (sym number) was.1.0, ap (put g.pass r q) number ∙ put_here g.pass r q, subst (HoldsSlot g) (sym number) was.1.2)), tt), (tt, tt))
        (record {
          schedule = next.schedule;
          made = (was.1.0, next.made, h.sound.made);
          request = λ j l. put_each (λ k o. IsRequest s k o (service g.desk k) w') g.pass r q mine j
              (λ ne. request_elsewhere s j (g.pass j) (service g.desk j) w w' (elsewhere j ne) next.later.closed (h.sound.request j l));
          pass_knows = λ j l. put_each (λ k o. IsKnown s (OfPass k) o.knows es) g.pass r q known j (λ ne. known_later s (g.pass j).knows (OfPass j) (OfPass r) m g.trace (other_pass j r ne) next.later (h.sound.pass_knows j l));
          desk_knows = known_later s g.desk.knows OfDesk (OfPass r) m g.trace (λ x. cc) next.later h.sound.desk_knows;
          station_knows = λ k. known_later s (g.station k).knows (OfStation k) (OfPass r) m g.trace (λ x. cc) next.later (h.sound.station_knows k);
          held = h.sound.held;
          is_held = h.sound.is_held;
        })
        (slots_after s g g' h.slots (λ _. refl) (λ j l no. let ne = apart_from g r j was.1.2 no in (elsewhere j ne, put_else g.pass r q j ne))
        (noted_as p q r past was.1.1) (λ j e. subst (HoldsSlot g) (same_pass r j e) was.1.2)
        (grows p q r was.1.1 (let a = not_longer s (OfPass r) g.trace (g.pass r).knows.trace (h.sound.pass_knows r was.1.0).newer in let b = ap (λ (l : List Entry). length l) (own_newest s (OfPass r) known.newer.0 q.knows.trace m g.trace known.newer.1 known.newer.2) in let c = ap (λ (o : PassRecord). length o.knows.trace) was.1.1 in omega arith))
        ((λ j c e same l inside. no_later r c j (same_pass r j e) was.1.2 same l inside), h.slots.order))
        packs

    -- a step of a Station, after which its record is c'
    pub station_step : (c c' : StationRecord) → get_elem? t.views id ≡ some (Station c ∷ []) → IsNext s (OfStation c.number) m h.account.trace
        → ((j : ℕ) → j < length s.widths → ¬ HoldsSlot h.account j → IsSame (world_of s h.account.trace) (world_of s (entry (OfStation c.number) m ∷ h.account.trace)) j)
        → ((r : ℕ) → r < length s.widths → IsRequest s r (h.account.pass r) (service h.account.desk r) (world_of s (entry (OfStation c.number) m ∷ h.account.trace)))
        → Packs s h.account.current (set t.words i n) (world_of s (entry (OfStation c.number) m ∷ h.account.trace))
        → c'.number ≡ c.number
        → IsKnown s (OfStation c.number) c'.knows (entry (OfStation c.number) m ∷ h.account.trace)
        → IsRuled s (left t i n id (Station c' ∷ []))
    station_step c c' at next elsewhere requests packs number known =
        let k = c.number in
        let es : List Entry = entry (OfStation k) m ∷ g.trace in
        let was = (h.views id (Station c ∷ []) at).0.0 in
        let g' : Account = record g { trace = es; station = put g.station k c' } in
        kept s t h id i n (Station c' ∷ []) g'
        (record {
          seat = λ x. refl;
          pass = λ _ _. refl;
          current = λ _ _. refl;
          desk = λ _. refl;
          station = λ j away. put_else g.station k c' j (λ e. away (ap (λ x. g.seat (2 * x + 2)) e ∙ was.0));
        })
        (((ap (λ x. g.seat (2 * x + 2)) number ∙ was.0, (subst (λ x. x < s.stations) (sym number) was.1.0, ap (put g.station k c') number ∙ put_here g.station k c')), tt), (tt, tt))
        (record {
          schedule = next.schedule;
          made = (was.1.0, next.made, h.sound.made);
          request = requests;
          pass_knows = λ j l. known_later s (g.pass j).knows (OfPass j) (OfStation k) m g.trace (λ x. cc) next.later (h.sound.pass_knows j l);
          desk_knows = known_later s g.desk.knows OfDesk (OfStation k) m g.trace (λ x. cc) next.later h.sound.desk_knows;
          station_knows = λ j. put_each (λ k o. IsKnown s (OfStation k) o.knows es) g.station k c' known j (λ ne. known_later s (g.station j).knows (OfStation j) (OfStation k) m g.trace (other_station j k ne) next.later (h.sound.station_knows j));
          held = h.sound.held;
          is_held = h.sound.is_held;
        })
        (slots_after s g g' h.slots (λ _. refl) (λ j l no. (elsewhere j l no, refl)) (λ _. refl) (λ j e. absurd (cc)) (λ j. omega arith) ((λ q c e. absurd (cc)), h.slots.order))
        packs

    -- a step of the Desk, after which its record is d'
    pub desk_step : (d d' : DeskRecord) → get_elem? t.views id ≡ some (Desk d ∷ []) → IsNext s OfDesk m h.account.trace
        → ((j : ℕ) → j < length s.widths → ¬ HoldsSlot h.account j → IsSame (world_of s h.account.trace) (world_of s (entry OfDesk m ∷ h.account.trace)) j)
        → ((r : ℕ) → r < length s.widths → IsRequest s r (h.account.pass r) (service d' r) (world_of s (entry OfDesk m ∷ h.account.trace)))
        → Packs s h.account.current (set t.words i n) (world_of s (entry OfDesk m ∷ h.account.trace))
        → IsKnown s OfDesk d'.knows (entry OfDesk m ∷ h.account.trace)
        → ((r : ℕ) → d'.held ≡ Some r → service d' r ≡ Held) → ((r : ℕ) → service d' r ≡ Held → d'.held ≡ Some r)
        → IsRuled s (left t i n id (Desk d' ∷ []))
    desk_step d d' at next elsewhere requests packs known held is_held =
        let es : List Entry = entry OfDesk m ∷ g.trace in
        let was = (h.views id (Desk d ∷ []) at).0.0 in
        let g' : Account = record g { trace = es; desk = d' } in
        kept s t h id i n (Desk d' ∷ []) g'
        (record { seat = λ x. refl; pass = λ _ _. refl; current = λ _ _. refl; desk = λ away. absurd (away was.0); station = λ _ _. refl })
        (((was.0, refl), tt), (tt, tt))
        (record {
          schedule = next.schedule;
          made = (tt, next.made, h.sound.made);
          request = requests;
          pass_knows = λ j l. known_later s (g.pass j).knows (OfPass j) OfDesk m g.trace (λ x. cc) next.later (h.sound.pass_knows j l);
          desk_knows = known;
          station_knows = λ k. known_later s (g.station k).knows (OfStation k) OfDesk m g.trace (λ x. cc) next.later (h.sound.station_knows k);
          held = held;
          is_held = is_held;
        })
        (slots_after s g g' h.slots (λ _. refl) (λ j l no. (elsewhere j l no, refl)) (λ _. refl) (λ j e. absurd (cc)) (λ j. omega arith) ((λ q c e. absurd (cc)), h.slots.order))
        packs

    -- a step of the Desk that a Pass is joined to, after which their records are q and d'
    pub both_step : (p q : PassRecord) (d d' : DeskRecord) → get_elem? t.views id ≡ some (Pass p ∷ Desk d ∷ []) → IsNext s OfDesk m h.account.trace
        → ((j : ℕ) → j ≢ p.number → IsSame (world_of s h.account.trace) (world_of s (entry OfDesk m ∷ h.account.trace)) j × (service d' j ≡ service h.account.desk j))
        → Packs s h.account.current (set t.words i n) (world_of s (entry OfDesk m ∷ h.account.trace))
        → IsRequest s p.number q (service d' p.number) (world_of s (entry OfDesk m ∷ h.account.trace))
        → IsKnown s (OfPass p.number) q.knows (entry OfDesk m ∷ h.account.trace) → IsKnown s OfDesk d'.knows (entry OfDesk m ∷ h.account.trace)
        → ((r : ℕ) → d'.held ≡ Some r → service d' r ≡ Held) → ((r : ℕ) → service d' r ≡ Held → d'.held ≡ Some r)
        → q.past ≡ p.past
        → q.knows.trace ≡ entry OfDesk m ∷ h.account.trace
        → IsRuled s (left t i n id (Pass q ∷ Desk d' ∷ []))
    both_step p q d d' at next elsewhere packs mine known known_desk held is_held past saw =
        let r = p.number in
        let es : List Entry = entry OfDesk m ∷ g.trace in
        let v = h.views id (Pass p ∷ Desk d ∷ []) at in
        let was = v.0.0 in
        let w' = world_of s es in
        let g' : Account = record g { trace = es; pass = put g.pass r q; desk = d' } in
        let number = mine.tied.number in
        kept s t h id i n (Pass q ∷ Desk d' ∷ []) g'
        (record {
          seat = λ x. refl;
          pass = λ j away. put_else g.pass r q j (λ y. away (ap (λ x. g.seat (2 * slot_of x + 1)) y ∙ was.0));
          current = λ _ _. refl;
          desk = λ away. absurd (away v.0.1.0.0);
          station = λ _ _. refl;
        })
        (((ap (λ x. g.seat (2 * slot_of x + 1)) number ∙ was.0, (subst (λ x. x < length s.widths) (sym number) was.1.0, ap (put g.pass r q) number ∙ put_here g.pass r q, subst (HoldsSlot g) (sym number) was.1.2)), ((v.0.1.0.0, refl), tt)), (((λ y. omega arith), tt), (tt, tt)))
        (record {
          schedule = next.schedule;
          made = (tt, next.made, h.sound.made);
          request = λ j l. put_each (λ k o. IsRequest s k o (service d' k) w') g.pass r q mine j
              (λ ne. subst (λ a. IsRequest s j (g.pass j) a w') (sym (elsewhere j ne).1) (request_elsewhere s j (g.pass j) (service g.desk j) w w' (elsewhere j ne).0 next.later.closed (h.sound.request j l)));
          pass_knows = λ j l. put_each (λ k o. IsKnown s (OfPass k) o.knows es) g.pass r q known j (λ ne. known_later s (g.pass j).knows (OfPass j) OfDesk m g.trace (λ x. cc) next.later (h.sound.pass_knows j l));
          desk_knows = known_desk;
          station_knows = λ k. known_later s (g.station k).knows (OfStation k) OfDesk m g.trace (λ x. cc) next.later (h.sound.station_knows k);
          held = held;
          is_held = is_held;
        })
        (slots_after s g g' h.slots (λ _. refl) (λ j l no. let ne = apart_from g r j was.1.2 no in ((elsewhere j ne).0, put_else g.pass r q j ne)) (noted_as p q r past was.1.1) (λ j e. absurd (cc))
        (grows p q r was.1.1 (let a = not_longer s (OfPass r) g.trace (g.pass r).knows.trace (h.sound.pass_knows r was.1.0).newer in let b = ap (λ (l : List Entry). length l) saw in let c = ap (λ (o : PassRecord). length o.knows.trace) was.1.1 in omega arith))
        ((λ j c e. absurd (cc)), h.slots.order))
        packs
