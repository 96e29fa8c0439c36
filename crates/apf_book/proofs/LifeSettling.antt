-- What a settlement leaves of the queues of slots.
use Rattle.std.proofs.Common.{◌≡◌, ℕ, ◌^◌, ◌<◌, ◌≤◌, Bool, cond, true, false, List, [], ◌∷◌, length, get_or, set, length-set, Option, Some, None, refl, sym, ap, ◌∙◌, subst, arith}
use Rattle.std.specs.Prelude.{Contains, slice_index}
use Rattle.std.proofs.lemmas.Bool.{eq-eqb, ne_eqb}
use Rattle.apf_gate.specs.Slots.{slot_of}
use Rattle.apf_history.specs.declared.events.Event.{Event}
use Rattle.apf_history.specs.declared.events.Charge.{Charge}
use Rattle.apf_history.specs.declared.events.LogEntry.{LogEntry}
use Rattle.apf_history.specs.declared.events.LogEntry.TheVariants.{Spends, Settles}
use Rattle.apf_model.specs.World.{width}
use Rattle.apf_model.specs.History.{IsLegal}
use Rattle.apf_model.specs.Charged.{charged_numbers, after_charge, charge_of, runs, IsAmong, IsSettled}
use Rattle.apf_queue.specs.View.{QueuesView, queue_count, queue_in, numbers_in, Settles as Recharges, MaySettle}
use Rattle.apf_model.specs.Fair.{Numbers}
use Rattle.apf_book.specs.Histories.{Stands}
use Rattle.apf_book.specs.Life.{LifeView, LifeState, IsLifeOf, holding, charge_in, then_settled, then_spent, SettlesOne, SpendsOne, CannotSettle, CannotSpend}
use Rattle.apf_book.proofs.Times.{life_charge_within}
use Rattle.apf_book.specs.Life.{SameSlots}
use Rattle.apf_book.specs.LifeBook.{LifeBookView, IsLifeKept, IsLived, SettlesLife, SpendsLife}
use Rattle.apf_book.proofs.Knowing.{more_same}
use Rattle.apf_book.proofs.LifeAsks.{asks_then}
use Rattle.apf_book.proofs.LifeKeeping.{life_rekept}
use Rattle.apf_book.proofs.LifeCharges.{kept_holds, kept_there, kept_inside, kept_settles, kept_then, still_unsettled}

module _ (stands : Stands) (v : LifeView) (s : LifeState) (is : IsLifeOf v s) (r : ℕ) (c : Charge) (kept : charge_in s r ≡ Some c) where
  -- the log has what is kept
  pub charged_by_log : charge_of v.costs v.log r ≡ Some c
  charged_by_log = sym (is.running r (kept_inside s r c kept) (kept_holds s r c kept)) ∙ kept_there s r c kept

  runs_so : IsAmong r c.amount (runs v.costs v.log c.queue)
  runs_so = stands.among v.costs v.log r c charged_by_log

  settled : IsSettled v.queues v.costs v.hands v.limit v.log
  settled = (subst (λ (h : List Event). IsLegal v.hands v.limit h) (sym is.events_are) is.fair.0, is.fair.1)

  -- the queue is one of the level's, and what it is charged is part of its number
  pub charge_queue : c.queue < queue_count s.queues
  charge_queue = let l = stands.from_queue v.queues v.costs v.hands v.limit v.log r c.amount c.queue settled runs_so in let d = is.deck in omega arith

  pub charge_covered : c.amount ≤ slice_index s.queues.next c.queue
  charge_covered =
      let l = stands.covered v.queues v.costs v.hands v.limit v.log c.queue r c.amount settled runs_so in
      let e : slice_index s.queues.next c.queue ≡ (charged_numbers v.queues v.costs v.log).next c.queue = ap (λ (n : Numbers). n.next c.queue) is.numbers_are in omega arith

  module _ (m : ℕ) (t : QueuesView) (d : Recharges s.queues t c.queue c.amount m) (early : MaySettle s.queues c.queue) (low : m ≤ 2 ^ 46) where
    same_queue : (p : ℕ) → queue_in t p ≡ queue_in s.queues p
    same_queue p = ap (λ (x : List (List ℕ)). get_or x p []) d.queues

    -- nothing but a number changes, and what is kept of one slot
    pub life_settles : IsLifeOf (then_settled v r c.queue c.amount m) (record { queues = t; holders = s.holders; hand = s.hand; known = s.known; running = set s.running (slot_of r) None })
    life_settles = record {
      queue_is = λ p. ap (holding s.holders) (same_queue p) ∙ is.queue_is p;
      in_slots = λ p slot k. is.in_slots p slot (subst (λ (xs : List ℕ). Contains xs slot) (same_queue p) k);
      in_place = λ p slot k. is.in_place p slot (subst (λ (xs : List ℕ). Contains xs slot) (same_queue p) k);
      fair = (is.fair.0, (runs_so, is.fair.1));
      events_are = is.events_are;
      numbers_are = d.numbers ∙ ap (after_charge c.queue c.amount m) is.numbers_are;
      within = life_charge_within v.history c.queue c.amount m (numbers_in s.queues) (numbers_in t) early low is.within d.numbers;
      charged = λ p slot k. ap (λ (x : List ℕ). width x slot) d.costs ∙ is.charged p slot (subst (λ (xs : List ℕ). Contains xs slot) (same_queue p) k);
      deck = ap (λ (x : List (List ℕ)). length x) d.queues ∙ is.deck;
      limit = d.length_limit ∙ is.limit;
      one_holder_each = is.one_holder_each ∙ sym (ap (λ (x : List ℕ). length x) d.costs);
      names_queues = is.names_queues;
      names_requests = is.names_requests;
      low = is.low;
      few = is.few;
      holders_are = is.holders_are;
      running = kept_then s.running s.holders (slot_of r) r None (charge_of v.costs v.log) (charge_of v.costs (Settles r c.queue c.amount m ∷ v.log)) (kept_holds s r c kept)
          (ap (λ (b : Bool). cond b None (charge_of v.costs v.log r)) (eq-eqb r r refl))
          (λ j ne. ap (λ (b : Bool). cond b None (charge_of v.costs v.log j)) (ne_eqb r j (λ e. ne (sym e)))) refl (λ j l holds other. is.running j l holds);
      unsettled = λ none. absurd (kept_settles s r c kept (still_unsettled s.running (set s.running (slot_of r) None) (length-set s.running (slot_of r) None) none));
    }

    pub life_spends : IsLifeOf (then_spent v r c.queue c.amount m) (record { queues = t; holders = s.holders; hand = s.hand; known = s.known; running = set s.running (slot_of r) (Some (record { queue = c.queue; amount = m })) })
    life_spends = record {
      queue_is = life_settles.queue_is;
      in_slots = life_settles.in_slots;
      in_place = life_settles.in_place;
      fair = (is.fair.0, (runs_so, is.fair.1));
      events_are = is.events_are;
      numbers_are = life_settles.numbers_are;
      within = life_settles.within;
      charged = life_settles.charged;
      deck = life_settles.deck;
      limit = life_settles.limit;
      one_holder_each = life_settles.one_holder_each;
      names_queues = is.names_queues;
      names_requests = is.names_requests;
      low = is.low;
      few = is.few;
      holders_are = is.holders_are;
      running = kept_then s.running s.holders (slot_of r) r (Some (record { queue = c.queue; amount = m })) (charge_of v.costs v.log) (charge_of v.costs (Spends r c.queue c.amount m ∷ v.log)) (kept_holds s r c kept)
          (ap (λ (b : Bool). cond b (Some (record { queue = c.queue; amount = m })) (charge_of v.costs v.log r)) (eq-eqb r r refl))
          (λ j ne. ap (λ (b : Bool). cond b (Some (record { queue = c.queue; amount = m })) (charge_of v.costs v.log j)) (ne_eqb r j (λ e. ne (sym e)))) refl (λ j l holds other. is.running j l holds);
      unsettled = λ none. absurd (kept_settles s r c kept (still_unsettled s.running (set s.running (slot_of r) (Some (record { queue = c.queue; amount = m }))) (length-set s.running (slot_of r) (Some (record { queue = c.queue; amount = m }))) none));
    }

-- what a settlement comes to, of every log that the queues are of
pub settles_one : Stands → (s : LifeState) (r : ℕ) (c : Charge) → charge_in s r ≡ Some c → (m : ℕ) (t : QueuesView) (running : List (Option Charge)) → running ≡ set s.running (slot_of r) None
    → Recharges s.queues t c.queue c.amount m → MaySettle s.queues c.queue → m ≤ 2 ^ 46 → SettlesOne s r m (record { queues = t; holders = s.holders; hand = s.hand; known = s.known; running = running })
settles_one stands s r c kept m t running is d early low = record {
  charge = c;
  was = kept;
  by_log = λ v of. charged_by_log stands v s of r c kept;
  settles = λ v of. subst (λ (x : List (Option Charge)). IsLifeOf (then_settled v r c.queue c.amount m) (record { queues = t; holders = s.holders; hand = s.hand; known = s.known; running = x })) (sym is) (life_settles stands v s of r c kept m t d early low);
}

pub spends_one : Stands → (s : LifeState) (r : ℕ) (c : Charge) → charge_in s r ≡ Some c → (m : ℕ) (t : QueuesView) (running : List (Option Charge)) → running ≡ set s.running (slot_of r) (Some (record { queue = c.queue; amount = m })) → c.amount < m
    → Recharges s.queues t c.queue c.amount m → MaySettle s.queues c.queue → m ≤ 2 ^ 46 → SpendsOne s r m (record { queues = t; holders = s.holders; hand = s.hand; known = s.known; running = running })
spends_one stands s r c kept m t running is more d early low = record {
  charge = c;
  was = kept;
  by_log = λ v of. charged_by_log stands v s of r c kept;
  more = more;
  spends = λ v of. subst (λ (x : List (Option Charge)). IsLifeOf (then_spent v r c.queue c.amount m) (record { queues = t; holders = s.holders; hand = s.hand; known = s.known; running = x })) (sym is) (life_spends stands v s of r c kept m t d early low);
}

-- a book that is of another log of the same history
pub book_charged : (v : LifeView) (log : List LogEntry) (b : LifeBookView) (queues : LifeState) → IsLifeKept v b → SameSlots b.queues queues → IsLifeOf (record v { log = log }) queues → IsLifeKept (record v { log = log }) (record b { queues = queues })
book_charged v log b queues kept slots of =
    let more = more_same b.desk.desk.knows in
    life_rekept v (record v { log = log }) b (record b { queues = queues }) kept more kept.no_queues refl slots of kept.agrees kept.notes (λ none. asks_then v b.queues queues b.desk.desk.knows b.desk.desk.knows slots.1 more (kept.asks (sym slots.2 ∙ none)))

-- what the queues' settlement makes of a book
pub settles_life : (v : LifeView) (b : LifeBookView) (r m : ℕ) (answer : Bool) (queues : LifeState) → IsLifeKept v b → SameSlots b.queues queues
    → (answer ≡ true → SettlesOne b.queues r m queues) → (answer ≡ false → (queues ≡ b.queues) × CannotSettle b.queues r) → SettlesLife v b r m answer (record b { queues = queues })
settles_life v b r m true queues kept slots settles cannot =
    let one = settles refl in
    (one.charge, one.was, one.by_log v kept.of_life, book_charged v (Settles r one.charge.queue one.charge.amount m ∷ v.log) b queues kept slots (one.settles v kept.of_life))
settles_life v b r m false queues kept slots settles cannot = let no = cannot refl in (ap (λ (s : LifeState). record b { queues = s }) no.0, no.1)

pub spends_life : (v : LifeView) (b : LifeBookView) (r m : ℕ) (answer : Bool) (queues : LifeState) → IsLifeKept v b → SameSlots b.queues queues
    → (answer ≡ true → SpendsOne b.queues r m queues) → (answer ≡ false → (queues ≡ b.queues) × CannotSpend b.queues r m) → SpendsLife v b r m answer (record b { queues = queues })
spends_life v b r m true queues kept slots spends cannot =
    let one = spends refl in
    (one.charge, one.was, one.by_log v kept.of_life, one.more, book_charged v (Spends r one.charge.queue one.charge.amount m ∷ v.log) b queues kept slots (one.spends v kept.of_life))
spends_life v b r m false queues kept slots spends cannot = let no = cannot refl in (ap (λ (s : LifeState). record b { queues = s }) no.0, no.1)

-- it is of a history still
pub settles_lived : (v : LifeView) (b : LifeBookView) (r m : ℕ) (answer : Bool) (b' : LifeBookView) → IsLifeKept v b → SettlesLife v b r m answer b' → IsLived b'
settles_lived v b r m true b' kept settles = record { view = then_settled v r settles.0.queue settles.0.amount m; kept = settles.3 }
settles_lived v b r m false b' kept settles = record { view = v; kept = subst (λ (x : LifeBookView). IsLifeKept v x) (sym settles.0) kept }

pub spends_lived : (v : LifeView) (b : LifeBookView) (r m : ℕ) (answer : Bool) (b' : LifeBookView) → IsLifeKept v b → SpendsLife v b r m answer b' → IsLived b'
spends_lived v b r m true b' kept spends = record { view = then_spent v r spends.0.queue spends.0.amount m; kept = spends.4 }
spends_lived v b r m false b' kept spends = record { view = v; kept = subst (λ (x : LifeBookView). IsLifeKept v x) (sym spends.0) kept }

-- it has as many queues
pub settles_queues : (v : LifeView) (b : LifeBookView) (r m : ℕ) (answer : Bool) (b' : LifeBookView) → IsLifeKept v b → SettlesLife v b r m answer b' → queue_count b'.queues.queues ≡ queue_count b.queues.queues
settles_queues v b r m true b' kept settles = settles.3.of_life.deck ∙ sym kept.of_life.deck
settles_queues v b r m false b' kept settles = ap (λ (x : LifeBookView). queue_count x.queues.queues) settles.0

pub spends_queues : (v : LifeView) (b : LifeBookView) (r m : ℕ) (answer : Bool) (b' : LifeBookView) → IsLifeKept v b → SpendsLife v b r m answer b' → queue_count b'.queues.queues ≡ queue_count b.queues.queues
spends_queues v b r m true b' kept spends = spends.4.of_life.deck ∙ sym kept.of_life.deck
spends_queues v b r m false b' kept spends = ap (λ (x : LifeBookView). queue_count x.queues.queues) spends.0
