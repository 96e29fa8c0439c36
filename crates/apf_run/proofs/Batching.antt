-- A level of a batch, from call to call.
use Rattle.std.proofs.Common.{◌≡◌, ℕ, zero, suc, ◌*◌, ◌<◌, ◌≤◌, inl, inr, List, [], ◌∷◌, length, set, Option, Some, None, refl, sym, ap, ◌∙◌, subst, arith}
use Rattle.std.specs.Prelude.{map, slice_get, take, drop, reverse, max, min, ◌-◌, Result, Ok, Err, IfOk}
use Rattle.std.proofs.Math.Seq.{take-length}
use Rattle.std.proofs.lemmas.List.{length-reverse, length-map, reverse-append, map-append}
use Rattle.std.proofs.lemmas.List.Elements.{All-weaker}
use Rattle.std.proofs.lemmas.Option.{slice_get_within}
use Rattle.apf_words.specs.Limits.{max_queues}
use Rattle.apf_flow.specs.Deal.{hand_of}
use Rattle.apf_flow.specs.Sizes.{Sizes}
use Rattle.apf_history.specs.declared.events.Event.{Event}
use Rattle.apf_history.specs.declared.events.Event.TheVariants.{Enter, Full, Dispatch, Strike}
use Rattle.apf_history.specs.Standing.{EachNames}
use Rattle.apf_gate.specs.Slots.{slot_of}
use Rattle.apf_gate.specs.Tokens.{PassToken}
use Rattle.apf_book.specs.declared.life_event.LifeEvent.{LifeEvent}
use Rattle.apf_book.specs.Life.{LifeView, asked, then_came}
use Rattle.apf_book.specs.LifeBook.{IsLifeKept, then_came_all}
use Rattle.apf_book.specs.declared.recent_events.Copied.{Copied}
use Rattle.apf_book.specs.RecentEvents.{event_of, CopiesLate}
use Rattle.apf_local.specs.declared.admitting.Admitted.{Admitted}
use Rattle.apf_local.specs.declared.answer.Answer.{Answer}
use Rattle.apf_local.specs.declared.answer.Answer.TheVariants as answers
use Rattle.apf_local.specs.declared.answer.Place.{Place}
use Rattle.apf_local.specs.Levels.{LocalView, SameLocal, GoesOn, SlotMoves, LogsIn, IsEventOf, IsArrivalOfRenewed, ArrivesRenewed, IsFinish}
use Rattle.apf_local.specs.Tries.{IsReading, SlotsStay}
use Rattle.apf_model.specs.History.{request_of, queue_of, NamesRequests, NamesQueues, IsLegal}
use Rattle.apf_model.specs.Order.{AreCounted}
use Rattle.apf_book.specs.declared.life_event.LifeEvent.TheVariants as life
use Rattle.apf_run.specs.Batches.{by_slot, slotted, numbers_in, AreOfSlots, IsOfSlots, AreAll, IsRead}
use Rattle.apf_run.proofs.Copied.{all_requests, all_queues}
use Rattle.apf_run.proofs.Renaming.{hands_by, legal_by_slots, served_named}

some_is : {A : Type 0} (a b : A) → ◌≡◌ {A = Option A} (Some a) (Some b) → a ≡ b
some_is a b is = cc

-- the numbers stay where one Pass made a step for the same request
set_numbers : (ts : List PassToken) (i : ℕ) (before after : PassToken) → slice_get ts i ≡ Some before → after.pass.number ≡ before.pass.number → map (λ (t : PassToken). t.pass.number) (set ts i after) ≡ map (λ (t : PassToken). t.pass.number) ts
set_numbers [] i before after is same = refl
set_numbers (t ∷ ts) zero before after is same = ap (λ (n : ℕ). n ∷ map (λ (t : PassToken). t.pass.number) ts) (same ∙ ap (λ (x : PassToken). x.pass.number) (sym (some_is t before is)))
set_numbers (t ∷ ts) (suc i) before after is same = ap (λ (ns : List ℕ). t.pass.number ∷ ns) (set_numbers ts i before after is same)

number_at : (ts : List PassToken) (i : ℕ) (t : PassToken) → slice_get ts i ≡ Some t → slice_get (map (λ (x : PassToken). x.pass.number) ts) i ≡ Some t.pass.number
number_at [] i t is = absurd (let z : ◌≡◌ {A = Option PassToken} None (Some t) = is in cc)
number_at (x ∷ ts) zero t is = ap (λ (y : PassToken). Some y.pass.number) (some_is x t is)
number_at (x ∷ ts) (suc i) t is = number_at ts i t is

module _ (l l' : LocalView) (is : IsOfSlots l) (same : SameLocal l l') (numbers : numbers_in l' ≡ numbers_in l) where
  -- this history came about, which names the requests of the slots
  anew : (w : LifeView) → IsLifeKept w l'.owner.book → AreOfSlots (numbers_in l) w.history → IsOfSlots l'
  anew w kept names = record {
    view = w;
    kept = kept;
    of_slots = subst (λ (ns : List ℕ). AreOfSlots ns w.history) (sym numbers) names;
    numbered = subst (λ (ns : List ℕ). (i r : ℕ) → slice_get ns i ≡ Some r → slot_of r ≡ i) (sym numbers) is.numbered;
    few = (let s = same.owner.slots in let f = is.few in omega arith);
    queues = same.owner.book.queues ∙ (is.queues ∙ ap (λ (z : Sizes). z.deck) (sym same.sizes));
    deck = subst (λ (z : Sizes). z.deck ≤ max_queues) (sym same.sizes) is.deck;
    room = (let s = same.owner.slots in let r = same.owner.book.room in let f = is.room in omega arith);
  }

  pub goes_on : ((v : LifeView) → IsLifeKept v l.owner.book → GoesOn v l'.owner.book) → IsOfSlots l'
  goes_on history =
      let next = history is.view is.kept in
      anew (then_came_all next.events is.view) next.kept (served_named (numbers_in l) is.view.hands is.view.limit next.events is.view.history next.servings next.kept.of_life.fair.0 is.of_slots)

  -- the request of a slot came
  pub comes : (r : ℕ) (hand : List ℕ) (cost : ℕ) (a : Admitted) (event : Option LifeEvent) → slice_get (numbers_in l) (slot_of r) ≡ Some r → LogsIn is.view r hand cost a event l'.owner.book → IsOfSlots l'
  comes r hand cost a None of_r logs =
      let next = logs.2 in
      anew (then_came_all next.events is.view) next.kept (served_named (numbers_in l) is.view.hands is.view.limit next.events is.view.history next.servings next.kept.of_life.fair.0 is.of_slots)
  comes r hand cost a (Some event) of_r logs =
      let next = logs.2 in
      let w = then_came (asked is.view r hand cost) (event_of event) in
      anew (then_came_all next.events w) next.kept (served_named (numbers_in l) w.hands w.limit next.events w.history next.servings next.kept.of_life.fair.0 ((names (event_of event) logs.0).0, is.of_slots)) where
        named : (j : ℕ) → j ≡ r → slice_get (numbers_in l) (slot_of j) ≡ Some j
        named j e = subst (λ (n : ℕ). slice_get (numbers_in l) (slot_of n) ≡ Some n) (sym e) of_r

        names : (e : Event) → IsEventOf r a e → EachNames (λ (j : ℕ). slice_get (numbers_in l) (slot_of j) ≡ Some j) (e ∷ [])
        names (Enter j q) of = (named j of.0, tt)
        names (Full j q) of = (named j of.0, tt)
        names (Dispatch j q) of = absurd of
        names (Strike j q) of = absurd of

pub finish_numbers : (slot : ℕ) (l l' : LocalView) (answer : Answer) → IsFinish slot l answer l' → numbers_in l' ≡ numbers_in l
finish_numbers slot l l' answers.Wrong is = ap numbers_in is.0
finish_numbers slot l l' answers.Released moves = ap (map (λ (t : PassToken). t.pass.number)) moves.now ∙ set_numbers l.owner.passes slot moves.before moves.after moves.was moves.does.gives.number
finish_numbers slot l l' answers.Run is = absurd is
finish_numbers slot l l' (answers.Over d) is = absurd is
finish_numbers slot l l' answers.Busy is = absurd is
finish_numbers slot l l' answers.Waits is = absurd is
finish_numbers slot l l' answers.Spent is = absurd is

pub reading_numbers : (slot : ℕ) (l l' : LocalView) (place : Place) → IsReading slot l place l' → numbers_in l' ≡ numbers_in l
reading_numbers slot l l' place (inl moves) = ap (map (λ (t : PassToken). t.pass.number)) moves.now ∙ set_numbers l.owner.passes slot moves.before moves.after moves.was moves.does.reads.number
reading_numbers slot l l' place (inr stays) = ap numbers_in stays.0

pub stay_numbers : (l l' : LocalView) → SlotsStay l l' → numbers_in l' ≡ numbers_in l
stay_numbers l l' stay = ap (map (λ (t : PassToken). t.pass.number)) stay.passes

module _ (slot : ℕ) (l l' : LocalView) (event : Option LifeEvent) (is : IsOfSlots l) (same : SameLocal l l') where
  came : (answer : Answer) → SlotMoves slot l l' (ArrivesRenewed l.sizes l.owner.book answer event l'.owner.book) → IsOfSlots l'
  came answer moves =
      let there = number_at l.owner.passes slot moves.before moves.was in
      let own : slot_of moves.before.pass.number ≡ slot = is.numbered slot moves.before.pass.number there in
      let before : slice_get (numbers_in l) (slot_of moves.before.pass.number) ≡ Some moves.before.pass.number = ap (slice_get (numbers_in l)) own ∙ there in
      let after : slice_get (numbers_in l) (slot_of moves.after.pass.number) ≡ Some moves.after.pass.number = subst (λ (n : ℕ). slice_get (numbers_in l) (slot_of n) ≡ Some n) (sym moves.does.number) before in
      comes l l' is same (ap (map (λ (t : PassToken). t.pass.number)) moves.now ∙ set_numbers l.owner.passes slot moves.before moves.after moves.was moves.does.number)
      moves.after.pass.number (hand_of l.sizes moves.does.ask.hash) moves.does.ask.cost moves.does.admitted event after (moves.does.history is.view is.kept)

  pub arrival_kept : (answer : Answer) → IsArrivalOfRenewed slot l answer event l' → IsOfSlots l'
  arrival_kept answers.Wrong stays = subst IsOfSlots (sym stays.0) is
  arrival_kept answers.Spent moves = came answers.Spent moves
  arrival_kept answers.Run moves = came answers.Run moves
  arrival_kept (answers.Over d) moves = came (answers.Over d) moves
  arrival_kept answers.Busy moves = came answers.Busy moves
  arrival_kept answers.Waits moves = came answers.Waits moves
  arrival_kept answers.Released moves = came answers.Released moves

-- events that were copied from the first place on, of a history that is not longer than the room and what is kept, are all of it
pub all_copied : (capacity : ℕ) (h : List Event) (into into' : List LifeEvent) (answer : Copied) → CopiesLate capacity h 0 into answer into' → length h ≤ capacity → length h ≤ length into → map event_of (take answer.count into') ≡ reverse h
all_copied capacity h into into' answer copies few room =
    let from : answer.from ≡ 0 = (let s = copies.start in from_first (length h) capacity answer.from s few) in
    let count : answer.count ≡ length h = (let c = copies.count_is in all_fit (length h) (length into) answer.from answer.count from c room) in
    copies.copied ∙ (ap (λ (n : ℕ). take answer.count (drop n (reverse h))) from
    ∙ (ap (λ (n : ℕ). take n (reverse h)) (count ∙ sym (length-reverse h)) ∙ take-length (reverse h))) where
      from_first : (n k from : ℕ) → from ≡ max 0 (n - k) → n ≤ k → from ≡ 0
      from_first n k from is low = is ∙ (let none : n - k ≡ 0 = omega (arith, low) in ap (max 0) none)

      least : (n room : ℕ) → n ≤ room → min (n - 0) room ≡ n
      least n room low = omega (arith, low)

      all_fit : (n room from count : ℕ) → from ≡ 0 → count ≡ min (n - from) room → n ≤ room → count ≡ n
      all_fit n room from count first is low = is ∙ (ap (λ (x : ℕ). min (n - x) room) first ∙ least n room low)

-- the event of each by its slot
slotted_all : (all : List LifeEvent) → map by_slot all ≡ map slotted (map event_of all)
slotted_all [] = refl
slotted_all (life.Enter t q ∷ all) = ap (λ (es : List Event). Enter (slot_of t.number) q ∷ es) (slotted_all all)
slotted_all (life.Full t q ∷ all) = ap (λ (es : List Event). Full (slot_of t.number) q ∷ es) (slotted_all all)
slotted_all (life.Dispatch t q ∷ all) = ap (λ (es : List Event). Dispatch (slot_of t.number) q ∷ es) (slotted_all all)
slotted_all (life.Strike t q ∷ all) = ap (λ (es : List Event). Strike (slot_of t.number) q ∷ es) (slotted_all all)

turned : (h : List Event) → reverse (map slotted (reverse h)) ≡ map slotted h
turned [] = refl
turned (e ∷ h) = ap (λ (xs : List Event). reverse (map slotted xs)) (reverse-append (e ∷ []) h)
    ∙ (ap reverse (map-append slotted (reverse h) (e ∷ [])) ∙ (reverse-append (map slotted (reverse h)) (slotted e ∷ []) ∙ ap (λ (xs : List Event). slotted e ∷ xs) (turned h)))

slots_named : (numbers : List ℕ) (n : ℕ) → length numbers ≡ n → (h : List Event) → AreOfSlots numbers h → NamesRequests n (map slotted h)
slots_named numbers n long [] names = tt
slots_named numbers n long (e ∷ h) names = (one e (slice_get_within numbers (slot_of (request_of e)) (request_of e) names.0), slots_named numbers n long h names.1) where
  one : (e : Event) → slot_of (request_of e) < length numbers → request_of (slotted e) < n
  one (Enter r q) low = omega (arith, low, long)
  one (Full r q) low = omega (arith, low, long)
  one (Dispatch r q) low = omega (arith, low, long)
  one (Strike r q) low = omega (arith, low, long)

queues_by_slot : (n : ℕ) (h : List Event) → NamesQueues n h → NamesQueues n (map slotted h)
queues_by_slot n [] names = tt
queues_by_slot n (e ∷ h) names = (one e names.0, queues_by_slot n h names.1) where
  one : (e : Event) → queue_of e < n → queue_of (slotted e) < n
  one (Enter r q) low = low
  one (Full r q) low = low
  one (Dispatch r q) low = low
  one (Strike r q) low = low

-- a log that was copied by slots may be that of a level
pub read_of : (l : LocalView) (all : List LifeEvent) → IsOfSlots l → ((hands : ℕ → List ℕ) (limit : ℕ) (h : List Event) → IsLegal hands limit h → AreCounted h) → AreAll l all → IsRead l (map by_slot all)
read_of l all is counted copied widths one_each = record {
  legal = (hands_by (numbers_in l) is.view.hands, (is.view.limit, subst (IsLegal (hands_by (numbers_in l) is.view.hands) is.view.limit) (sym history) legal));
  have_widths = all_requests (length widths) (map by_slot all) (subst (NamesRequests (length widths)) (sym history) (subst (λ (n : ℕ). NamesRequests n (map slotted h)) (sym one_each) named));
  have_queues = All-weaker (λ (e : Event). queue_of e < l.sizes.deck) (λ (e : Event). queue_of e < max_queues) (λ e low. let d = is.deck in omega arith) (map by_slot all)
      (all_queues l.sizes.deck (map by_slot all) (subst (NamesQueues l.sizes.deck) (sym history) (queues_by_slot l.sizes.deck h (subst (λ (n : ℕ). NamesQueues n h) (sym is.kept.of_life.deck ∙ is.queues) is.kept.of_life.names_queues))));
  few_events = (let f = few in let m = is.few in let e = ap (λ (xs : List Event). length xs) history in let a = length-reverse (map by_slot all) in let b = length-map h slotted in omega arith);
  few_widths = (let m = is.few in omega arith);
} where
  h : List Event
  h = is.view.history

  legal : IsLegal (hands_by (numbers_in l) is.view.hands) is.view.limit (map slotted h)
  legal = legal_by_slots (numbers_in l) is.view.hands is.view.limit h is.of_slots is.kept.of_life.fair.0

  named : NamesRequests (length l.owner.passes) (map slotted h)
  named = slots_named (numbers_in l) (length l.owner.passes) (length-map l.owner.passes (λ (t : PassToken). t.pass.number)) h is.of_slots

  few : length h ≤ 2 * length l.owner.passes
  few = let c = (counted (hands_by (numbers_in l) is.view.hands) is.view.limit (map slotted h) legal).of_requests (length l.owner.passes) named in let b = length-map h slotted in omega arith

  events : map event_of all ≡ reverse h
  events = copied is.view is.kept is.room few is.few

  history : reverse (map by_slot all) ≡ map slotted h
  history = ap reverse (slotted_all all) ∙ (ap (λ (xs : List Event). reverse (map slotted xs)) events ∙ turned h)

-- what follows of each good result
pub of_each : {A E : Type 0} (P Q : A → Type 0) → ((a : A) → P a → Q a) → (r : Result A E) → IfOk r P → IfOk r Q
of_each P Q then (Ok a) is = then a is
of_each P Q then (Err e) is = tt
