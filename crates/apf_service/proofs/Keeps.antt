-- The numbers stay those of the slots, as the request of one slot goes on.
use Rattle.std.proofs.Common.{◌≡◌, ◌≢◌, ℕ, ◌+◌, ◌*◌, ◌%◌, ◌^◌, ◌<◌, ◌≤◌, List, length, get_or, set, inl, inr, refl, sym, ap, ◌∙◌, subst, arith}
use Rattle.std.specs.Prelude.{min, max, if◌then◌else◌, Option}
use Rattle.std.specs.List.{sum_by}
use Rattle.std.proofs.lemmas.Bool.{le-leb}
use Rattle.std.proofs.lemmas.List.{length-set}
use Rattle.apf_words.specs.Limits.{max_width}
use Rattle.apf_words.specs.declared.decision.Decision.{Decision}
use Rattle.apf_words.specs.declared.decision.Decision.TheVariants.{Execute, QueueFull, Closed, ConcurrencyLimit, Cancelled}
use Rattle.apf_gate.specs.declared.record.Shape.{Shape}
use Rattle.apf_gate.specs.declared.counts.Counts.{Counts}
use Rattle.apf_gate.specs.Tokens.{PassToken}
use Rattle.apf_gate.specs.Slots.{IsTicket, wide, coded_width, round_of, mark_of, next_of}
use Rattle.apf_book.specs.declared.life_event.LifeEvent.{LifeEvent}
use Rattle.apf_local.specs.declared.admitting.Admitted.{Admitted}
use Rattle.apf_local.specs.declared.admitting.Admitted.TheVariants as admitted
use Rattle.apf_line.specs.declared.attempts.Tried.{Tried}
use Rattle.apf_line.specs.declared.attempts.Tried.TheVariants as tries
use Rattle.apf_local.specs.declared.answer.Ask.{Ask}
use Rattle.apf_local.specs.declared.answer.Answer.{Answer}
use Rattle.apf_local.specs.declared.answer.Answer.TheVariants.{Run, Over, Busy, Waits, Released, Spent, Wrong}
use Rattle.apf_local.specs.declared.answer.Place.{Place}
use Rattle.apf_local.specs.declared.answer.Place.TheVariants as places
use Rattle.apf_local.specs.Levels.{LocalView, SameLocal, SlotMoves, Arrives, Finishes, IsArrival, IsFinish, answer_of, place_of}
use Rattle.apf_local.specs.Owners.{IsSlotOf}
use Rattle.apf_local.specs.Tries.{Tries, Waited, IsTry, IsReading, SlotsStay, answer_of_try, place_of_try}
use Rattle.apf_service.specs.declared.tally.Tally.{Tally}
use Rattle.apf_service.specs.Tallies.{Held, held_by, slots_of, decided_in, arrived_in, counted, started, queued, ended, finished, after_arrival, after_poll, after_finish, waits_in, runs_in, seats_in, rounds_in, IsTallyOf, IsTallied}
use Rattle.apf_service.specs.Kept.{width_in, no_slot}
use Rattle.apf_service.proofs.Slots.{held, reads_waiting, not_fresh, moved_slots, was_held, is_inside}
use Rattle.apf_service.proofs.Sums.{sum_at, part_at}

-- what one slot's change from one request or place to another does to the numbers
record Goes (old new : Held) (t t' : Tally) : Type 0 where
  waiting : t'.waiting + waits_in old ≡ t.waiting + waits_in new
  running : t'.running + runs_in old ≡ t.running + runs_in new
  seats : t'.seats + seats_in old ≡ t.seats + seats_in new
  arrived : arrived_in t' + rounds_in old ≤ arrived_in t + rounds_in new

goes_on : (slots : List Held) (slot : ℕ) (h : Held) (t t' : Tally) → slot < length slots → IsTallyOf slots t → Goes (get_or slots slot no_slot) h t t' → IsTallyOf (set slots slot h) t'
goes_on slots slot h t t' inside kept goes = record {
  waiting = omega (arith, kept.waiting, goes.waiting, sum_at waits_in slots slot h inside);
  running = omega (arith, kept.running, goes.running, sum_at runs_in slots slot h inside);
  seats = omega (arith, kept.seats, goes.seats, sum_at seats_in slots slot h inside);
  arrived = omega (arith, kept.arrived, goes.arrived, sum_at rounds_in slots slot h inside);
}

-- one more decision of any kind
pub decided_counted : (decision : Decision) (c : Counts) → decided_in (counted decision c) ≡ decided_in c + 1
decided_counted Execute c = omega arith
decided_counted QueueFull c = omega arith
decided_counted Closed c = omega arith
decided_counted ConcurrencyLimit c = omega arith
decided_counted Cancelled c = omega arith

-- the next request of a slot is of the next round
round_next : (r w : ℕ) → w ≤ max_width → round_of (next_of r w) ≡ round_of r + 1
round_next r w narrow = omega arith

-- a width in range is itself
wide_is : (k : ℕ) → 1 ≤ k → k ≤ 20000 → wide k ≡ k
wide_is k some few = ap (λ b. if b then max k 1 else 20000) (le-leb k 20000 few) ∙ (let e : max k 1 ≡ k = omega arith in e)

-- and of its own width
pub coded_next : (r w : ℕ) → 1 ≤ w → w ≤ max_width → coded_width (next_of r w) ≡ w
coded_next r w some narrow = ap wide (let mark : mark_of (next_of r w) % 32768 ≡ w = omega arith in mark) ∙ wide_is w some narrow

-- a slot's number of rounds is below what it can be given
rounds_below : (shape : Shape) (r : ℕ) → IsTicket shape r → round_of r < 2 ^ 46
rounds_below shape r is = let small = is.small in omega arith

-- the next request is of one round more, and has its own width
record IsNext (w r n : ℕ) : Type 0 where
  rounds : min (round_of r) (2 ^ 46) + 1 ≡ min (round_of n) (2 ^ 46)
  width : coded_width n ≡ w

is_next : (shape : Shape) (w r n : ℕ) → 1 ≤ w → w ≤ max_width → IsTicket shape r → n ≡ next_of r w → IsNext w r n
is_next shape w r n some narrow ticket is =
    let below = rounds_below shape r ticket in
    let next : round_of n ≡ round_of r + 1 = ap round_of is ∙ round_next r w narrow in
    record { rounds = omega arith; width = ap coded_width is ∙ coded_next r w some narrow }

-- nothing changed
goes_same : (old new : Held) (t : Tally) → new ≡ old → Goes old new t t
goes_same old new t same = record {
  waiting = ap (λ (x : Held). t.waiting + waits_in x) (sym same);
  running = ap (λ (x : Held). t.running + runs_in x) (sym same);
  seats = ap (λ (x : Held). t.seats + seats_in x) (sym same);
  arrived = omega (arith, ap rounds_in same);
}

-- the next request of a free slot came, and executes, waits or is over, or it did not come in
module _ (r n w : ℕ) (t : Tally) (next : IsNext w r n) where
  came_run : Goes (record { place = places.Free; number = r }) (record { place = places.Runs; number = n }) t (started w t)
  came_run = record {
    waiting = omega arith;
    running = omega arith;
    seats = omega (arith, next.width);
    arrived = omega (arith, next.rounds);
  }

  came_waits : Goes (record { place = places.Free; number = r }) (record { place = places.Waits; number = n }) t (queued t)
  came_waits = record {
    waiting = omega arith;
    running = omega arith;
    seats = omega arith;
    arrived = omega (arith, next.rounds);
  }

  came_over : (decision : Decision) → Goes (record { place = places.Free; number = r }) (record { place = places.Free; number = n }) t (ended decision t)
  came_over decision = record {
    waiting = omega arith;
    running = omega arith;
    seats = omega arith;
    arrived = omega (arith, next.rounds, decided_counted decision t.counts);
  }

  came_busy : Goes (record { place = places.Free; number = r }) (record { place = places.Free; number = n }) t t
  came_busy = record {
    waiting = omega arith;
    running = omega arith;
    seats = omega arith;
    arrived = omega (arith, next.rounds);
  }

  -- as it was admitted
  came_goes : (a : Admitted) → Goes (record { place = places.Free; number = r }) (record { place = place_of a; number = n }) t (after_arrival w (answer_of a) t)
  came_goes admitted.Run = came_run
  came_goes (admitted.Over decision) = came_over decision
  came_goes admitted.Waits = came_waits

  -- as its try came out
  tried_goes : (x : Tried) → Goes (record { place = places.Free; number = r }) (record { place = place_of_try x; number = n }) t (after_arrival w (answer_of_try x) t)
  tried_goes tries.Run = came_run
  tried_goes (tries.Over decision waiting) = came_over decision
  tried_goes tries.Blocked = came_busy
  tried_goes tries.Raced = came_busy

-- a request that executed gave its seats back
free_goes : (r n : ℕ) (t : Tally) → n ≡ r → 1 ≤ t.running → coded_width r ≤ t.seats → Goes (record { place = places.Runs; number = r }) (record { place = places.Free; number = n }) t (finished (coded_width r) t)
free_goes r n t same some seats = record {
  waiting = omega arith;
  running = omega (arith, some);
  seats = omega (arith, seats);
  arrived = omega (arith, ap (λ (x : ℕ). min (round_of x) (2 ^ 46)) same);
}

-- a request that waited is where its decision says
module _ (r n : ℕ) (t : Tally) (same : n ≡ r) (some : 1 ≤ t.waiting) where
  poll_goes : (place : Place) → ((ask : Ask) → place ≢ places.Fresh ask) → Goes (record { place = places.Waits; number = r }) (record { place = place; number = n }) t (after_poll (coded_width r) place t)
  poll_goes places.Runs other = record {
    waiting = omega (arith, some);
    running = omega arith;
    seats = omega (arith, ap coded_width same);
    arrived = omega (arith, some, ap (λ (x : ℕ). min (round_of x) (2 ^ 46)) same);
  }
  poll_goes places.Free other = record {
    waiting = omega (arith, some);
    running = omega arith;
    seats = omega arith;
    arrived = omega (arith, some, ap (λ (x : ℕ). min (round_of x) (2 ^ 46)) same);
  }
  poll_goes (places.Fresh ask) other = absurd (other ask refl)
  poll_goes places.Waits other = record {
    waiting = omega arith;
    running = omega arith;
    seats = omega arith;
    arrived = omega (arith, ap (λ (x : ℕ). min (round_of x) (2 ^ 46)) same);
  }

-- a call that did nothing
pub tallied_same : (l l' : LocalView) (t : Tally) → l' ≡ l → IsTallied l t → IsTallied l' t
tallied_same l l' t same kept = subst (λ (x : LocalView). IsTallied x t) (sym same) kept

-- a call by which no slot changed
pub tallied_stays : (l l' : LocalView) (t : Tally) → SameLocal l l' → SlotsStay l l' → IsTallied l t → IsTallied l' t
tallied_stays l l' t same stay kept = record {
  few = subst (λ (ps : List Place). length ps ≤ 10000) (sym stay.places) kept.few;
  each_its_pass = ap (λ (ts : List PassToken). length ts) stay.passes ∙ (kept.each_its_pass ∙ ap (λ (ps : List Place). length ps) (sym stay.places));
  room = same.owner.book.room ∙ (kept.room ∙ ap (λ (ps : List Place). 2 * length ps) (sym stay.places));
  numbers = subst (λ (hs : List Held). IsTallyOf hs t) (ap (λ (ps : List Place). held_by ps l.owner.passes) (sym stay.places) ∙ ap (λ (ts : List PassToken). held_by l'.places ts) (sym stay.passes)) kept.numbers;
}

-- a call by which one slot moved
module _ (slot : ℕ) (l l' : LocalView) (Does : Place → PassToken → Place → PassToken → Type 0) (m : SlotMoves slot l l' Does) where
  tallied_moves : SameLocal l l' → (t t' : Tally) → IsTallied l t → Goes (held m.place m.before) (held m.place' m.after) t t' → IsTallied l' t'
  tallied_moves same t t' kept goes =
      record {
        few = subst (λ (ps : List Place). length ps ≤ 10000) (sym m.now_at) (subst (λ (n : ℕ). n ≤ 10000) (sym (length-set l.places slot m.place')) kept.few);
        each_its_pass = ap (λ (ts : List PassToken). length ts) m.now ∙ (length-set l.owner.passes slot m.after ∙ (kept.each_its_pass ∙ (sym (length-set l.places slot m.place') ∙ ap (λ (ps : List Place). length ps) (sym m.now_at))));
        room = same.owner.book.room ∙ (kept.room ∙ (ap (λ (n : ℕ). 2 * n) (sym (length-set l.places slot m.place')) ∙ ap (λ (ps : List Place). 2 * length ps) (sym m.now_at)));
        numbers = subst (λ (hs : List Held). IsTallyOf hs t') (sym (moved_slots slot l l' Does m))
            (goes_on (slots_of l) slot (held m.place' m.after) t t' (is_inside slot l l' Does m) kept.numbers (subst (λ (h : Held). Goes h (held m.place' m.after) t t') (sym (was_held slot l l' Does m)) goes));
      }

  -- what the slot held is part of the sums
  part_of : (f : Held → ℕ) → f (held m.place m.before) ≤ sum_by f (slots_of l)
  part_of f = subst (λ (h : Held). f h ≤ sum_by f (slots_of l)) (was_held slot l l' Does m) (part_at f (slots_of l) slot (is_inside slot l l' Does m))

-- the next request of a free slot arrived
module _ (shape : Shape) (slot : ℕ) (ask : Ask) (l l' : LocalView) (same : SameLocal l l') (t : Tally) (kept : IsTallied l t) (some : 1 ≤ ask.width) (narrow : ask.width ≤ max_width)
    (number : ℕ) (ticket : IsTicket shape number) (of_slot : IsSlotOf l.owner.passes slot (λ x. number ≡ x.pass.number)) where
  arrived_keeps : (hand : List ℕ) (answer : Answer) (event : Option LifeEvent) → SlotMoves slot l l' (Arrives ask hand l.owner.book answer event l'.owner.book) → IsTallied l' (after_arrival ask.width answer t)
  arrived_keeps hand answer event m =
      let does = m.does in
      let next = is_next shape ask.width m.before.pass.number m.after.pass.number some narrow (subst (λ (n : ℕ). IsTicket shape n) (of_slot m.before m.was) ticket) does.number in
      let goes : Goes (record { place = places.Free; number = m.before.pass.number }) (record { place = place_of does.admitted; number = m.after.pass.number }) t (after_arrival ask.width (answer_of does.admitted) t)
      = came_goes m.before.pass.number m.after.pass.number ask.width t next does.admitted in
      tallied_moves slot l l' (Arrives ask hand l.owner.book answer event l'.owner.book) m same t (after_arrival ask.width answer t) kept
      (subst (λ (p : Place). Goes (record { place = p; number = m.before.pass.number }) (held m.place' m.after) t (after_arrival ask.width answer t)) (sym does.was_free)
      (subst (λ (p : Place). Goes (record { place = places.Free; number = m.before.pass.number }) (record { place = p; number = m.after.pass.number }) t (after_arrival ask.width answer t)) (sym does.place_is)
      (subst (λ (a : Answer). Goes (record { place = places.Free; number = m.before.pass.number }) (record { place = place_of does.admitted; number = m.after.pass.number }) t (after_arrival ask.width a t)) (sym does.answer_is) goes)))

  pub arrival_keeps : (hand : List ℕ) (answer : Answer) (event : Option LifeEvent) → IsArrival slot ask hand l answer event l' → IsTallied l' (after_arrival ask.width answer t)
  arrival_keeps hand Wrong event is = tallied_same l l' t is.0 kept
  arrival_keeps hand Spent event is = tallied_same l l' t is.0 kept
  arrival_keeps hand Run event m = arrived_keeps hand Run event m
  arrival_keeps hand (Over decision) event m = arrived_keeps hand (Over decision) event m
  arrival_keeps hand Busy event m = arrived_keeps hand Busy event m
  arrival_keeps hand Waits event m = arrived_keeps hand Waits event m
  arrival_keeps hand Released event m = arrived_keeps hand Released event m

  -- and where it tried
  tried_keeps : (answer : Answer) → SlotMoves slot l l' (Tries ask answer) → IsTallied l' (after_arrival ask.width answer t)
  tried_keeps answer m =
      let does = m.does in
      let next = is_next shape ask.width m.before.pass.number m.after.pass.number some narrow (subst (λ (n : ℕ). IsTicket shape n) (of_slot m.before m.was) ticket) does.number in
      let goes : Goes (record { place = places.Free; number = m.before.pass.number }) (record { place = place_of_try does.took; number = m.after.pass.number }) t (after_arrival ask.width (answer_of_try does.took) t)
      = tried_goes m.before.pass.number m.after.pass.number ask.width t next does.took in
      tallied_moves slot l l' (Tries ask answer) m same t (after_arrival ask.width answer t) kept
      (subst (λ (p : Place). Goes (record { place = p; number = m.before.pass.number }) (held m.place' m.after) t (after_arrival ask.width answer t)) (sym does.was_free)
      (subst (λ (p : Place). Goes (record { place = places.Free; number = m.before.pass.number }) (record { place = p; number = m.after.pass.number }) t (after_arrival ask.width answer t)) (sym does.place_is)
      (subst (λ (a : Answer). Goes (record { place = places.Free; number = m.before.pass.number }) (record { place = place_of_try does.took; number = m.after.pass.number }) t (after_arrival ask.width a t)) (sym does.answer_is) goes)))

  pub try_keeps : (answer : Answer) → IsTry slot ask l answer l' → IsTallied l' (after_arrival ask.width answer t)
  try_keeps Wrong is = tallied_same l l' t is.0 kept
  try_keeps Spent is = tallied_same l l' t is.0 kept
  try_keeps Run m = tried_keeps Run m
  try_keeps (Over decision) m = tried_keeps (Over decision) m
  try_keeps Busy m = tried_keeps Busy m
  try_keeps Waits m = tried_keeps Waits m
  try_keeps Released m = tried_keeps Released m

-- the seats of a request that gave them back are part of all
pub seats_there : (slot : ℕ) (l l' : LocalView) (t : Tally) → IsTallied l t → (answer : Answer) → IsFinish slot l answer l' → answer ≡ Released → (1 ≤ t.running) × (width_in (get_or (slots_of l) slot no_slot) ≤ t.seats)
seats_there slot l l' t kept answer finish is =
    let m : SlotMoves slot l l' Finishes = subst (λ (a : Answer). IsFinish slot l a l') is finish in
    let runs = subst (λ (p : Place). runs_in (record { place = p; number = m.before.pass.number }) ≤ sum_by runs_in (slots_of l)) m.does.ran (part_of slot l l' Finishes m runs_in) in
    let seats = subst (λ (p : Place). seats_in (record { place = p; number = m.before.pass.number }) ≤ sum_by seats_in (slots_of l)) m.does.ran (part_of slot l l' Finishes m seats_in) in
    (omega (arith, kept.numbers.running, runs), omega (arith, kept.numbers.seats, seats, ap width_in (was_held slot l l' Finishes m)))

-- the numbers stay those of the slots where a request gives its seats back
module _ (slot : ℕ) (l l' : LocalView) (same : SameLocal l l') (t : Tally) (kept : IsTallied l t) where
  released_keeps : IsFinish slot l Released l' → IsTallied l' (finished (width_in (get_or (slots_of l) slot no_slot)) t)
  released_keeps m =
      let room = seats_there slot l l' t kept Released m refl in
      let width : width_in (get_or (slots_of l) slot no_slot) ≡ coded_width m.before.pass.number = ap width_in (was_held slot l l' Finishes m) in
      let goes = free_goes m.before.pass.number m.after.pass.number t m.does.gives.number room.0 (omega (arith, room.1, width)) in
      tallied_moves slot l l' Finishes m same t (finished (width_in (get_or (slots_of l) slot no_slot)) t) kept
      (subst (λ (p : Place). Goes (record { place = p; number = m.before.pass.number }) (held m.place' m.after) t (finished (width_in (get_or (slots_of l) slot no_slot)) t)) (sym m.does.ran)
      (subst (λ (p : Place). Goes (record { place = places.Runs; number = m.before.pass.number }) (record { place = p; number = m.after.pass.number }) t (finished (width_in (get_or (slots_of l) slot no_slot)) t)) (sym m.does.place_is)
      (subst (λ (w : ℕ). Goes (record { place = places.Runs; number = m.before.pass.number }) (record { place = places.Free; number = m.after.pass.number }) t (finished w t)) (sym width) goes)))

  pub finish_keeps : (answer : Answer) → IsFinish slot l answer l' → IsTallied l' (after_finish (width_in (get_or (slots_of l) slot no_slot)) answer t)
  finish_keeps Wrong is = tallied_same l l' t is.0 kept
  finish_keeps Released m = released_keeps m
  finish_keeps Run is = absurd is
  finish_keeps (Over decision) is = absurd is
  finish_keeps Busy is = absurd is
  finish_keeps Waits is = absurd is
  finish_keeps Spent is = absurd is

-- who waits is counted as waiting
pub some_wait : (slot : ℕ) (l : LocalView) (t : Tally) → IsTallied l t → slot < length (slots_of l) → (get_or (slots_of l) slot no_slot).place ≡ places.Waits → 1 ≤ t.waiting
some_wait slot l t kept inside waits = omega (arith, kept.numbers.waiting, part_at waits_in (slots_of l) slot inside, ap (λ (p : Place). waits_in (record { place = p; number = 0 })) waits)

-- the numbers stay those of the slots where a request that waits reads its decision
module _ (slot : ℕ) (l l' : LocalView) (same : SameLocal l l') (t : Tally) (kept : IsTallied l t) where
  read_keeps : (place : Place) → SlotMoves slot l l' (Waited place) → IsTallied l' (after_poll (width_in (get_or (slots_of l) slot no_slot)) place t)
  read_keeps place m =
      let does = m.does in
      let was = was_held slot l l' (Waited place) m in
      let width : width_in (get_or (slots_of l) slot no_slot) ≡ coded_width m.before.pass.number = ap width_in was in
      let some = some_wait slot l t kept (is_inside slot l l' (Waited place) m) (ap (λ (h : Held). h.place) was ∙ does.waited) in
      let goes = poll_goes m.before.pass.number m.after.pass.number t does.reads.number some place (not_fresh place m.before m.after does.reads) in
      tallied_moves slot l l' (Waited place) m same t (after_poll (width_in (get_or (slots_of l) slot no_slot)) place t) kept
      (subst (λ (p : Place). Goes (record { place = p; number = m.before.pass.number }) (held m.place' m.after) t (after_poll (width_in (get_or (slots_of l) slot no_slot)) place t)) (sym does.waited)
      (subst (λ (p : Place). Goes (record { place = places.Waits; number = m.before.pass.number }) (record { place = p; number = m.after.pass.number }) t (after_poll (width_in (get_or (slots_of l) slot no_slot)) place t)) (sym does.place_is)
      (subst (λ (w : ℕ). Goes (record { place = places.Waits; number = m.before.pass.number }) (record { place = place; number = m.after.pass.number }) t (after_poll w place t)) (sym width) goes)))

  pub poll_keeps : (place : Place) → (get_or (slots_of l) slot no_slot).place ≡ places.Waits → IsReading slot l place l' → IsTallied l' (after_poll (width_in (get_or (slots_of l) slot no_slot)) place t)
  poll_keeps place waits (inl m) = read_keeps place m
  poll_keeps place waits (inr (is, at, not)) = absurd (not (reads_waiting l.places l.owner.passes slot place waits at))
