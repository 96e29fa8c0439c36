-- Each line counts the requests that came by it, and no others.
use Rattle.std.proofs.Common.{◌≡◌, ◌≢◌, ℕ, ◌+◌, ◌≤◌, Bool, true, false, List, [], ◌∷◌, set, inl, inr, Option, Some, None, Result, refl, sym, ap, ◌∙◌, subst, arith}
use Rattle.std.specs.List.{sum_by}
use Rattle.apf_gate.specs.Slots.{slot_of}
use Rattle.apf_gate.specs.StationCalls.{TriesToCancel, ClosesTo}
use Rattle.apf_gate.specs.Tokens.{PassToken}
use Rattle.apf_gate.specs.declared.record.StationRecord.{StationRecord}
use Rattle.apf_gate.specs.declared.answers.Cancel.{Cancel}
use Rattle.apf_gate.specs.declared.answers.Cancel.TheVariants as cancels
use Rattle.apf_gate.specs.declared.answers.Close.{Close}
use Rattle.apf_gate.specs.declared.answers.Close.TheVariants as closes
use Rattle.apf_flow.specs.Deal.{hand_of}
use Rattle.apf_book.specs.declared.life_event.LifeEvent.{LifeEvent}
use Rattle.apf_book.specs.declared.life_event.LifeEvent.TheVariants as events
use Rattle.apf_book.specs.Life.{LifeView}
use Rattle.apf_book.specs.LifeBook.{LifeBookView, IsLived}
use Rattle.apf_local.specs.declared.admitting.Admitted.{Admitted}
use Rattle.apf_local.specs.declared.admitting.Admitted.TheVariants as admitted
use Rattle.apf_line.specs.declared.attempts.Tried.{Tried}
use Rattle.apf_line.specs.declared.attempts.Tried.TheVariants as tries
use Rattle.apf_local.specs.declared.answer.Ask.{Ask}
use Rattle.apf_local.specs.declared.answer.Answer.{Answer}
use Rattle.apf_local.specs.declared.answer.Answer.TheVariants.{Run, Over, Busy, Waits, Released, Spent, Wrong}
use Rattle.apf_local.specs.declared.answer.Place.{Place}
use Rattle.apf_local.specs.declared.answer.Place.TheVariants as places
use Rattle.apf_local.specs.Levels.{LocalView, SlotMoves, Arrives, Finishes, IsArrival, IsFinish, LogsIn, answer_of, place_of}
use Rattle.apf_local.specs.Owners.{Sets}
use Rattle.apf_local.specs.Tries.{Tries, Waited, IsTry, IsReading, answer_of_try, place_of_try}
use Rattle.apf_protocol.specs.declared.answer.Answer.{Answer as Told}
use Rattle.apf_protocol.specs.declared.arrival.Arrival.{Arrival}
use Rattle.apf_protocol.specs.declared.command.Command.{Command}
use Rattle.apf_protocol.specs.declared.command.Command.TheVariants as commands
use Rattle.apf_charges.specs.declared.charges.Charges.{Charges}
use Rattle.apf_service.specs.declared.state.Asked.{Asked}
use Rattle.apf_service.specs.declared.replies.Refusal.{Refusal}
use Rattle.apf_service.specs.declared.tally.Tally.{Tally}
use Rattle.apf_service.specs.Tallies.{Held, held_by, slots_of, arrived_in, finished, after_arrival, after_poll, after_finish, waits_in, waits_at, IsTallyOf}
use Rattle.apf_service.specs.Kept.{State, slot_in, width_in, Polls, Leaves, Follows, FollowsAll, asked_at, charged_by, with_event}
use Rattle.apf_service.specs.Replies.{told_of_arrival, told_of_attempt, told_of_finish, told_of_spent, told_of_cancel, told_of_close}
use Rattle.apf_book.specs.Life.{charge_in}
use Rattle.apf_service.specs.Turns.{Turns, ArrivesAt, TriesAt, FinishesAt, SpendsAt, OperatorDoes, asks, ask_of, charges_after, queues_after}
use Rattle.apf_service.specs.Counted.{came_by}
use Rattle.apf_service.proofs.Slots.{held, reads_waiting, not_fresh, moved_slots, was_held, is_inside}
use Rattle.apf_service.proofs.Sums.{sum_at, part_at}
use Rattle.apf_service.proofs.Keeps.{decided_counted}

-- who waits in one slot, and how many ever arrived, as the slot's request goes from one place to another
record Adds (old new : Place) (t t' : Tally) (n : ℕ) : Type 0 where
  waiting : t'.waiting + waits_at old ≡ t.waiting + waits_at new
  arrived : arrived_in t' ≡ arrived_in t + n

-- the next request of a free slot came, as it was admitted
came_adds : (a : Admitted) (t : Tally) (width : ℕ) → Adds places.Free (place_of a) t (after_arrival width (answer_of a) t) 1
came_adds admitted.Run t width = record { waiting = omega arith; arrived = omega arith }
came_adds (admitted.Over decision) t width = record { waiting = omega arith; arrived = omega (arith, decided_counted decision t.counts) }
came_adds admitted.Waits t width = record { waiting = omega arith; arrived = omega arith }

-- where it tried
tried_adds : (x : Tried) (t : Tally) (width n : ℕ) → Adds places.Free (place_of_try x) t (after_arrival width (answer_of_try x) t) (came_by (told_of_attempt n (answer_of_try x)))
tried_adds tries.Run t width n = record { waiting = omega arith; arrived = omega arith }
tried_adds (tries.Over decision waiting) t width n = record { waiting = omega arith; arrived = omega (arith, decided_counted decision t.counts) }
tried_adds tries.Blocked t width n = record { waiting = omega arith; arrived = omega arith }
tried_adds tries.Raced t width n = record { waiting = omega arith; arrived = omega arith }

-- an arrival that came is told as one
came_told : (v : LifeView) (r : ℕ) (hand : List ℕ) (cost n : ℕ) (a : Admitted) (event : Option LifeEvent) (b' : LifeBookView) → LogsIn v r hand cost a event b' → came_by (told_of_arrival n (answer_of a) event) ≡ 1
came_told v r hand cost n a (Some (events.Enter t q)) b' logs = refl
came_told v r hand cost n a (Some (events.Full t q)) b' logs = refl
came_told v r hand cost n a (Some (events.Dispatch t q)) b' logs = absurd logs.0
came_told v r hand cost n a (Some (events.Strike t q)) b' logs = absurd logs.0
came_told v r hand cost n admitted.Run None b' logs = refl
came_told v r hand cost n (admitted.Over decision) None b' logs = refl
came_told v r hand cost n admitted.Waits None b' logs = absurd (logs.0 refl)

-- a request that waited is where its decision says
poll_adds : (place : Place) (t : Tally) (width : ℕ) → 1 ≤ t.waiting → ((ask : Ask) → place ≢ places.Fresh ask) → Adds places.Waits place t (after_poll width place t) 0
poll_adds places.Runs t width some other = record { waiting = omega (arith, some); arrived = omega (arith, some) }
poll_adds places.Free t width some other = record { waiting = omega (arith, some); arrived = omega (arith, some) }
poll_adds (places.Fresh ask) t width some other = absurd (other ask refl)
poll_adds places.Waits t width some other = record { waiting = omega arith; arrived = omega arith }

-- who waits is who is counted as waiting, and this many more ever arrived
record Grows (s s' : State) (n : ℕ) : Type 0 where
  waiting : s'.tally.waiting ≡ sum_by waits_in (slots_of s'.level)
  arrived : arrived_in s'.tally ≡ arrived_in s.tally + n

-- one slot went on
module _ (s : State) (slot : ℕ) (l' : LocalView) (Does : Place → PassToken → Place → PassToken → Type 0) (m : SlotMoves slot s.level l' Does) (kept : s.tally.waiting ≡ sum_by waits_in (slots_of s.level)) where
  slot_grows : (t' : Tally) (charges : Charges) (asked : List Asked) (n : ℕ) → Adds m.place m.place' s.tally t' n → Grows s (record s { level = l'; tally = t'; charges = charges; asked = asked }) n
  slot_grows t' charges asked n adds = record {
    waiting = omega (arith, kept, adds.waiting, sum_at waits_in (slots_of s.level) slot (held m.place' m.after) (is_inside slot s.level l' Does m), ap waits_in (was_held slot s.level l' Does m), ap (λ (hs : List Held). sum_by waits_in hs) (moved_slots slot s.level l' Does m));
    arrived = adds.arrived;
  }

  some_wait : m.place ≡ places.Waits → 1 ≤ s.tally.waiting
  some_wait waits = omega (arith, kept, part_at waits_in (slots_of s.level) slot (is_inside slot s.level l' Does m), ap waits_in (was_held slot s.level l' Does m), ap waits_at waits)

-- the level is as it was, and as many ever arrived
same_grows : (s : State) (l' : LocalView) (charges : Charges) (asked : List Asked) → s.tally.waiting ≡ sum_by waits_in (slots_of s.level) → l' ≡ s.level → Grows s (record s { level = l'; charges = charges; asked = asked }) 0
same_grows s l' charges asked kept same = record { waiting = kept ∙ ap (λ (l : LocalView). sum_by waits_in (slots_of l)) (sym same); arrived = omega arith }

-- the state after an arrival, with these numbers
abbrev after_ask : State → ℕ → Arrival → LocalView → Tally → State
after_ask old n a level t = record old { level = level; tally = t; asked = set old.asked n (asks old a) }

module _ (n : ℕ) (a : Arrival) (old : State) (level : LocalView) (kept : old.tally.waiting ≡ sum_by waits_in (slots_of old.level)) where
  -- nothing came, by an answer that is counted and told as none
  none_came : (reply : Result Told Refusal) → came_by reply ≡ 0 → level ≡ old.level → Grows old (after_ask old n a level old.tally) (came_by reply)
  none_came reply none same = subst (λ (k : ℕ). Grows old (after_ask old n a level old.tally) k) (sym none) (same_grows old level old.charges (set old.asked n (asks old a)) kept same)

  came_grows : (hand : List ℕ) (answer : Answer) (event : Option LifeEvent) → IsLived old.level.owner.book → SlotMoves n old.level level (Arrives (ask_of old a) hand old.level.owner.book answer event level.owner.book)
      → Grows old (after_ask old n a level (after_arrival a.ask.width answer old.tally)) (came_by (told_of_arrival n answer event))
  came_grows hand answer event lived m =
      let does = m.does in
      let one = came_told lived.view m.after.pass.number hand (asks old a).cost n does.admitted event level.owner.book (does.history lived.view lived.kept) in
      let adds : Adds m.place m.place' old.tally (after_arrival a.ask.width (answer_of does.admitted) old.tally) 1
      = subst (λ (p : Place). Adds p m.place' old.tally (after_arrival a.ask.width (answer_of does.admitted) old.tally) 1) (sym does.was_free)
      (subst (λ (p : Place). Adds places.Free p old.tally (after_arrival a.ask.width (answer_of does.admitted) old.tally) 1) (sym does.place_is) (came_adds does.admitted old.tally a.ask.width)) in
      let grows = slot_grows old n level (Arrives (ask_of old a) hand old.level.owner.book answer event level.owner.book) m kept (after_arrival a.ask.width (answer_of does.admitted) old.tally) old.charges (set old.asked n (asks old a)) 1 adds in
      subst (λ (x : Answer). Grows old (after_ask old n a level (after_arrival a.ask.width x old.tally)) (came_by (told_of_arrival n x event))) (sym does.answer_is)
      (subst (λ (k : ℕ). Grows old (after_ask old n a level (after_arrival a.ask.width (answer_of does.admitted) old.tally)) k) (sym one) grows)

  arrival_grows : (hand : List ℕ) (answer : Answer) (event : Option LifeEvent) → IsLived old.level.owner.book → IsArrival n (ask_of old a) hand old.level answer event level
      → Grows old (after_ask old n a level (after_arrival a.ask.width answer old.tally)) (came_by (told_of_arrival n answer event))
  arrival_grows hand Wrong event lived is = none_came (told_of_arrival n Wrong event) (ap (λ (e : Option LifeEvent). came_by (told_of_arrival n Wrong e)) is.1) is.0
  arrival_grows hand Spent event lived is = none_came (told_of_arrival n Spent event) (ap (λ (e : Option LifeEvent). came_by (told_of_arrival n Spent e)) is.1) is.0
  arrival_grows hand Run event lived m = came_grows hand Run event lived m
  arrival_grows hand (Over decision) event lived m = came_grows hand (Over decision) event lived m
  arrival_grows hand Busy event lived m = came_grows hand Busy event lived m
  arrival_grows hand Waits event lived m = came_grows hand Waits event lived m
  arrival_grows hand Released event lived m = came_grows hand Released event lived m

  tried_grows : (answer : Answer) → SlotMoves n old.level level (Tries (ask_of old a) answer) → Grows old (after_ask old n a level (after_arrival a.ask.width answer old.tally)) (came_by (told_of_attempt n answer))
  tried_grows answer m =
      let does = m.does in
      let x = does.took in
      let adds : Adds m.place m.place' old.tally (after_arrival a.ask.width (answer_of_try x) old.tally) (came_by (told_of_attempt n (answer_of_try x)))
      = subst (λ (p : Place). Adds p m.place' old.tally (after_arrival a.ask.width (answer_of_try x) old.tally) (came_by (told_of_attempt n (answer_of_try x)))) (sym does.was_free)
      (subst (λ (p : Place). Adds places.Free p old.tally (after_arrival a.ask.width (answer_of_try x) old.tally) (came_by (told_of_attempt n (answer_of_try x)))) (sym does.place_is) (tried_adds x old.tally a.ask.width n)) in
      subst (λ (y : Answer). Grows old (after_ask old n a level (after_arrival a.ask.width y old.tally)) (came_by (told_of_attempt n y))) (sym does.answer_is)
      (slot_grows old n level (Tries (ask_of old a) answer) m kept (after_arrival a.ask.width (answer_of_try x) old.tally) old.charges (set old.asked n (asks old a)) (came_by (told_of_attempt n (answer_of_try x))) adds)

  try_grows : (answer : Answer) → IsTry n (ask_of old a) old.level answer level → Grows old (after_ask old n a level (after_arrival a.ask.width answer old.tally)) (came_by (told_of_attempt n answer))
  try_grows Wrong is = none_came (told_of_attempt n Wrong) refl is.0
  try_grows Spent is = none_came (told_of_attempt n Spent) refl is.0
  try_grows Run m = tried_grows Run m
  try_grows (Over decision) m = tried_grows (Over decision) m
  try_grows Busy m = tried_grows Busy m
  try_grows Waits m = tried_grows Waits m
  try_grows Released m = tried_grows Released m

-- a request gave its seats back, or none did
finish_told : (n : ℕ) (answer : Answer) → came_by (told_of_finish n answer) ≡ 0
finish_told n Run = refl
finish_told n (Over decision) = refl
finish_told n Busy = refl
finish_told n Waits = refl
finish_told n Released = refl
finish_told n Spent = refl
finish_told n Wrong = refl

finish_grows : (n width : ℕ) (old : State) (level : LocalView) (answer : Answer) (charges : Charges) → old.tally.waiting ≡ sum_by waits_in (slots_of old.level) → IsFinish n old.level answer level
    → Grows old (record old { level = level; tally = after_finish width answer old.tally; charges = charges }) 0
finish_grows n width old level Wrong charges kept is = same_grows old level charges old.asked kept is.0
finish_grows n width old level Released charges kept m =
    slot_grows old n level Finishes m kept (finished width old.tally) charges old.asked 0
    (subst (λ (p : Place). Adds p m.place' old.tally (finished width old.tally) 0) (sym m.does.ran)
    (subst (λ (p : Place). Adds places.Runs p old.tally (finished width old.tally) 0) (sym m.does.place_is) (record { waiting = omega arith; arrived = omega arith })))
finish_grows n width old level Run charges kept is = absurd is
finish_grows n width old level (Over decision) charges kept is = absurd is
finish_grows n width old level Busy charges kept is = absurd is
finish_grows n width old level Waits charges kept is = absurd is
finish_grows n width old level Spent charges kept is = absurd is

-- an operator's steps count nobody
operator_grows : (does : StationRecord → StationRecord → Type 0) (old new : State) → old.tally.waiting ≡ sum_by waits_in (slots_of old.level) → OperatorDoes does old new → Grows old new 0
operator_grows does old new kept is =
    subst (λ (s : State). Grows old s 0) (sym is.after) (record {
      waiting = kept ∙ (ap (λ (ps : List Place). sum_by waits_in (held_by ps old.level.owner.passes)) (sym is.slots.places) ∙ ap (λ (ts : List PassToken). sum_by waits_in (held_by is.level.places ts)) (sym is.slots.passes));
      arrived = omega arith;
    })

cancel_told : (n : ℕ) (answer : Cancel) → came_by (told_of_cancel n answer) ≡ 0
cancel_told n (cancels.Is decision) = refl
cancel_told n cancels.Other = refl

close_told : (answer : Close) → came_by (told_of_close answer) ≡ 0
close_told closes.First = refl
close_told closes.Already = refl

-- the same, where as many came as the answer says
counts_as : (old new : State) (n : ℕ) (reply : Result Told Refusal) → came_by reply ≡ n → Grows old new n → Grows old new (came_by reply)
counts_as old new n reply is grows = subst (λ (m : ℕ). Grows old new m) (sym is) grows

arrives_grows : (n : ℕ) (a : Arrival) (old : State) (reply : Result Told Refusal) (new : State) → old.tally.waiting ≡ sum_by waits_in (slots_of old.level) → ArrivesAt n a old reply new → Grows old new (came_by reply)
arrives_grows n a old reply new kept at =
    subst (λ (s : State). Grows old s (came_by reply)) (sym at.after)
    (counts_as old (after_ask old n a at.level (after_arrival a.ask.width at.answer old.tally)) (came_by (told_of_arrival n at.answer at.event)) reply (ap came_by at.told)
    (arrival_grows n a old at.level kept (hand_of old.level.sizes a.ask.hash) at.answer at.event at.lived at.arrives))

tries_grows : (n : ℕ) (a : Arrival) (old : State) (reply : Result Told Refusal) (new : State) → old.tally.waiting ≡ sum_by waits_in (slots_of old.level) → TriesAt n a old reply new → Grows old new (came_by reply)
tries_grows n a old reply new kept at =
    subst (λ (s : State). Grows old s (came_by reply)) (sym at.after)
    (counts_as old (after_ask old n a at.level (after_arrival a.ask.width at.answer old.tally)) (came_by (told_of_attempt n at.answer)) reply (ap came_by at.told)
    (try_grows n a old at.level kept at.answer at.tries))

finishes_grows : (n : ℕ) (ran : Option ℕ) (old : State) (reply : Result Told Refusal) (new : State) → old.tally.waiting ≡ sum_by waits_in (slots_of old.level) → FinishesAt n ran old reply new → Grows old new (came_by reply)
finishes_grows n ran old reply new kept at =
    subst (λ (s : State). Grows old s (came_by reply)) (sym at.after)
    (counts_as old (record old { level = at.level; tally = after_finish (width_in (slot_in old n)) at.answer old.tally; queues = queues_after at.answer ran (width_in (slot_in old n)) (charge_in old.level.owner.book.queues (slot_in old n).number) old.queues; charges = charges_after at.answer ran (asked_at old.asked n).flow old.charges }) 0 reply (ap came_by at.told ∙ finish_told n at.answer)
    (let grows = finish_grows n (width_in (slot_in old n)) old at.level at.answer (charges_after at.answer ran (asked_at old.asked n).flow old.charges) kept at.finishes in record { waiting = grows.waiting; arrived = grows.arrived }))

spent_told : (n : ℕ) (executes : Bool) → came_by (told_of_spent n executes) ≡ 0
spent_told n true = refl
spent_told n false = refl

-- a time so far counts nobody
spends_grows : (n micros : ℕ) (old : State) (reply : Result Told Refusal) (new : State) → old.tally.waiting ≡ sum_by waits_in (slots_of old.level) → SpendsAt n micros old reply new → Grows old new (came_by reply)
spends_grows n micros old reply new kept at =
    counts_as old new 0 reply (ap came_by at.told ∙ spent_told n at.executes)
    (subst (λ (s : State). Grows old s 0) (sym at.after) (record {
      waiting = kept ∙ (ap (λ (ps : List Place). sum_by waits_in (held_by ps old.level.owner.passes)) (sym at.does.slots.places) ∙ ap (λ (ts : List PassToken). sum_by waits_in (held_by at.level.places ts)) (sym at.does.slots.passes));
      arrived = omega arith;
    }))

turn_grows : (command : Command) (old : State) (reply : Result Told Refusal) (new : State) → old.tally.waiting ≡ sum_by waits_in (slots_of old.level) → Turns command old reply new → Grows old new (came_by reply)
turn_grows (commands.Arrive n a) old reply new kept turns = arrives_grows n a old reply new kept turns
turn_grows (commands.Try n a) old reply new kept turns = tries_grows n a old reply new kept turns
turn_grows (commands.Finish n ran) old reply new kept turns = finishes_grows n ran old reply new kept turns
turn_grows (commands.Spent n micros) old reply new kept turns = spends_grows n micros old reply new kept turns
turn_grows (commands.Cancel n) old reply new kept turns =
    counts_as old new 0 reply (ap came_by turns.told ∙ cancel_told n turns.answer) (operator_grows (λ s s'. TriesToCancel s (slot_in old n).number turns.answer s') old new kept turns.does)
turn_grows (commands.Limit limit) old reply new kept turns = counts_as old new 0 reply (ap came_by turns.told) (operator_grows (Sets limit turns.was) old new kept turns.does)
turn_grows commands.Close old reply new kept turns = counts_as old new 0 reply (ap came_by turns.told ∙ close_told turns.answer) (operator_grows (λ s s'. ClosesTo s turns.answer s') old new kept turns.does)
turn_grows commands.Book old reply new kept turns = absurd turns
turn_grows commands.Queues old reply new kept turns = absurd turns
turn_grows commands.Metrics old reply new kept turns = absurd turns

-- who left a queue read its decision
read_grows : (slot width : ℕ) (old : State) (level : LocalView) (place : Place) → old.tally.waiting ≡ sum_by waits_in (slots_of old.level) → SlotMoves slot old.level level (Waited place)
    → Grows old (record old { level = level; tally = after_poll width place old.tally }) 0
read_grows slot width old level place kept m =
    slot_grows old slot level (Waited place) m kept (after_poll width place old.tally) old.charges old.asked 0
    (subst (λ (p : Place). Adds p m.place' old.tally (after_poll width place old.tally) 0) (sym m.does.waited)
    (subst (λ (p : Place). Adds places.Waits p old.tally (after_poll width place old.tally) 0) (sym m.does.place_is) (poll_adds place old.tally width (some_wait old slot level (Waited place) m kept m.does.waited) (not_fresh place m.before m.after m.does.reads))))

polls_grows : (slot : ℕ) (old new : State) → old.tally.waiting ≡ sum_by waits_in (slots_of old.level) → (slot_in old slot).place ≡ places.Waits → Polls slot old new → Grows old new 0
polls_grows slot old new kept waits polls = subst (λ (s : State). Grows old s 0) (sym polls.after) (by polls.reads)
  where
    by : IsReading slot old.level polls.place polls.level → Grows old (record old { level = polls.level; tally = after_poll (width_in (slot_in old slot)) polls.place old.tally }) 0
    by (inl m) = read_grows slot (width_in (slot_in old slot)) old polls.level polls.place kept m
    by (inr (same, at, not)) = absurd (not (reads_waiting old.level.places old.level.owner.passes slot polls.place waits at))

leave_grows : (slot : ℕ) (old new : State) → old.tally.waiting ≡ sum_by waits_in (slots_of old.level) → Leaves slot old new → Grows old new 0
leave_grows slot old new kept leaves = by (slot_in old slot).place refl
  where
    stays : (slot_in old slot).place ≢ places.Waits → Grows old new 0
    stays not = subst (λ (s : State). Grows old s 0) (sym (leaves.1 not)) (record { waiting = kept; arrived = omega arith })

    by : (p : Place) → (slot_in old slot).place ≡ p → Grows old new 0
    by places.Waits is = polls_grows slot old new kept is (leaves.0 is)
    by places.Free is = stays (λ waits. let z = sym is ∙ waits in cc)
    by (places.Fresh ask) is = stays (λ waits. let z = sym is ∙ waits in cc)
    by places.Runs is = stays (λ waits. let z = sym is ∙ waits in cc)

follow_grows : (event : LifeEvent) (old new : State) → old.tally.waiting ≡ sum_by waits_in (slots_of old.level) → Follows event old new → Grows old new 0
follow_grows (events.Enter t q) old new kept follows = subst (λ (s : State). Grows old s 0) (sym follows) (record { waiting = kept; arrived = omega arith })
follow_grows (events.Full t q) old new kept follows = subst (λ (s : State). Grows old s 0) (sym follows) (record { waiting = kept; arrived = omega arith })
follow_grows (events.Dispatch t q) old new kept follows =
    let grows = leave_grows (slot_of t.number) (record old { queues = with_event (charged_by old.charges old.asked (events.Dispatch t q)) (events.Dispatch t q) old.queues }) new kept follows in
    record { waiting = grows.waiting; arrived = grows.arrived }
follow_grows (events.Strike t q) old new kept follows =
    let grows = leave_grows (slot_of t.number) (record old { queues = with_event 0 (events.Strike t q) old.queues }) new kept follows in
    record { waiting = grows.waiting; arrived = grows.arrived }

all_grow : (log : List LifeEvent) (old new : State) → old.tally.waiting ≡ sum_by waits_in (slots_of old.level) → FollowsAll log old new → Grows old new 0
all_grow [] old new kept same = subst (λ (s : State). Grows old s 0) (sym same) (record { waiting = kept; arrived = omega arith })
all_grow (event ∷ log) old new kept (between, is, rest) =
    let one = follow_grows event old between kept is in
    let more = all_grow log between new one.waiting rest in
    record { waiting = more.waiting; arrived = omega (arith, one.arrived, more.arrived) }

pub every_counted : (command : Command) (reply : Result Told Refusal) (log : List LifeEvent) (next : ℕ) (old between new : State)
    → IsTallyOf (slots_of old.level) old.tally → Turns command old reply between → FollowsAll log (record between { seen = next }) new
    → arrived_in new.tally ≡ arrived_in old.tally + came_by reply
every_counted command reply log next old between new tally turns follows =
    let one = turn_grows command old reply between tally.waiting turns in
    let more = all_grow log (record between { seen = next }) new one.waiting follows in
    omega (arith, one.arrived, more.arrived)
