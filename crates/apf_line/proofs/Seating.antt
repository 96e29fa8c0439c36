-- At each place of a log those who execute, and are charged something else than they take, have their seats.
use Rattle.std.proofs.Common.{◌≡◌, ◌⊎◌, ℕ, ◌<◌, ◌≤◌, inl, inr, Bool, cond, eq-eqb, List, [], ◌∷◌, ◌++◌, length, refl, sym, ap, ◌∙◌, subst, arith, append_assoc}
use Rattle.std.specs.Prelude.{map, count_by}
use Rattle.std.proofs.lemmas.Bool.{cases_lt}
use Rattle.std.proofs.lemmas.List.{length-append}
use Rattle.apf_history.specs.declared.events.Event.{Event}
use Rattle.apf_history.specs.declared.events.Event.TheVariants.{Enter, Full, Dispatch, Strike}
use Rattle.apf_history.specs.declared.events.Status.{Status}
use Rattle.apf_history.specs.declared.events.LogEntry.{LogEntry}
use Rattle.apf_history.specs.declared.events.LogEntry.TheVariants.{Happens, Spends, Settles}
use Rattle.apf_history.specs.Numbered.{put, width}
use Rattle.apf_history.specs.Tally.{tally}
use Rattle.apf_history.specs.Standing.{EachNames}
use Rattle.apf_history.specs.History.{NamesRequests}
use Rattle.apf_history.specs.Order.{is_dispatch_of}
use Rattle.apf_history.specs.Charged.{events, IsAmong, runs, FollowsChoices, HasSeats, HaveSeats}
use Rattle.apf_model.specs.declared.moves.Stage.{Stage}
use Rattle.apf_model.specs.declared.moves.Move.{Move}
use Rattle.apf_model.specs.World.{World, seats as seats_in, seats_at, IsStanding}
use Rattle.apf_model.specs.Schedule.{world, IsSchedule, Alone, StandsAlone}
use Rattle.apf_gate.specs.declared.record.Shape.{Shape}
use Rattle.apf_gate.specs.declared.record.Entry.{Entry}
use Rattle.apf_gate.specs.Traces.{opening_of, moves, world_of}
use Rattle.apf_book.specs.Said.{sayings, saying}
use Rattle.apf_line.specs.Seats.{HeldSeats, AreSeated}
use Rattle.apf_line.proofs.Tallies.{tally_one}
use Rattle.apf_line.proofs.Running.{twice}
use Rattle.apf_line.proofs.Holding.{AreHeld, events_append, goes_on, has_seats}
use Rattle.apf_line.proofs.Stages.{stood, largest_grows}
use Rattle.apf_line.proofs.Placing.{moves_append, sayings_append, upto, upto_is_beginning, upto_same, upto_enough, same_end, WasDispatched, said_in, said_behind, IsSaid, was_dispatched, had_seats}

map_append : (xs ys : List Event) → map saying (xs ++ ys) ≡ map saying xs ++ map saying ys
map_append [] ys = refl
map_append (x ∷ xs) ys = ap (λ (zs : List (ℕ × Status)). saying x ∷ zs) (map_append xs ys)

map_length : (xs : List Event) → length (map saying xs) ≡ length xs
map_length [] = refl
map_length (x ∷ xs) = let a = map_length xs in omega arith

pub earlier_too : (shape : Shape) (trace : List Entry) (newer h : List Event) (r : ℕ) → HeldSeats shape trace (newer ++ h) r → HeldSeats shape trace h r
earlier_too shape trace newer h r held = record {
  at = held.at;
  is_beginning = held.is_beginning;
  had_come = (held.had_come.0 ++ newer, ap (map saying) (append_assoc held.had_come.0 newer h) ∙ held.had_come.1);
  stood = held.stood;
}

each_earlier : (P : ℕ → Type 0) (newer h : List Event) → EachNames P (newer ++ h) → EachNames P h
each_earlier P [] h all = all
each_earlier P (e ∷ newer) h all = each_earlier P newer h all.1

named_earlier : (n : ℕ) (newer h : List Event) → NamesRequests n (newer ++ h) → NamesRequests n h
named_earlier n [] h all = all
named_earlier n (e ∷ newer) h all = named_earlier n newer h all.1

follows_earlier : (queues : ℕ) (costs : List ℕ) (later l : List LogEntry) → FollowsChoices queues costs (later ++ l) → FollowsChoices queues costs l
follows_earlier queues costs [] l d = d
follows_earlier queues costs (x ∷ later) l d = follows_earlier queues costs later l d.1

of_dispatched : (P : ℕ → Type 0) (r : ℕ) (h : List Event) → EachNames P h → WasDispatched r h → P r
of_dispatched P r [] all was = absurd was
of_dispatched P r (Enter j p ∷ h) all was = of_dispatched P r h all.1 was
of_dispatched P r (Full j p ∷ h) all was = of_dispatched P r h all.1 was
of_dispatched P r (Strike j p ∷ h) all was = of_dispatched P r h all.1 was
of_dispatched P r (Dispatch j p ∷ h) all (inl same) = subst P same all.0
of_dispatched P r (Dispatch j p ∷ h) all (inr was) = of_dispatched P r h all.1 was

dispatched_named : (n r : ℕ) (h : List Event) → NamesRequests n h → WasDispatched r h → r < n
dispatched_named n r [] all was = absurd was
dispatched_named n r (Enter j p ∷ h) all was = dispatched_named n r h all.1 was
dispatched_named n r (Full j p ∷ h) all was = dispatched_named n r h all.1 was
dispatched_named n r (Strike j p ∷ h) all was = dispatched_named n r h all.1 was
dispatched_named n r (Dispatch j p ∷ h) all (inl same) = subst (λ (i : ℕ). i < n) same all.0
dispatched_named n r (Dispatch j p ∷ h) all (inr was) = dispatched_named n r h all.1 was

-- the numbers by which those who stand in a world have their seats
record AreNumbers (seats : ℕ) (widths : List ℕ) (w : World) : Type 0 where
  f : ℕ → ℕ
  few : tally f (length widths) ≤ seats
  each : (r : ℕ) → r < length widths → IsStanding w r → width widths r ≤ seats → width widths r ≤ f r

numbers_alone : (seats : ℕ) (widths : List ℕ) (w : World) (j : ℕ) → StandsAlone widths w j → AreNumbers seats widths w
numbers_alone seats widths w j alone = record {
  f = put (λ (_ : ℕ). 0) j seats;
  few = tally_one j seats (length widths);
  each = λ r low stands narrow. (
      let same : r ≡ j = alone.is_alone r low stands in
      let here : put (λ (_ : ℕ). 0) j seats r ≡ seats = ap (λ (b : Bool). cond b seats 0) (eq-eqb r j same) in
      omega arith);
}

numbers_all : (seats : ℕ) (widths : List ℕ) (w : World) → seats_in widths w ≤ seats → AreNumbers seats widths w
numbers_all seats widths w few = record {
  f = λ r. seats_at (w.stage r) (width widths r);
  few = few;
  each = λ r low stands narrow. (let here : seats_at (w.stage r) (width widths r) ≡ width widths r = ap (λ (s : Stage). seats_at s (width widths r)) stands in omega arith);
}

numbers_of : (seats : ℕ) (widths : List ℕ) (w : World) → w.largest ≤ seats → Alone widths w → AreNumbers seats widths w
numbers_of seats widths w low alone = elim (cases_lt w.largest (seats_in widths w)) [
  | inl above ↦ (let a = alone above in numbers_alone seats widths w a.0 a.1)
  | inr below ↦ numbers_all seats widths w (omega arith)
]

module _ (shape : Shape) (trace : List Entry) (schedule : IsSchedule (opening_of shape) (moves trace))
    (safe : (later earlier : List Move) → later ++ earlier ≡ moves trace → IsSchedule (opening_of shape) earlier × Alone shape.widths (world (opening_of shape) earlier)) where
  -- a beginning of the trace is a schedule in which nobody has more than the limit, or one alone has
  safe_at : (later at : List Entry) → later ++ at ≡ trace → IsSchedule (opening_of shape) (moves at) × Alone shape.widths (world_of shape at)
  safe_at later at is = safe (moves later) (moves at) (sym (moves_append later at) ∙ ap moves is)

  -- the beginning of the trace that says just what came to the history
  abbrev place : List Event → List Entry
  place h = upto (length h) trace

  place_said : (newer h : List Event) → map saying (newer ++ h) ≡ sayings trace → (front : List (ℕ × Status)) × (front ++ map saying h ≡ sayings (place h))
  place_said newer h said =
      let b = upto_is_beginning (length h) trace in
      let la = ap length said in let lb = map_length (newer ++ h) in let lc = length-append newer h in
      let enough = upto_enough (length h) trace (omega arith) in
      let lh = map_length h in
      same_end (map saying newer) (map saying h) (sayings b.0) (sayings (place h)) (sym (map_append newer h) ∙ (said ∙ (sym (ap sayings b.1) ∙ sayings_append b.0 (place h)))) (omega arith)

  -- who held its seats at that place or later held them there, if it was dispatched
  stands_there : (newer h : List Event) (r : ℕ) → map saying (newer ++ h) ≡ sayings trace → WasDispatched r h → HeldSeats shape trace h r → IsStanding (world_of shape (place h)) r
  stands_there newer h r said was held =
      let la = ap length held.had_come.1 in let lb = map_length (held.had_come.0 ++ h) in let lc = length-append held.had_come.0 h in
      let same : place h ≡ upto (length h) held.at = ap (upto (length h)) (sym held.is_beginning.1) ∙ upto_same (length h) held.is_beginning.0 held.at (omega arith) in
      let mid = upto_is_beginning (length h) held.at in
      let is : mid.0 ++ place h ≡ held.at = ap (λ (t : List Entry). mid.0 ++ t) same ∙ mid.1 in
      let at : moves mid.0 ++ moves (place h) ≡ moves held.at = sym (moves_append mid.0 (place h)) ∙ ap moves is in
      let here = place_said newer h said in
      let begun = upto_is_beginning (length h) trace in
      let has = had_seats (opening_of shape) r (place h) (safe_at begun.0 (place h) begun.1).0 (subst (IsSaid r) here.1 (said_behind r here.0 (map saying h) (said_in r h was))) in
      stood (opening_of shape) r (moves mid.0) (moves (place h)) (subst (IsSchedule (opening_of shape)) (sym at) (safe_at held.is_beginning.0 held.at held.is_beginning.1).0) has
      (ap (λ (ms : List Move). (world (opening_of shape) ms).stage r) at ∙ held.stood)

  module _ (queues : ℕ) (costs : List ℕ) (measure : ℕ → ℕ) (seats : ℕ) (l : List LogEntry)
      (said : map saying (events l) ≡ sayings trace)
      (follows : FollowsChoices queues costs l)
      (once : (h newer : List Event) → newer ++ h ≡ events l → (r : ℕ) → count_by (is_dispatch_of r) h ≤ 1)
      (names : NamesRequests (length shape.widths) (events l))
      (held : AreHeld costs (HeldSeats shape trace) (earlier_too shape trace) l)
      (ends : (r k q : ℕ) → IsAmong r k (runs costs l q) → IsStanding (world_of shape trace) r ⊎ (k ≡ measure r))
      (low : (world_of shape trace).largest ≤ seats)
      (narrow : EachNames (λ r. width shape.widths r ≤ seats) (events l)) where
    at_end : (later l0 : List LogEntry) → later ++ l0 ≡ l → (r k q : ℕ) → IsAmong r k (runs costs l0 q) → HeldSeats shape trace (events l0) r ⊎ (k ≡ measure r)
    at_end later l0 is r k q among =
        elim (goes_on costs (HeldSeats shape trace) (earlier_too shape trace) later l0 r k q (subst (AreHeld costs (HeldSeats shape trace) (earlier_too shape trace)) (sym is) held) among) [
          | inl was ↦ inl was
          | inr last ↦ elim (ends r k q (subst (λ (x : List LogEntry). IsAmong r k (runs costs x q)) is last)) [
            | inl stands ↦ inl (record {
              at = trace;
              is_beginning = ([], refl);
              had_come = (events later, ap (map saying) (sym (events_append later l0) ∙ ap events is) ∙ said);
              stood = stands;
            })
            | inr same ↦ inr same
          ]
        ]

    at_place : (later l0 : List LogEntry) → later ++ l0 ≡ l → HasSeats seats (width shape.widths) measure costs l0
    at_place later l0 is =
        let h = events l0 in
        let newer = events later in
        let split : newer ++ h ≡ events l = sym (events_append later l0) ∙ ap events is in
        let said_h : map saying (newer ++ h) ≡ sayings trace = ap (map saying) split ∙ said in
        let d : FollowsChoices queues costs l0 = follows_earlier queues costs later l0 (subst (FollowsChoices queues costs) (sym is) follows) in
        let begun = upto_is_beginning (length h) trace in
        let grows = largest_grows (opening_of shape) (moves begun.0) (moves (place h)) in
        let all : (world (opening_of shape) (moves begun.0 ++ moves (place h))).largest ≡ (world_of shape trace).largest = ap (λ (ms : List Move). (world (opening_of shape) ms).largest) (sym (moves_append begun.0 (place h)) ∙ ap moves begun.1) in
        let numbers = numbers_of seats shape.widths (world_of shape (place h)) (omega arith) (safe_at begun.0 (place h) begun.1).1 in
        has_seats seats (width shape.widths) measure numbers.f (length shape.widths) costs l0 numbers.few
        (λ q r k among. elim (at_end later l0 is r k q among) [
          | inl was ↦
              (let of = was_dispatched queues costs l0 d r k q among in
              let inside = dispatched_named (length shape.widths) r h (named_earlier (length shape.widths) newer h (subst (NamesRequests (length shape.widths)) (sym split) names)) of in
              inr (
                inside,
                numbers.each r inside (stands_there newer h r said_h of was)
                    (of_dispatched (λ i. width shape.widths i ≤ seats) r h (each_earlier (λ i. width shape.widths i ≤ seats) newer h (subst (EachNames (λ i. width shape.widths i ≤ seats)) (sym split) narrow)) of),
              ))
          | inr same ↦ inl same
        ])
        (λ x p ne r. (let a = twice queues costs r x p ne l0 d in let b = once h newer split r in omega arith))

    from_place : (later l0 : List LogEntry) → later ++ l0 ≡ l → HaveSeats seats (width shape.widths) measure costs l0
    from_place later [] is = tt
    from_place later (x ∷ l0) is = (at_place later (x ∷ l0) is, from_place (later ++ (x ∷ [])) l0 (append_assoc later (x ∷ []) l0 ∙ is))

    pub have_seats : HaveSeats seats (width shape.widths) measure costs l
    have_seats = from_place [] l refl

-- what is said of each changed charge is the same, whoever says what holding seats is
pub held_of : (costs : List ℕ) (shape : Shape) (trace : List Entry) (l : List LogEntry) → AreSeated shape trace l → AreHeld costs (HeldSeats shape trace) (earlier_too shape trace) l
held_of costs shape trace [] s = tt
held_of costs shape trace (Happens e ∷ l) s = held_of costs shape trace l s
held_of costs shape trace (Spends r q old new ∷ l) s = (s.0, held_of costs shape trace l s.1)
held_of costs shape trace (Settles r q old new ∷ l) s = (s.0, held_of costs shape trace l s.1)
