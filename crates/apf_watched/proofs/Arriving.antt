-- A request that arrived on a level whose log was told.
use Rattle.std.proofs.Common.{rules, ◌≡◌, ◌≢◌, ◌⊎◌, inl, inr, ◌<◌, ◌==◌, ◌^◌, ℕ, zero, suc, if◌then◌else◌, List, [], ◌∷◌, ◌++◌, length, set, Option, Some, None, Bool, true, false, refl, sym, ap, ◌∙◌, subst}
use Rattle.std.specs.Prelude.{slice_get}
use Rattle.std.proofs.lemmas.Bool.{or_left, or_right}
use Rattle.std.proofs.lemmas.List.{append_assoc, get_or-set_same, get_or-set_other, length-set}
use Rattle.apf_history.specs.declared.events.Event.{Event}
use Rattle.apf_history.specs.declared.events.Event.TheVariants.{Enter, Full}
use Rattle.apf_history.specs.declared.events.LogEntry.{LogEntry}
use Rattle.apf_history.specs.declared.events.LogEntry.TheVariants.{Happens, Spends, Settles}
use Rattle.apf_history.specs.Numbered.{put, width}
use Rattle.apf_history.specs.History.{has_arrived, request_of, NamesRequests}
use Rattle.apf_gate.specs.Slots.{slot_of}
use Rattle.apf_book.specs.declared.life_event.LifeEvent.{LifeEvent}
use Rattle.apf_book.specs.declared.life_event.LifeEvent.TheVariants as life
use Rattle.apf_book.specs.Life.{LifeView, asked, then_came}
use Rattle.apf_book.specs.LifeBook.{IsLifeKept, then_came_all}
use Rattle.apf_book.specs.RecentEvents.{event_of}
use Rattle.apf_bound.specs.Kept.{BoundView, IsKeptOf, queues_of}
use Rattle.apf_local.specs.declared.answer.Answer.{Answer}
use Rattle.apf_local.specs.declared.answer.Answer.TheVariants as answers
use Rattle.apf_local.specs.declared.answer.Ask.{Ask}
use Rattle.apf_local.specs.declared.admitting.Admitted.{Admitted}
use Rattle.apf_local.specs.Levels.{LocalView, GoesOn, IsArrival, LogsIn}
use Rattle.apf_watched.specs.declared.note.Note.{Note}
use Rattle.apf_watched.specs.declared.watch.Watch.{Watch}
use Rattle.apf_watched.specs.Notes.{AreOf, IsOf}
use Rattle.apf_watched.specs.Followed.{HasNoted, ReadsAll, Agree, AreSettled, IsToldOf, IsFollowedBy}
use Rattle.apf_watched.proofs.Logs.{arrived_more, log_of_both, followed_on}

some_is : {A : Type 0} (a b : A) → ◌≡◌ {A = Option A} (Some a) (Some b) → a ≡ b
some_is a b is = cc

same_is : (r : ℕ) → (r == r) ≡ true
same_is r = search rules

other_is : (r r' : ℕ) → r' ≢ r → (r' == r) ≡ false
other_is r r' ne = search rules

-- what stands in a place after a write
pub get_either : {A : Type 0} (xs : List A) (s i : ℕ) (x y : A) → slice_get (set xs s x) i ≡ Some y → (y ≡ x) ⊎ (slice_get xs i ≡ Some y)
get_either [] s i x y is = inr is
get_either (z ∷ zs) zero zero x y is = inl (sym (some_is x y is))
get_either (z ∷ zs) zero (suc i) x y is = inr is
get_either (z ∷ zs) (suc s) zero x y is = inr is
get_either (z ∷ zs) (suc s) (suc i) x y is = get_either zs s i x y is

put_same : (f : ℕ → ℕ) (r a : ℕ) → put f r a r ≡ a
put_same f r a = ap (λ (b : Bool). if b then a else f r) (same_is r)

put_other : (f : ℕ → ℕ) (r a j : ℕ) → j ≢ r → put f r a j ≡ f j
put_other f r a j ne = ap (λ (b : Bool). if b then a else f j) (other_is r j ne)

-- who arrived is none that is new
not_new : (h : List Event) (r j : ℕ) → has_arrived h r ≡ false → has_arrived h j ≡ true → j ≢ r
not_new h r j new is same = let z : true ≡ false = sym is ∙ (ap (λ (n : ℕ). has_arrived h n) same ∙ new) in cc

settled_put : (h : List Event) (measure : ℕ → ℕ) (r a : ℕ) → has_arrived h r ≡ false → (l : List LogEntry) → AreSettled h measure l → AreSettled h (put measure r a) l
settled_put h measure r a new [] s = tt
settled_put h measure r a new (Happens e ∷ l) s = settled_put h measure r a new l s
settled_put h measure r a new (Spends j q old next ∷ l) s = settled_put h measure r a new l s
settled_put h measure r a new (Settles j q old next ∷ l) s = (s.0 ∙ sym (put_other measure r a j (not_new h r j new s.1)), s.1, settled_put h measure r a new l s.2)

-- a request that a history names has a number
named : (n : ℕ) (es : List Event) (e : Event) (h : List Event) → NamesRequests n (es ++ (e ∷ h)) → request_of e < n
named n [] e h names = names.0
named n (x ∷ es) e h names = named n es e h names.1

-- an event, and then others
one_then : (es : List Event) (e : Event) (v : LifeView) → then_came_all (es ++ (e ∷ [])) v ≡ then_came_all es (then_came v e)
one_then es e v = λ i. record v { history = append_assoc es (e ∷ []) v.history i; log = log_of_both es (e ∷ []) v.log i }

is_here : (es : List Event) (e : Event) (h : List Event) (j : ℕ) → has_arrived (e ∷ h) j ≡ true → has_arrived ((es ++ (e ∷ [])) ++ h) j ≡ true
is_here es e h j is = subst (λ (x : List Event). has_arrived x j ≡ true) (sym (append_assoc es (e ∷ []) h)) (arrived_more es (e ∷ h) j is)

module _ (l l' : LocalView) (w0 w1 w2 : Watch) (followed : IsFollowedBy l w0) (reads : ReadsAll l' w1 w2) where
  -- no request came to the log
  nothing_came : w1.notes.items ≡ w0.notes.items → w1.bound ≡ w0.bound → w1.seen ≡ w0.seen → GoesOn followed.view l'.owner.book → IsFollowedBy l' w2
  nothing_came notes bound seen on =
      let was : (slot : ℕ) (n : Note) → slice_get w1.notes.items slot ≡ Some (Some n) → slice_get w0.notes.items slot ≡ Some (Some n) = λ slot n at. subst (λ (ns : List (Option Note)). slice_get ns slot ≡ Some (Some n)) notes at in
      followed_on l' w1 w2 followed.view followed.measure on.events on.kept (ap (λ (b : BoundView). queues_of b) bound ∙ followed.queues)
      (λ slot n at. arrived_more on.events followed.view.history n.ticket.number (followed.arrived slot n (was slot n at)))
      (λ slot n at. followed.noted slot n (was slot n at))
      (λ short. let told = followed.tells short in record {
        seen = seen ∙ told.seen;
        settled = told.settled;
        told = λ costs measure' hands limit agree. subst (λ (b : BoundView). IsKeptOf costs measure' hands limit followed.view.log b) (sym bound) (told.told costs measure' hands limit agree);
      })
      reads

  pub gone_on : w1 ≡ w0 → GoesOn followed.view l'.owner.book → IsFollowedBy l' w2
  gone_on is on = nothing_came (ap (λ (w : Watch). w.notes.items) is) (ap (λ (w : Watch). w.bound) is) (ap (λ (w : Watch). w.seen) is) on

  module _ (r : ℕ) (hand : List ℕ) (cost takes : ℕ) (new : has_arrived followed.view.history r ≡ false) where
    abbrev v : LifeView
    v = asked followed.view r hand cost

    abbrev measure : ℕ → ℕ
    measure = put followed.measure r takes

    old_note : (slot : ℕ) (n : Note) → slice_get w0.notes.items slot ≡ Some (Some n) → IsOf v.costs measure n
    old_note slot n at =
        let other = not_new followed.view.history r n.ticket.number new (followed.arrived slot n at) in
        record {
          cost = get_or-set_other followed.view.costs r n.ticket.number cost 0 other ∙ (followed.noted slot n at).cost;
          takes_so = put_other followed.measure r takes n.ticket.number other ∙ (followed.noted slot n at).takes_so;
        }

    told_so : w1.bound ≡ w0.bound → w1.seen ≡ w0.seen → length v.history < 2 ^ 64 → IsToldOf v measure w1
    told_so bound seen short =
        let told = followed.tells short in
        record {
          seen = seen ∙ told.seen;
          settled = settled_put followed.view.history followed.measure r takes new followed.view.log told.settled;
          told = λ costs measure' hands limit agree.
              let before : Agree followed.view.history followed.view.costs followed.measure costs measure' = record {
                costs_are = λ j is. agree.costs_are j is ∙ get_or-set_other followed.view.costs r j cost 0 (not_new followed.view.history r j new is);
                measures_are = λ j is. agree.measures_are j is ∙ put_other followed.measure r takes j (not_new followed.view.history r j new is);
              } in
              subst (λ (b : BoundView). IsKeptOf costs measure' hands limit v.log b) (sym bound) (told.told costs measure' hands limit before);
        }

    -- the request entered a queue, or was refused as full
    module _ (e : Event) (on : GoesOn (then_came v e) l'.owner.book) (bound : w1.bound ≡ w0.bound) (seen : w1.seen ≡ w0.seen) where
      kept : IsLifeKept (then_came_all (on.events ++ (e ∷ [])) v) l'.owner.book
      kept = subst (λ (x : LifeView). IsLifeKept x l'.owner.book) (sym (one_then on.events e v)) on.kept

      came : ((slot : ℕ) (n : Note) → slice_get w1.notes.items slot ≡ Some (Some n) → has_arrived (e ∷ followed.view.history) n.ticket.number ≡ true) → AreOf v.costs measure w1.notes.items → IsFollowedBy l' w2
      came arrived notes = followed_on l' w1 w2 v measure (on.events ++ (e ∷ [])) kept (ap (λ (b : BoundView). queues_of b) bound ∙ followed.queues)
          (λ slot n at. is_here on.events e followed.view.history n.ticket.number (arrived slot n at)) notes (told_so bound seen) reads

    entered : (t : _) (q : ℕ) → life.Enter t q ≡ life.Enter t q → event_of (life.Enter t q) ≡ Enter r q → HasNoted (Some (life.Enter t q)) cost takes w0 w1 → GoesOn (then_came v (Enter r q)) l'.owner.book → IsFollowedBy l' w2
    entered t q same is notes on =
        let number : t.number ≡ r = ap request_of is in
        let names = kept (Enter r q) on notes.bound notes.seen in
        let low : r < length v.costs = named (length v.costs) on.events (Enter r q) v.history on.kept.of_life.names_requests in
        let low_before : r < length followed.view.costs = subst (λ (n : ℕ). r < n) (length-set followed.view.costs r cost) low in
        let either : (slot : ℕ) (n : Note) → slice_get w1.notes.items slot ≡ Some (Some n) → (n ≡ record { ticket = t; cost = cost; takes = takes }) ⊎ (slice_get w0.notes.items slot ≡ Some (Some n)) = λ slot n at.
        elim (get_either w0.notes.items (slot_of t.number) slot (Some (record { ticket = t; cost = cost; takes = takes })) (Some n) (subst (λ (ns : List (Option Note)). slice_get ns slot ≡ Some (Some n)) notes.notes at)) [
          | inl is_new ↦ inl (some_is n (record { ticket = t; cost = cost; takes = takes }) is_new)
          | inr was ↦ inr was
        ] in
        came (Enter r q) on notes.bound notes.seen
        (λ slot n at. elim (either slot n at) [
          | inl is_new ↦ or_left (r == n.ticket.number) (has_arrived followed.view.history n.ticket.number) (ap (λ (j : ℕ). r == j) (ap (λ (x : Note). x.ticket.number) is_new ∙ number) ∙ same_is r)
          | inr was ↦ or_right (r == n.ticket.number) (has_arrived followed.view.history n.ticket.number) (followed.arrived slot n was)
        ])
        (λ slot n at. elim (either slot n at) [
          | inl is_new ↦ subst (λ (x : Note). IsOf v.costs measure x) (sym is_new) (record {
            cost = ap (λ (j : ℕ). width v.costs j) number ∙ get_or-set_same followed.view.costs r cost 0 low_before;
            takes_so = ap measure number ∙ put_same followed.measure r takes;
          })
          | inr was ↦ old_note slot n was
        ])

    full : (q : ℕ) → w1.notes.items ≡ w0.notes.items → w1.bound ≡ w0.bound → w1.seen ≡ w0.seen → GoesOn (then_came v (Full r q)) l'.owner.book → IsFollowedBy l' w2
    full q notes bound seen on =
        let was : (slot : ℕ) (n : Note) → slice_get w1.notes.items slot ≡ Some (Some n) → slice_get w0.notes.items slot ≡ Some (Some n) = λ slot n at. subst (λ (ns : List (Option Note)). slice_get ns slot ≡ Some (Some n)) notes at in
        came (Full r q) on bound seen
        (λ slot n at. or_right (r == n.ticket.number) (has_arrived followed.view.history n.ticket.number) (followed.arrived slot n (was slot n at)))
        (λ slot n at. old_note slot n (was slot n at))

  module _ (r : ℕ) (hand : List ℕ) (cost takes : ℕ) (a : Admitted) where
    logged : (event : Option LifeEvent) → LogsIn followed.view r hand cost a event l'.owner.book → HasNoted event cost takes w0 w1 → IsFollowedBy l' w2
    logged None logs notes = nothing_came notes.notes notes.bound notes.seen logs.2
    logged (Some (life.Enter t q)) logs notes = entered r hand cost takes logs.1 t q refl (ap (λ (j : ℕ). Enter j q) logs.0.0) notes (subst (λ (j : ℕ). GoesOn (then_came (asked followed.view r hand cost) (Enter j q)) l'.owner.book) logs.0.0 logs.2)
    logged (Some (life.Full t q)) logs notes = full r hand cost takes logs.1 q notes.notes notes.bound notes.seen (subst (λ (j : ℕ). GoesOn (then_came (asked followed.view r hand cost) (Full j q)) l'.owner.book) logs.0.0 logs.2)
    logged (Some (life.Dispatch t q)) logs notes = absurd logs.0
    logged (Some (life.Strike t q)) logs notes = absurd logs.0

  still : (event : Option LifeEvent) (cost takes : ℕ) → l' ≡ l → event ≡ None → HasNoted event cost takes w0 w1 → IsFollowedBy l' w2
  still event cost takes same none notes =
      let noted_none : HasNoted None cost takes w0 w1 = subst (λ (e : Option LifeEvent). HasNoted e cost takes w0 w1) none notes in
      nothing_came noted_none.notes noted_none.bound noted_none.seen (record { events = []; kept = subst (λ (x : LocalView). IsLifeKept followed.view x.owner.book) (sym same) followed.kept; servings = tt })

  pub arrived_on : (slot : ℕ) (ask : Ask) (hand : List ℕ) (takes : ℕ) (event : Option LifeEvent) (answer : Answer) → IsArrival slot ask hand l answer event l' → HasNoted event ask.cost takes w0 w1 → IsFollowedBy l' w2
  arrived_on slot ask hand takes event answers.Wrong is notes = still event ask.cost takes is.0 is.1 notes
  arrived_on slot ask hand takes event answers.Spent is notes = still event ask.cost takes is.0 is.1 notes
  arrived_on slot ask hand takes event answers.Run moves notes = logged moves.after.pass.number hand ask.cost takes moves.does.admitted event (moves.does.history followed.view followed.kept) notes
  arrived_on slot ask hand takes event (answers.Over d) moves notes = logged moves.after.pass.number hand ask.cost takes moves.does.admitted event (moves.does.history followed.view followed.kept) notes
  arrived_on slot ask hand takes event answers.Busy moves notes = logged moves.after.pass.number hand ask.cost takes moves.does.admitted event (moves.does.history followed.view followed.kept) notes
  arrived_on slot ask hand takes event answers.Waits moves notes = logged moves.after.pass.number hand ask.cost takes moves.does.admitted event (moves.does.history followed.view followed.kept) notes
  arrived_on slot ask hand takes event answers.Released moves notes = logged moves.after.pass.number hand ask.cost takes moves.does.admitted event (moves.does.history followed.view followed.kept) notes
