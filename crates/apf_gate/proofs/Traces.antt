-- What a trace says of who made its moves.
use Rattle.std.proofs.Common.{◌≡◌, ◌⊎◌, ℕ, ◌<◌, ◌≤◌, Bool, true, false, List, [], ◌∷◌, ◌++◌, Option, Some, None, sym, refl, ap, ◌∙◌, subst, inl, inr, ⊎_elim, arith}
use Rattle.std.proofs.Math.Nat.{max-eq_left, max-eq_right}
use Rattle.std.proofs.lemmas.Bool.{cases_lt}
use mathlib.Core.Logic.{dite}
use native.Mathlib.Decide.{ℕ_discrete}
use Rattle.apf_words.specs.declared.decision.Decision.{Decision}
use Rattle.apf_words.specs.declared.decision.Decision.TheVariants.{Cancelled}
use Rattle.apf_model.specs.declared.moves.Move.{Move}
use Rattle.apf_model.specs.declared.moves.Move.TheVariants.{Take, Enter, Grant, Leave, Decide, Release, Close, SetLimit, See}
use Rattle.apf_model.specs.World.{World, put}
use Rattle.apf_model.specs.Schedule.{IsSchedule}
use Rattle.apf_gate.specs.declared.record.Shape.{Shape}
use Rattle.apf_gate.specs.declared.record.Actor.{Actor}
use Rattle.apf_gate.specs.declared.record.Actor.TheVariants.{OfPass, OfDesk, OfStation}
use Rattle.apf_gate.specs.declared.record.Entry.{Entry}
use Rattle.apf_gate.specs.Traces.{opening_of, entry, move_before, moves, NoneOf, world_of, Made, MadeFirstClose, IsToken, MayMake, AreMade}
use Rattle.apf_gate.specs.Gauges.{IsShape}
use Rattle.apf_words.specs.Limits.{max_limit}
use Rattle.apf_gate.proofs.Puts.{put_here, put_else}
use Rattle.apf_gate.proofs.WordNumbers.{some_same}
use Rattle.apf_gate.proofs.Later.{IsLater, same_schedule, one_more}

-- what a token's own record has, and what the whole trace has
pub made_later : (later saw : List Entry) (who : Actor) (m : Move) → Made saw who m → Made (later ++ saw) who m
made_later [] saw who m k = k
made_later (x ∷ later) saw who m k = inr (made_later later saw who m k)

pub made_own : (later saw : List Entry) (who : Actor) (m : Move) → NoneOf who later → Made (later ++ saw) who m → Made saw who m
made_own [] saw who m none k = k
made_own (x ∷ later) saw who m none k = ⊎_elim (λ (o : (x.by ≡ who) × (x.step ≡ Some m)). absurd (none.0 o.0)) (λ (o : Made (later ++ saw) who m). made_own later saw who m none.1 o) k

module _ (s : Shape) where
  pub close_later : (later saw : List Entry) (who : Actor) → MadeFirstClose s saw who → MadeFirstClose s (later ++ saw) who
  close_later [] saw who k = k
  close_later (x ∷ later) saw who k = inr (close_later later saw who k)

  pub close_own : (later saw : List Entry) (who : Actor) → NoneOf who later → MadeFirstClose s (later ++ saw) who → MadeFirstClose s saw who
  close_own [] saw who none k = k
  close_own (x ∷ later) saw who none k = ⊎_elim (λ (o : (x.by ≡ who) × (x.step ≡ Some Close) × ((world_of s (later ++ saw)).is_open ≡ true)). absurd (none.0 o.0)) (λ (o : MadeFirstClose s (later ++ saw) who). close_own later saw who none.1 o) k

  earlier : (m : Option Move) (es : List Entry) → IsSchedule (opening_of s) (move_before m (moves es)) → IsSchedule (opening_of s) (moves es)
  earlier None es k = k
  earlier (Some m) es k = k.1

  later_by : (who : Actor) (m : Option Move) (es : List Entry) → IsSchedule (opening_of s) (move_before m (moves es)) → IsLater s es (entry who m ∷ es)
  later_by who None es k = same_schedule s who es
  later_by who (Some m) es k = one_more s who m es k.0

  -- a decision that a token wrote stands, and no other token wrote one
  pub decided_stands : (r : ℕ) (d : Decision) (es : List Entry) (who : Actor) → IsSchedule (opening_of s) (moves es) → Made es who (Decide r d) → (world_of s es).decision r ≡ Some d
  decided_stands r d [] who k made = absurd made
  decided_stands r d (x ∷ es) who k made = ⊎_elim
      (λ (o : (x.by ≡ who) × (x.step ≡ Some (Decide r d))). ap (λ m. (world_of s (entry x.by m ∷ es)).decision r) o.1 ∙ put_here (world_of s es).decision r (Some d))
      (λ (o : Made es who (Decide r d)).
      let was = decided_stands r d es who (earlier x.step es k) o in
      (later_by x.by x.step es k).kept r (λ none. let z = sym was ∙ none in cc) ∙ was)
      made

  undecided : (r : ℕ) (d : Decision) (m : Option Move) (es : List Entry) → m ≡ Some (Decide r d) → IsSchedule (opening_of s) (move_before m (moves es)) → (world_of s es).decision r ≡ None
  undecided r d m es is k = (subst (λ (o : Option Move). IsSchedule (opening_of s) (move_before o (moves es))) is k).0.is_undecided

  pub one_decider : (r : ℕ) (d e : Decision) (es : List Entry) (who other : Actor) → IsSchedule (opening_of s) (moves es) → Made es who (Decide r d) → Made es other (Decide r e) → who ≡ other
  one_decider r d e [] who other k a b = absurd a
  one_decider r d e (x ∷ es) who other k a b = ⊎_elim
      (λ (o : (x.by ≡ who) × (x.step ≡ Some (Decide r d))). ⊎_elim
      (λ (p : (x.by ≡ other) × (x.step ≡ Some (Decide r e))). sym o.0 ∙ p.0)
      (λ (p : Made es other (Decide r e)). absurd (let y = decided_stands r e es other (earlier x.step es k) p in let z = sym (undecided r d x.step es o.1 k) ∙ y in cc)) b)
      (λ (o : Made es who (Decide r d)). ⊎_elim
      (λ (p : (x.by ≡ other) × (x.step ≡ Some (Decide r e))). absurd (let y = decided_stands r d es who (earlier x.step es k) o in let z = sym (undecided r e x.step es p.1 k) ∙ y in cc))
      (λ (p : Made es other (Decide r e)). one_decider r d e es who other (earlier x.step es k) o p) b)
      a

  -- a request that is cancelled was cancelled by a Station
  cancel_step : (r : ℕ) (who : Actor) (m : Option Move) (es : List Entry) → IsToken s who → MayMake who m → (world_of s (entry who m ∷ es)).decision r ≡ Some Cancelled
      → ((k : ℕ) × (k < s.stations) × ((who ≡ OfStation k) × (m ≡ Some (Decide r Cancelled)))) ⊎ ((world_of s es).decision r ≡ Some Cancelled)
  cancel_step r who None es there may is = inr is
  cancel_step r who (Some (Take j)) es there may is = inr is
  cancel_step r who (Some (Enter j)) es there may is = inr is
  cancel_step r who (Some (Grant j)) es there may is = inr is
  cancel_step r who (Some (Leave j)) es there may is = inr is
  cancel_step r who (Some (Release j)) es there may is = inr is
  cancel_step r who (Some Close) es there may is = inr is
  cancel_step r who (Some (SetLimit n)) es there may is = inr is
  cancel_step r who (Some (See j)) es there may is = inr is
  cancel_step r who (Some (Decide j d)) es there may is = dite (ℕ_discrete r j)
      (λ y. inl (by_maker who there may (some_same d Cancelled (sym (put_here (world_of s es).decision j (Some d)) ∙ (ap (put (world_of s es).decision j (Some d)) (sym y) ∙ is))) y))
      (λ ne. inr (sym (put_else (world_of s es).decision j (Some d) r ne) ∙ is))
    where
      by_maker : (who : Actor) → IsToken s who → MayMake who (Some (Decide j d)) → d ≡ Cancelled → r ≡ j → (k : ℕ) × (k < s.stations) × ((who ≡ OfStation k) × (Some (Decide j d) ≡ Some (Decide r Cancelled)))
      by_maker (OfPass i) there may e y = absurd (may.1 e)
      by_maker OfDesk there may e y = absurd (may e)
      by_maker (OfStation k) there may e y = (k, there, (refl, λ i. Some (Decide (sym y i) (e i))))

  pub cancelled_by : (r : ℕ) (es : List Entry) → AreMade s es → (world_of s es).decision r ≡ Some Cancelled → (k : ℕ) × (k < s.stations) × Made es (OfStation k) (Decide r Cancelled)
  cancelled_by r [] made is = absurd (let z = is in cc)
  cancelled_by r (x ∷ es) made is = ⊎_elim
      (λ (o : (k : ℕ) × (k < s.stations) × ((x.by ≡ OfStation k) × (x.step ≡ Some (Decide r Cancelled)))). (o.0, o.1, inl (o.2.0, o.2.1)))
      (λ (o : (world_of s es).decision r ≡ Some Cancelled). let k = cancelled_by r es made.2 o in (k.0, k.1, inr k.2))
      (cancel_step r x.by x.step es made.0 made.1 is)

  -- a level that is closed was closed by a Station that found it open, and by no other
  pub closed_stands : (es : List Entry) (who : Actor) → IsSchedule (opening_of s) (moves es) → MadeFirstClose s es who → (world_of s es).is_open ≡ false
  closed_stands [] who k made = absurd made
  closed_stands (x ∷ es) who k made = ⊎_elim
      (λ (o : (x.by ≡ who) × (x.step ≡ Some Close) × ((world_of s es).is_open ≡ true)). ap (λ m. (world_of s (entry x.by m ∷ es)).is_open) o.1)
      (λ (o : MadeFirstClose s es who). (later_by x.by x.step es k).closed (closed_stands es who (earlier x.step es k) o))
      made

  pub one_closer : (es : List Entry) (who other : Actor) → IsSchedule (opening_of s) (moves es) → MadeFirstClose s es who → MadeFirstClose s es other → who ≡ other
  one_closer [] who other k a b = absurd a
  one_closer (x ∷ es) who other k a b = ⊎_elim
      (λ (o : (x.by ≡ who) × (x.step ≡ Some Close) × ((world_of s es).is_open ≡ true)). ⊎_elim
      (λ (p : (x.by ≡ other) × (x.step ≡ Some Close) × ((world_of s es).is_open ≡ true)). sym o.0 ∙ p.0)
      (λ (p : MadeFirstClose s es other). absurd (let y = closed_stands es other (earlier x.step es k) p in let z = sym o.2 ∙ y in cc)) b)
      (λ (o : MadeFirstClose s es who). ⊎_elim
      (λ (p : (x.by ≡ other) × (x.step ≡ Some Close) × ((world_of s es).is_open ≡ true)). absurd (let y = closed_stands es who (earlier x.step es k) o in let z = sym p.2 ∙ y in cc))
      (λ (p : MadeFirstClose s es other). one_closer es who other (earlier x.step es k) o p) b)
      a

  close_step : (who : Actor) (m : Option Move) (es : List Entry) → IsToken s who → MayMake who m → (world_of s es).is_open ≡ true → (world_of s (entry who m ∷ es)).is_open ≡ false
      → (k : ℕ) × (k < s.stations) × ((who ≡ OfStation k) × (m ≡ Some Close))
  close_step who None es there may was is = absurd (let z = sym was ∙ is in cc)
  close_step who (Some (Take j)) es there may was is = absurd (let z = sym was ∙ is in cc)
  close_step who (Some (Enter j)) es there may was is = absurd (let z = sym was ∙ is in cc)
  close_step who (Some (Grant j)) es there may was is = absurd (let z = sym was ∙ is in cc)
  close_step who (Some (Leave j)) es there may was is = absurd (let z = sym was ∙ is in cc)
  close_step who (Some (Decide j d)) es there may was is = absurd (let z = sym was ∙ is in cc)
  close_step who (Some (Release j)) es there may was is = absurd (let z = sym was ∙ is in cc)
  close_step who (Some (SetLimit n)) es there may was is = absurd (let z = sym was ∙ is in cc)
  close_step who (Some (See j)) es there may was is = absurd (let z = sym was ∙ is in cc)
  close_step (OfPass r) (Some Close) es there may was is = absurd may
  close_step OfDesk (Some Close) es there may was is = absurd may
  close_step (OfStation k) (Some Close) es there may was is = (k, there, (refl, refl))

  pub closed_by : (es : List Entry) → AreMade s es → (world_of s es).is_open ≡ false → (k : ℕ) × (k < s.stations) × MadeFirstClose s es (OfStation k)
  closed_by [] made is = absurd (let z = is in cc)
  closed_by (x ∷ es) made is = by_before (world_of s es).is_open refl (closed_by es made.2)
    where
      by_before : (o : Bool) → (world_of s es).is_open ≡ o → ((world_of s es).is_open ≡ false → (k : ℕ) × (k < s.stations) × MadeFirstClose s es (OfStation k)) → (k : ℕ) × (k < s.stations) × MadeFirstClose s (x ∷ es) (OfStation k)
      by_before true was before = let c = close_step x.by x.step es made.0 made.1 was is in (c.0, c.1, inl (c.2.0, c.2.1, was))
      by_before false was before = let c = before was in (c.0, c.1, inr c.2)

  -- the limits
  pub record AreLimits (w : World) : Type 0 where
    pub some : 1 ≤ w.limit
    pub limit : w.limit ≤ max_limit
    pub largest : w.largest ≤ max_limit

  limit_step : (who : Actor) (m : Option Move) (es : List Entry) → MayMake who m → AreLimits (world_of s es) → AreLimits (world_of s (entry who m ∷ es))
  limit_step who None es may k = k
  limit_step who (Some (Take j)) es may k = record { some = k.some; limit = k.limit; largest = k.largest }
  limit_step who (Some (Enter j)) es may k = record { some = k.some; limit = k.limit; largest = k.largest }
  limit_step who (Some (Grant j)) es may k = record { some = k.some; limit = k.limit; largest = k.largest }
  limit_step who (Some (Leave j)) es may k = record { some = k.some; limit = k.limit; largest = k.largest }
  limit_step who (Some (Decide j d)) es may k = record { some = k.some; limit = k.limit; largest = k.largest }
  limit_step who (Some (Release j)) es may k = record { some = k.some; limit = k.limit; largest = k.largest }
  limit_step who (Some Close) es may k = record { some = k.some; limit = k.limit; largest = k.largest }
  limit_step who (Some (See j)) es may k = record { some = k.some; limit = k.limit; largest = k.largest }
  limit_step (OfPass r) (Some (SetLimit n)) es may k = absurd may
  limit_step OfDesk (Some (SetLimit n)) es may k = absurd may
  limit_step (OfStation j) (Some (SetLimit n)) es may k = let w = world_of s es in record {
    some = may.0;
    limit = may.1;
    largest = ⊎_elim (λ (l : w.largest < n). subst (λ x. x ≤ max_limit) (sym (max-eq_right (let z = l in omega arith))) may.1) (λ (l : n ≤ w.largest). subst (λ x. x ≤ max_limit) (sym (max-eq_left l)) k.largest) (cases_lt w.largest n);
  }

  pub limit_range : IsShape s → (es : List Entry) → AreMade s es → AreLimits (world_of s es)
  limit_range shape [] made = record { some = shape.some_limit; limit = shape.small_limit; largest = shape.small_limit }
  limit_range shape (x ∷ es) made = limit_step x.by x.step es made.1 (limit_range shape es made.2)
