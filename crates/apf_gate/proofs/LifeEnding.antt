-- What the end of a gate tells whose slots are used again.
use Rattle.std.proofs.Common.{◌≡◌, ◌≢◌, ℕ, zero, suc, ◌+◌, ◌<◌, ◌≤◌, true, List, [], ◌∷◌, ◌++◌, length, Option, Some, None, sym, refl, ap, ◌∙◌, subst, ⊎_elim, arith}
use Rattle.std.specs.Prelude.{Contains, slice_get}
use Rattle.std.proofs.Math.Decide.{dec_lt}
use Rattle.std.proofs.lemmas.List.Elements.{Contains-push, Contains-append_left, Contains-append_right}
use mathlib.Core.Logic.{dite}
use native.Mathlib.Decide.{ℕ_discrete}
use Rattle.apf_words.specs.declared.decision.Decision.{Decision}
use Rattle.apf_words.specs.declared.decision.Decision.TheVariants.{Execute, QueueFull, Closed, Cancelled}
use Rattle.apf_model.specs.declared.moves.Stage.TheVariants.{Away, Waits, Stands, Gone}
use Rattle.apf_model.specs.World.{put}
use Rattle.apf_gate.specs.declared.record.State.TheVariants.{Fresh}
use Rattle.apf_gate.specs.declared.record.Service.TheVariants.{RefusedFull, RefusedClosed, Waiting, Settled}
use Rattle.apf_gate.specs.declared.record.PassRecord.{PassRecord}
use Rattle.apf_gate.specs.declared.record.DeskRecord.{DeskRecord}
use Rattle.apf_gate.specs.Slots.{slot_of}
use Rattle.apf_gate.specs.Records.{told_of, told_own, service}
use Rattle.apf_gate.specs.Traces.{world_of}
use Rattle.apf_gate.specs.Account.{HoldsSlot, HeldBefore, IsNoted}
use Rattle.apf_gate.specs.Rule.{Every}
use Rattle.apf_gate.specs.Tokens.{GateId, PassToken, StationToken}
use Rattle.apf_gate.specs.Ends.{IsEnded, IsBack, WroteCancelled, ClosedFirst}
use Rattle.apf_gate.specs.LifeEnds.{LifeView, pasts, presents, LifeEndsWith, NoneTwice, IsBackForLife, LifeAgrees}
use Rattle.apf_gate.proofs.Puts.{put_here, put_else}
use Rattle.apf_gate.proofs.WordNumbers.{some_same}
use Rattle.apf_gate.proofs.Lists.{every_map, every_all, all_every, AnyOf, any_place, any_with, any_elim, every_both}
use Rattle.apf_gate.proofs.Numbers.{AreNumbered}
use Rattle.apf_gate.proofs.Requests.{is_fresh}
use Rattle.apf_gate.proofs.Slots.{other_fresh}
use Rattle.apf_gate.proofs.HandedIn.{IsPassHere, passes_here, slot_there, holder_there, slots_apart, station_there, pass_known}
use Rattle.apf_gate.proofs.Ended.{longest, told, cancelled_by_one, cancelled_is_written, cancelled_by_no_other, closed_by_one, closed_is_seen, closed_is_first, closed_by_no_other, desk_decided, full_was_refused, closed_was_written, limit_was_written, executed, pass_decided, back_by, gone, drained, at_most_one}

abbrev Decided : Type 0
Decided = ℕ × Decision

-- lists of which something holds of each
every_join : (P : Decided → Type 0) (xs ys : List Decided) → Every P xs → Every P ys → Every P (xs ++ ys)
every_join P [] ys a b = b
every_join P (x ∷ xs) ys a b = (a.0, every_join P xs ys a.1 b)

contains_head : (x : Decided) (xs : List Decided) → Contains (x ∷ xs) x
contains_head x xs = Contains-append_left (x ∷ []) xs x (Contains-push [] x)

contains_tail : (y : Decided) (xs : List Decided) (x : Decided) → Contains xs x → Contains (y ∷ xs) x
contains_tail y xs x c = Contains-append_right (y ∷ []) xs x c

-- no request stands twice, by recursion
abbrev Once : List Decided → Type 0
Once [] = Unit {0}
Once (x ∷ xs) = Every (λ (y : Decided). y.0 ≢ x.0) xs × Once xs

none_twice : (xs : List Decided) → Once xs → NoneTwice xs
none_twice [] k = tt
none_twice (x ∷ xs) k = (all_every (λ (y : Decided). y.0 ≢ x.0) xs k.0, none_twice xs k.1)

once_join : (xs ys : List Decided) → Once xs → Once ys → Every (λ (x : Decided). Every (λ (y : Decided). y.0 ≢ x.0) ys) xs → Once (xs ++ ys)
once_join [] ys a b c = b
once_join (x ∷ xs) ys a b c = (every_join (λ (y : Decided). y.0 ≢ x.0) xs ys a.0 c.0, once_join xs ys a.1 b c.1)

-- of the requests that held the slot i before c
earlier : (i c e : ℕ) (past : List Decided) → c ≤ e → HeldBefore i c past → Every (λ (x : Decided). (x.0 < e) × (slot_of x.0 ≡ i)) past
earlier i c e [] l k = tt
earlier i c e (x ∷ past) l k = ((let b = k.0 in omega arith, k.1), earlier i x.0 e past (let b = k.0 in omega arith) k.2)

past_once : (i c : ℕ) (past : List Decided) → HeldBefore i c past → Once past
past_once i c [] k = tt
past_once i c (x ∷ past) k = (
  every_map (λ (y : Decided). (y.0 < x.0) × (slot_of y.0 ≡ i)) (λ (y : Decided). y.0 ≢ x.0) past (λ y m e. let b = m.0 in omega arith) (earlier i x.0 x.0 past (omega arith) k.2),
  past_once i x.0 past k.2,
)

-- each is decided as it is noted
past_decided : (i c : ℕ) (past : List Decided) (D : ℕ → Option Decision) → HeldBefore i c past → ((r : ℕ) → slot_of r ≡ i → r < c → told_of past r ≡ D r) → Every (λ (x : Decided). D x.0 ≡ Some x.1) past
past_decided i c [] D k says = tt
past_decided i c (x ∷ past) D k says = (
  sym (says x.0 k.1 k.0) ∙ put_here (told_of past) x.0 (Some x.1),
  past_decided i x.0 past D k.2 (λ r e l. sym (put_else (told_of past) x.0 (Some x.1) r (λ y. omega arith)) ∙ says r e (let b = k.0 in omega arith)),
)

-- who is noted stands there
noted_contained : (past : List Decided) (r : ℕ) (d : Decision) → told_of past r ≡ Some d → Contains past (r, d)
noted_contained [] r d e = absurd (let z = e in cc)
noted_contained (x ∷ past) r d e = dite (ℕ_discrete r x.0)
    (λ y.
    let same : x.1 ≡ d = some_same _ _ (sym (put_here (told_of past) x.0 (Some x.1)) ∙ (ap (put (told_of past) x.0 (Some x.1)) (sym y) ∙ e)) in
    subst (λ (z : Decided). Contains (x ∷ past) z) (λ j. (sym y j, same j)) (contains_head x past))
    (λ ne. contains_tail x past (r, d) (noted_contained past r d (sym (put_else (told_of past) x.0 (Some x.1) r ne) ∙ e)))

-- of the requests that hold the slots from i on
presents_each : (P : Decided → Type 0) (current : ℕ → ℕ) (i : ℕ) (ds : List (Option Decision)) → ((k : ℕ) (d : Decision) → k < length ds → slice_get ds k ≡ Some (Some d) → P (current (i + k), d)) → Every P (presents current i ds)
presents_each P current i [] f = tt
presents_each P current i (None ∷ ds) f = presents_each P current (i + 1) ds (λ k d l e. let z : i + suc k ≡ (i + 1) + k = omega arith in subst (λ n. P (current n, d)) z (f (suc k) d (omega arith) e))
presents_each P current i (Some d ∷ ds) f = (
  (let z : i + 0 ≡ i = omega arith in subst (λ n. P (current n, d)) z (f 0 d (omega arith) refl)),
  presents_each P current (i + 1) ds (λ k d l e. let z : i + suc k ≡ (i + 1) + k = omega arith in subst (λ n. P (current n, d)) z (f (suc k) d (omega arith) e)),
)

presents_once : (current : ℕ → ℕ) (i n : ℕ) (ds : List (Option Decision)) → i + length ds ≤ n → ((k : ℕ) → k < n → slot_of (current k) ≡ k) → Once (presents current i ds)
presents_once current i n [] l own = tt
presents_once current i n (None ∷ ds) l own = presents_once current (i + 1) n ds (omega arith) own
presents_once current i n (Some d ∷ ds) l own = (
  presents_each (λ (y : Decided). y.0 ≢ current i) current (i + 1) ds (λ k x m e same.
      let a = own (i + 1 + k) (omega arith) in
      let b = own i (omega arith) in
      let c : slot_of (current (i + 1 + k)) ≡ slot_of (current i) = ap slot_of same in omega arith),
  presents_once current (i + 1) n ds (omega arith) own,
)

presents_contained : (current : ℕ → ℕ) (i k : ℕ) (ds : List (Option Decision)) (d : Decision) → slice_get ds k ≡ Some (Some d) → Contains (presents current i ds) (current (i + k), d)
presents_contained current i k [] d e = absurd (let z = e in cc)
presents_contained current i zero (None ∷ ds) d e = absurd (let z = some_same _ _ e in cc)
presents_contained current i zero (Some x ∷ ds) d e =
    let z : i ≡ i + 0 = omega arith in
    let same : x ≡ d = some_same _ _ (some_same _ _ e) in
    subst (λ (y : Decided). Contains (presents current i (Some x ∷ ds)) y) (λ j. (current (z j), same j)) (contains_head (current i, x) (presents current (i + 1) ds))
presents_contained current i (suc k) (None ∷ ds) d e = let z : (i + 1) + k ≡ i + suc k = omega arith in subst (λ n. Contains (presents current (i + 1) ds) (current n, d)) z (presents_contained current (i + 1) k ds d e)
presents_contained current i (suc k) (Some x ∷ ds) d e =
    let z : (i + 1) + k ≡ i + suc k = omega arith in
    contains_tail (current i, x) (presents current (i + 1) ds) (current (i + suc k), d) (subst (λ n. Contains (presents current (i + 1) ds) (current n, d)) z (presents_contained current (i + 1) k ds d e))

module _ (g : GateId) (d : DeskRecord) (ps : List PassToken) (ts : List StationToken) (w : LifeView) (e : LifeEndsWith g d ps ts w) where
  abbrev i : IsEnded g d ps ts w.level
  i = e.ended

  abbrev D : ℕ → Option Decision
  D r = (world_of g.shape e.ended.account.trace).decision r

  abbrev current : ℕ → ℕ
  current = e.ended.account.current

  abbrev here : PassToken → Type 0
  here = IsPassHere g d ps ts w.level i

  abbrev present : List Decided
  present = presents current 0 w.decisions

  -- what the Pass that was handed in has noted
  noted : (t : PassToken) → here t → IsNoted (length g.shape.widths) (world_of g.shape e.ended.account.trace) (slot_of t.pass.number) t.pass.number t.pass.past
  noted t h = subst (λ (p : PassRecord). IsNoted (length g.shape.widths) (world_of g.shape e.ended.account.trace) (slot_of t.pass.number) t.pass.number p.past) h.1
      (subst (λ c. IsNoted (length g.shape.widths) (world_of g.shape e.ended.account.trace) (slot_of t.pass.number) c (e.ended.account.pass c).past) h.2 (i.slots.noted (slot_of t.pass.number) (i.slots.inside t.pass.number h.0 h.2)))

  -- the requests of each of these lists
  past_each : (P : Decided → Type 0) (qs : List PassToken) → ((t : PassToken) → here t → Every P t.pass.past) → Every here qs → Every P (pasts qs)
  past_each P [] f k = tt
  past_each P (t ∷ qs) f k = every_join P t.pass.past (pasts qs) (f t k.0) (past_each P qs f k.1)

  abbrev IsSo : Decided → Type 0
  IsSo x = (x.0 < length g.shape.widths) × (D x.0 ≡ Some x.1)

  past_so : (t : PassToken) → here t → Every IsSo t.pass.past
  past_so t h = let n = noted t h in
      every_both (λ (x : Decided). (x.0 < t.pass.number) × (slot_of x.0 ≡ slot_of t.pass.number)) (λ (x : Decided). D x.0 ≡ Some x.1) IsSo t.pass.past (λ x a b. (let below = a.0 in let inside = h.0 in omega arith, b))
      (earlier (slot_of t.pass.number) t.pass.number t.pass.number t.pass.past (omega arith) n.in_order)
      (past_decided (slot_of t.pass.number) t.pass.number t.pass.past D n.in_order (λ r s l. n.says r (let inside = h.0 in omega arith) s l))

  present_so : Every IsSo present
  present_so = presents_each IsSo current 0 w.decisions (λ k x l is.
      let inside : k < g.shape.slots = (let c = e.count in omega arith) in
      let z : 0 + k ≡ k = omega arith in
      subst (λ n. IsSo (current n, x)) (sym z) ((i.slots.current k inside).0, some_same _ _ (sym (e.decided k inside) ∙ is)))

  ever : List Decided
  ever = pasts ps ++ present

  no_others : Every IsSo (pasts ps ++ present)
  no_others = every_join IsSo (pasts ps) present (past_each IsSo ps past_so (passes_here g d ps ts w.level i)) present_so

  -- each slot's list has requests of that slot
  apart_from : (t : PassToken) (qs : List PassToken) → here t → Every here qs → Every (λ (u : PassToken). slot_of u.pass.number ≢ slot_of t.pass.number) qs → Every (λ (x : Decided). Every (λ (y : Decided). y.0 ≢ x.0) (pasts qs)) t.pass.past
  apart_from t qs h k apart = every_map (λ (x : Decided). (x.0 < t.pass.number) × (slot_of x.0 ≡ slot_of t.pass.number)) (λ (x : Decided). Every (λ (y : Decided). y.0 ≢ x.0) (pasts qs)) t.pass.past
      (λ x a. others x a.1 qs k apart) (earlier (slot_of t.pass.number) t.pass.number t.pass.number t.pass.past (omega arith) (noted t h).in_order)
    where
      others : (x : Decided) → slot_of x.0 ≡ slot_of t.pass.number → (qs : List PassToken) → Every here qs → Every (λ (u : PassToken). slot_of u.pass.number ≢ slot_of t.pass.number) qs → Every (λ (y : Decided). y.0 ≢ x.0) (pasts qs)
      others x s [] k apart = tt
      others x s (u ∷ qs) k apart = every_join (λ (y : Decided). y.0 ≢ x.0) u.pass.past (pasts qs)
          (every_map (λ (y : Decided). (y.0 < u.pass.number) × (slot_of y.0 ≡ slot_of u.pass.number)) (λ (y : Decided). y.0 ≢ x.0) u.pass.past (λ y b same. apart.0 (sym b.1 ∙ (ap slot_of same ∙ s)))
          (earlier (slot_of u.pass.number) u.pass.number u.pass.number u.pass.past (omega arith) (noted u k.0).in_order))
          (others x s qs k.1 apart.1)

  pasts_once : (qs : List PassToken) → Every here qs → AreNumbered (λ (t : PassToken). slot_of t.pass.number) qs → Once (pasts qs)
  pasts_once [] k apart = tt
  pasts_once (t ∷ qs) k apart = once_join t.pass.past (pasts qs) (past_once (slot_of t.pass.number) t.pass.number t.pass.past (noted t k.0).in_order) (pasts_once qs k.1 apart.1) (apart_from t qs k.0 k.1 apart.0)

  -- who holds a slot now did not hold it before
  past_or_present : (t : PassToken) → here t → Every (λ (x : Decided). Every (λ (y : Decided). y.0 ≢ x.0) present) t.pass.past
  past_or_present t h = every_map (λ (x : Decided). (x.0 < t.pass.number) × (slot_of x.0 ≡ slot_of t.pass.number)) (λ (x : Decided). Every (λ (y : Decided). y.0 ≢ x.0) present) t.pass.past
      (λ x a. presents_each (λ (y : Decided). y.0 ≢ x.0) current 0 w.decisions (λ k z l is same.
      let inside : k < g.shape.slots = (let c = e.count in omega arith) in
      let own = (i.slots.current k inside).1 in
      let z : 0 + k ≡ k = omega arith in
      let s : k ≡ slot_of t.pass.number = sym own ∙ (ap (λ n. slot_of (current n)) (sym z) ∙ (ap slot_of same ∙ a.1)) in
      let b = a.0 in
      let is_t : current (0 + k) ≡ t.pass.number = ap current (z ∙ s) ∙ h.2 in omega arith))
      (earlier (slot_of t.pass.number) t.pass.number t.pass.number t.pass.past (omega arith) (noted t h).in_order)

  ever_once : Once (pasts ps ++ present)
  ever_once = once_join (pasts ps) present (pasts_once ps (passes_here g d ps ts w.level i) (slots_apart g d ps ts w.level i))
      (presents_once current 0 g.shape.slots w.decisions (let c = e.count in omega arith) (λ k l. (i.slots.current k l).1))
      (past_each (λ (x : Decided). Every (λ (y : Decided). y.0 ≢ x.0) present) ps past_or_present (passes_here g d ps ts w.level i))

  -- a decided request stands there
  in_pasts : (qs : List PassToken) (r : ℕ) (x : Decision) → AnyOf (λ (t : PassToken). Contains t.pass.past (r, x)) qs → Contains (pasts qs) (r, x)
  in_pasts [] r x a = elim a [ ]
  in_pasts (t ∷ qs) r x a = ⊎_elim
      (λ (c : Contains t.pass.past (r, x)). Contains-append_left t.pass.past (pasts qs) (r, x) c)
      (λ (c : AnyOf (λ (t : PassToken). Contains t.pass.past (r, x)) qs). Contains-append_right t.pass.past (pasts qs) (r, x) (in_pasts qs r x c))
      a

  each : (r : ℕ) (x : Decision) → r < length g.shape.widths → D r ≡ Some x → Contains (pasts ps ++ present) (r, x)
  each r x l is = dite (dec_lt r c) before (λ m. dite (ℕ_discrete r c) now (λ ne. absurd (let n = (i.slots.later r l (let lower : c < r = omega arith in lower)).1 in let z = sym n ∙ is in cc)))
    where
      c : ℕ
      c = current (slot_of r)

      inside : slot_of r < g.shape.slots
      inside = dite (dec_lt (slot_of r) g.shape.slots) (λ m. m) (λ m. absurd (let z = sym (i.slots.nobody r l (omega arith)) ∙ is in cc))

      before : r < c → Contains (pasts ps ++ present) (r, x)
      before m = Contains-append_left (pasts ps) present (r, x) (in_pasts ps r x (any_with (λ (t : PassToken). slot_of t.pass.number ≡ slot_of r) here (λ (t : PassToken). Contains t.pass.past (r, x)) ps
          (λ t same h.
          let n = noted t h in
          let below : r < t.pass.number = subst (λ k. r < k) (ap current (sym same) ∙ h.2) m in
          noted_contained t.pass.past r x (n.says r l (sym same) below ∙ is))
          (slot_there g d ps ts w.level i (slot_of r) inside) (passes_here g d ps ts w.level i)))

      now : r ≡ c → Contains (pasts ps ++ present) (r, x)
      now same = Contains-append_right (pasts ps) present (r, x)
          (let z : 0 + slot_of r ≡ slot_of r = omega arith in
          subst (λ n. Contains present (n, x)) (ap current z ∙ sym same) (presents_contained current 0 (slot_of r) w.decisions x (e.decided (slot_of r) inside ∙ ap Some (ap D (sym same) ∙ is))))

  -- the token of a request that holds its slot
  by_holder : {C : Type 0} (r : ℕ) → r < length g.shape.widths → HoldsSlot e.ended.account r → Every IsBackForLife ps → ((t : PassToken) → t.pass.number ≡ r → here t → IsBackForLife t → C) → C
  by_holder {C} r l holds all f = any_elim (λ (t : PassToken). t.pass.number ≡ r) (λ (t : PassToken). here t × IsBackForLife t) ps (λ t n h. f t n h.0 h.1)
      (any_place (λ (t : PassToken). t.pass.number ≡ r) ps (holder_there g d ps ts w.level i r l holds)) (every_both here IsBackForLife (λ (t : PassToken). here t × IsBackForLife t) ps (λ t a b. (a, b)) (passes_here g d ps ts w.level i) all)

  fresh_away : (r : ℕ) → r < length g.shape.widths → (e.ended.account.pass r).state ≡ Fresh → (world_of g.shape e.ended.account.trace).stage r ≡ Away
  fresh_away r l f = (is_fresh g.shape r (e.ended.account.pass r) (service e.ended.account.desk r) (world_of g.shape e.ended.account.trace) (i.sound.request r l) f).away

  -- the state of its Pass
  state_of : (t : PassToken) (r : ℕ) → t.pass.number ≡ r → here t → (e.ended.account.pass r).state ≡ t.pass.state
  state_of t r n h = ap (λ k. (e.ended.account.pass k).state) (sym n) ∙ ap (λ (o : PassRecord). o.state) h.1

  -- who is undecided is fresh
  undecided_fresh : Every IsBackForLife ps → (r : ℕ) → r < length g.shape.widths → D r ≡ None → (e.ended.account.pass r).state ≡ Fresh
  undecided_fresh all r l none = dite (ℕ_discrete (current (slot_of r)) r)
      (λ holds. by_holder r l holds all (λ t n h back. ⊎_elim
      (λ (f : t.pass.state ≡ Fresh). state_of t r n h ∙ f)
      (λ (o : (told_own t.pass ≢ None) × IsBack t). absurd (o.0 (sym ((pass_known g d ps ts w.level i t h).told t.pass.number o.0) ∙ (ap D n ∙ none))))
      back))
      (λ not. ⊎_elim
      (λ (some : D r ≢ None). absurd (some none))
      (λ (f : (e.ended.account.pass r).state ≡ Fresh). f)
      (other_fresh g.shape e.ended.account i.slots r l not))

  -- nobody stands or waits
  none_left : Every IsBackForLife ps → d.held ≡ None → ((r : ℕ) → r < length g.shape.widths → service d r ≢ Waiting) → (r : ℕ) → r < length g.shape.widths
      → ((world_of g.shape e.ended.account.trace).stage r ≢ Stands) × ((world_of g.shape e.ended.account.trace).stage r ≢ Waits)
  none_left all held waits r l = dite (ℕ_discrete (current (slot_of r)) r)
      (λ holds. by_holder r l holds all (λ t n h back. ⊎_elim
      (λ (f : t.pass.state ≡ Fresh). let a = fresh_away r l (state_of t r n h ∙ f) in ((λ x. let z = sym a ∙ x in cc), (λ x. let z = sym a ∙ x in cc)))
      (λ (o : (told_own t.pass ≢ None) × IsBack t). let b = back_by g d ps ts w.level i t r n l h o.1 in gone g d ps ts w.level i r l b.0 b.1 held (waits r l))
      back))
      (λ not. ⊎_elim
      (λ (a : (world_of g.shape e.ended.account.trace).stage r ≡ Away). ((λ x. let z = sym a ∙ x in cc), (λ x. let z = sym a ∙ x in cc)))
      (λ (a : (world_of g.shape e.ended.account.trace).stage r ≡ Gone). ((λ x. let z = sym a ∙ x in cc), (λ x. let z = sym a ∙ x in cc)))
      (i.slots.idle r l not))

  present_word : (t : PassToken) → here t → slice_get w.decisions (slot_of t.pass.number) ≡ Some (D t.pass.number)
  present_word t h = e.decided (slot_of t.pass.number) (i.slots.inside t.pass.number h.0 h.2) ∙ ap (λ n. Some (D n)) h.2

  pub life_agrees : LifeAgrees g d ps ts w
  life_agrees = record {
    each_slot = λ k l. any_place (λ (t : PassToken). slot_of t.pass.number ≡ k) ps (slot_there g d ps ts w.level i k l);
    each_station = λ k l. any_place (λ (t : StationToken). t.station.number ≡ k) ts (station_there g d ps ts w.level i k l);
    trace = e.ended.account.trace;
    longest = longest g d ps ts w.level i;
    schedule = e.ended.sound.schedule;
    shape = e.ended.shape;
    level = e.ended.level_is;
    present = all_every (λ (t : PassToken). slice_get w.decisions (slot_of t.pass.number) ≡ Some (D t.pass.number)) ps (every_map here (λ (t : PassToken). slice_get w.decisions (slot_of t.pass.number) ≡ Some (D t.pass.number)) ps present_word (passes_here g d ps ts w.level i));
    ever = pasts ps ++ present;
    are_all = record { once = none_twice (pasts ps ++ present) ever_once; each = each; no_others = all_every IsSo (pasts ps ++ present) no_others };
    sums = e.counts;
    pass = e.ended.account.pass;
    handed_in = all_every (λ (t : PassToken). e.ended.account.pass t.pass.number ≡ t.pass) ps (every_map here (λ (t : PassToken). e.ended.account.pass t.pass.number ≡ t.pass) ps (λ t h. h.1) (passes_here g d ps ts w.level i));
    undecided = λ all r l none. let f = undecided_fresh (every_all IsBackForLife ps all) r l none in (fresh_away r l f, f);
    told = told g d ps ts w.level i;
    cancelled_by_one = λ r is. any_place (WroteCancelled r) ts (cancelled_by_one g d ps ts w.level i r is);
    cancelled_is_written = λ r. all_every (λ (t : StationToken). WroteCancelled r t → D r ≡ Some Cancelled) ts (cancelled_is_written g d ps ts w.level i r);
    cancelled_by_no_other = λ r. at_most_one g d ps ts w.level i (WroteCancelled r) (cancelled_by_no_other g d ps ts w.level i r);
    closed_by_one = λ is. any_place ClosedFirst ts (closed_by_one g d ps ts w.level i is);
    closed_is_first = all_every (λ (t : StationToken). ClosedFirst t → w.level.closed ≡ true) ts (closed_is_first g d ps ts w.level i);
    closed_by_no_other = at_most_one g d ps ts w.level i ClosedFirst (closed_by_no_other g d ps ts w.level i);
    closed_is_seen = all_every (λ (t : StationToken). t.station.knows.saw_closed ≡ true → w.level.closed ≡ true) ts (closed_is_seen g d ps ts w.level i);
    executed = executed g d ps ts w.level i;
    settled = λ r l is. desk_decided g d ps ts w.level i r Settled Execute l is refl;
    full_was_refused = full_was_refused g d ps ts w.level i;
    refused_as_full = λ r l is. desk_decided g d ps ts w.level i r RefusedFull QueueFull l is refl;
    closed_was_written = closed_was_written g d ps ts w.level i;
    refused_as_closed = λ r l is. desk_decided g d ps ts w.level i r RefusedClosed Closed l is refl;
    limit_was_written = limit_was_written g d ps ts w.level i;
    written = λ r x l is. pass_decided g d ps ts w.level i r l x is;
    drained = λ all held waits. drained g d ps ts w.level i (none_left (every_all IsBackForLife ps all) held waits);
  }
