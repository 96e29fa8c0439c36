-- The slots of a level after a call.
use Rattle.std.proofs.Common.{◌≡◌, ◌<◌, ℕ, zero, suc, inl, List, [], ◌∷◌, set, Option, Some, None, refl, sym, ◌∙◌, subst}
use Rattle.std.specs.Prelude.{slice_get}
use Rattle.std.proofs.lemmas.List.{length-set}
use Rattle.apf_gate.specs.Tokens.{PassToken}
use Rattle.apf_line.specs.Stopped.{IsStopped}
use Rattle.apf_local.specs.declared.admitting.Admitted.{Admitted}
use Rattle.apf_local.specs.declared.admitting.Admitted.TheVariants as admitted
use Rattle.apf_local.specs.declared.answer.Ask.{Ask}
use Rattle.apf_local.specs.declared.answer.Place.{Place}
use Rattle.apf_local.specs.declared.answer.Place.TheVariants as places
use Rattle.apf_line.specs.declared.attempts.Tried.{Tried}
use Rattle.apf_line.specs.declared.attempts.Tried.TheVariants as tries
use Rattle.apf_local.specs.Worlds.{HasComeIn}
use Rattle.apf_local.specs.Owners.{OwnerView, SameOwner, Stay, IsBegun}
use Rattle.apf_local.specs.Tries.{answer_of_try, place_of_try, Tries, IsTry}
use Rattle.apf_local.specs.Levels.{LocalView, IsLocal, IsAt, IsAdmitted, place_of, answer_of, SlotMoves, Arrives, IsArrival, ArrivesRenewed, IsArrivalOfRenewed}
use Rattle.apf_book.specs.declared.life_event.LifeEvent.{LifeEvent}
use Rattle.apf_local.proofs.Knowing.{book_then}
use Rattle.apf_local.proofs.Worlds.{came_more}

some_is : {A : Type 0} (a b : A) → ◌≡◌ {A = Option A} (Some a) (Some b) → a ≡ b
some_is a b is = cc

none_is : {A : Type 0} (b : A) → ◌≡◌ {A = Option A} None (Some b) → ⊥
none_is b is = cc

pub get_same : {A : Type 0} (xs : List A) (i : ℕ) (x y : A) → slice_get (set xs i x) i ≡ Some y → y ≡ x
get_same [] i x y is = absurd (none_is y is)
get_same (z ∷ zs) zero x y is = sym (some_is x y is)
get_same (z ∷ zs) (suc i) x y is = get_same zs i x y is

-- what holds of each slot's place and Pass, also of the slot that changed
pub set_each : (Is : Place → PassToken → Type 0) (ps : List Place) (ts : List PassToken) (i : ℕ) (p' : Place) (t' : PassToken) → ((k : ℕ) (p : Place) (t : PassToken) → slice_get ps k ≡ Some p → slice_get ts k ≡ Some t → Is p t) → Is p' t'
    → (k : ℕ) (p : Place) (t : PassToken) → slice_get (set ps i p') k ≡ Some p → slice_get (set ts i t') k ≡ Some t → Is p t
set_each Is [] ts i p' t' at new k p t at_p at_t = absurd (none_is p at_p)
set_each Is (q ∷ ps) [] i p' t' at new k p t at_p at_t = absurd (none_is t at_t)
set_each Is (q ∷ ps) (u ∷ ts) zero p' t' at new zero p t at_p at_t = subst (λ (x : Place). Is x t) (some_is p' p at_p) (subst (λ (y : PassToken). Is p' y) (some_is t' t at_t) new)
set_each Is (q ∷ ps) (u ∷ ts) zero p' t' at new (suc k) p t at_p at_t = at (suc k) p t at_p at_t
set_each Is (q ∷ ps) (u ∷ ts) (suc i) p' t' at new zero p t at_p at_t = at zero p t at_p at_t
set_each Is (q ∷ ps) (u ∷ ts) (suc i) p' t' at new (suc k) p t at_p at_t = set_each Is ps ts i p' t' (λ n. at (suc n)) new k p t at_p at_t

-- the same, where a place alone changed
set_place : (Is : Place → PassToken → Type 0) (ps : List Place) (ts : List PassToken) (i : ℕ) (p' : Place) → ((k : ℕ) (p : Place) (t : PassToken) → slice_get ps k ≡ Some p → slice_get ts k ≡ Some t → Is p t) → ((t : PassToken) → slice_get ts i ≡ Some t → Is p' t)
    → (k : ℕ) (p : Place) (t : PassToken) → slice_get (set ps i p') k ≡ Some p → slice_get ts k ≡ Some t → Is p t
set_place Is [] ts i p' at new k p t at_p at_t = absurd (none_is p at_p)
set_place Is (q ∷ ps) [] i p' at new k p t at_p at_t = absurd (none_is t at_t)
set_place Is (q ∷ ps) (u ∷ ts) zero p' at new zero p t at_p at_t = subst (λ (x : Place). Is x t) (some_is p' p at_p) (new t at_t)
set_place Is (q ∷ ps) (u ∷ ts) zero p' at new (suc k) p t at_p at_t = at (suc k) p t at_p at_t
set_place Is (q ∷ ps) (u ∷ ts) (suc i) p' at new zero p t at_p at_t = at zero p t at_p at_t
set_place Is (q ∷ ps) (u ∷ ts) (suc i) p' at new (suc k) p t at_p at_t = set_place Is ps ts i p' (λ n. at (suc n)) new k p t at_p at_t

-- the slot's request, which never came, left it
pub local_left : (l : LocalView) → IsLocal l → (slot : ℕ) (ask : Ask) → slice_get l.places slot ≡ Some (places.Fresh ask) → IsLocal (record l { places = set l.places slot places.Free })
local_left l is slot ask here = record {
  deck = is.deck;
  hand = is.hand;
  operator = is.operator;
  count = length-set l.places slot places.Free ∙ is.count;
  at = set_place IsAt l.places l.owner.passes slot places.Free is.at (λ t at_t. let fresh = (is.at slot (places.Fresh ask) t here at_t).0 in record { back = inl fresh.fresh; may = inl fresh.fresh });
  came = λ k t at_p at_t. set_place (λ (p : Place) (x : PassToken). p ≡ places.Waits → HasComeIn l.owner.book x.pass.number) l.places l.owner.passes slot places.Free
      (λ n p x here there waits. is.came n x (subst (λ (q : Place). slice_get l.places n ≡ Some q) waits here) there) (λ t there waits. absurd (let z : places.Free ≡ places.Waits = waits in cc)) k places.Waits t at_p at_t refl;
  stopped = is.stopped;
}

pub owner_then : (a b c : OwnerView) → SameOwner a b → SameOwner b c → SameOwner a c
owner_then a b c first then = record {
  gate = then.gate ∙ first.gate;
  book = book_then a.book b.book c.book first.book then.book;
  slots = then.slots ∙ first.slots;
  stations = then.stations ∙ first.stations;
}

-- after a step of one slot's Pass, and a dispatch
module _ (l : LocalView) (is : IsLocal l) (o1 o2 : OwnerView) (first : SameOwner l.owner o1) (then : SameOwner o1 o2) (stay : Stay o1 o2) where
  -- who came has come still
  pub came_still : (r : ℕ) → HasComeIn l.owner.book r → HasComeIn o2.book r
  came_still r came = came_more o1.book.desk.desk.knows o2.book.desk.desk.knows then.book.more r (came_more l.owner.book.desk.desk.knows o1.book.desk.desk.knows first.book.more r came)

  pub local_kept : (slot : ℕ) (place' : Place) (after : PassToken) → o1.passes ≡ set l.owner.passes slot after → IsAt place' after → (place' ≡ places.Waits → HasComeIn o2.book after.pass.number) → IsStopped o2.book → IsLocal (record { owner = o2; sizes = l.sizes; places = set l.places slot place' })
  local_kept slot place' after now new came stopped = record {
    deck = then.book.queues ∙ (first.book.queues ∙ is.deck);
    hand = then.book.hand ∙ (first.book.hand ∙ is.hand);
    operator = subst (λ (n : ℕ). 0 < n) (sym (then.stations ∙ first.stations)) is.operator;
    count = length-set l.places slot place' ∙ (is.count ∙ sym (then.slots ∙ first.slots));
    at = λ k p t at_p at_t. set_each IsAt l.places l.owner.passes slot place' after is.at new k p t at_p (subst (λ (ts : List PassToken). slice_get ts k ≡ Some t) (stay.passes ∙ now) at_t);
    came = λ k t at_p at_t. set_each (λ (p : Place) (x : PassToken). p ≡ places.Waits → HasComeIn o2.book x.pass.number) l.places l.owner.passes slot place' after
        (λ n p x here there waits. came_still x.pass.number (is.came n x (subst (λ (q : Place). slice_get l.places n ≡ Some q) waits here) there)) came k places.Waits t at_p (subst (λ (ts : List PassToken). slice_get ts k ≡ Some t) (stay.passes ∙ now) at_t) refl;
    stopped = stopped;
  }

  -- the same, where no slot changed
  pub local_stays : o1.passes ≡ l.owner.passes → IsStopped o2.book → IsLocal (record { owner = o2; sizes = l.sizes; places = l.places })
  local_stays same stopped = record {
    deck = then.book.queues ∙ (first.book.queues ∙ is.deck);
    hand = then.book.hand ∙ (first.book.hand ∙ is.hand);
    operator = subst (λ (n : ℕ). 0 < n) (sym (then.stations ∙ first.stations)) is.operator;
    count = is.count ∙ sym (then.slots ∙ first.slots);
    at = λ k p t at_p at_t. is.at k p t at_p (subst (λ (ts : List PassToken). slice_get ts k ≡ Some t) (stay.passes ∙ same) at_t);
    came = λ k t at_p at_t. came_still t.pass.number (is.came k t at_p (subst (λ (ts : List PassToken). slice_get ts k ≡ Some t) (stay.passes ∙ same) at_t));
    stopped = stopped;
  }

pub at_of_try : (ask : Ask) (x : Tried) (t : PassToken) → IsBegun ask x t → IsAt (place_of_try x) t
at_of_try ask tries.Run t is = is
at_of_try ask (tries.Over d w) t is = is.0
at_of_try ask tries.Blocked t is = record { back = inl is.0; may = inl is.0 }
at_of_try ask tries.Raced t is = absurd is

pub is_try : (slot : ℕ) (ask : Ask) (l l' : LocalView) (x : Tried) → SlotMoves slot l l' (Tries ask (answer_of_try x)) → IsTry slot ask l (answer_of_try x) l'
is_try slot ask l l' tries.Run moves = moves
is_try slot ask l l' (tries.Over d w) moves = moves
is_try slot ask l l' tries.Blocked moves = moves
is_try slot ask l l' tries.Raced moves = moves

-- who tried does not wait
pub try_waits_not : (x : Tried) → place_of_try x ≡ places.Waits → ⊥
try_waits_not tries.Run is = cc
try_waits_not (tries.Over d w) is = cc
try_waits_not tries.Blocked is = cc
try_waits_not tries.Raced is = cc

-- where one waits, that is answered
pub waits_of : (a : Admitted) → place_of a ≡ places.Waits → a ≡ admitted.Waits
waits_of admitted.Run is = absurd (let z : places.Runs ≡ places.Waits = is in cc)
waits_of (admitted.Over d) is = absurd (let z : places.Free ≡ places.Waits = is in cc)
waits_of admitted.Waits is = refl

pub at_of : (a : Admitted) (t : PassToken) → IsAdmitted a t → IsAt (place_of a) t
at_of admitted.Run t is = is
at_of (admitted.Over d) t is = is.0
at_of admitted.Waits t is = is

pub is_arrival : (slot : ℕ) (ask : Ask) (hand : List ℕ) (l : LocalView) (event : Option LifeEvent) (l' : LocalView) (a : Admitted) → SlotMoves slot l l' (Arrives ask hand l.owner.book (answer_of a) event l'.owner.book) → IsArrival slot ask hand l (answer_of a) event l'
is_arrival slot ask hand l event l' admitted.Run moves = moves
is_arrival slot ask hand l event l' (admitted.Over d) moves = moves
is_arrival slot ask hand l event l' admitted.Waits moves = moves

pub is_arrival_of_renewed : (slot : ℕ) (l : LocalView) (event : Option LifeEvent) (l' : LocalView) (a : Admitted) → SlotMoves slot l l' (ArrivesRenewed l.sizes l.owner.book (answer_of a) event l'.owner.book) → IsArrivalOfRenewed slot l (answer_of a) event l'
is_arrival_of_renewed slot l event l' admitted.Run moves = moves
is_arrival_of_renewed slot l event l' (admitted.Over d) moves = moves
is_arrival_of_renewed slot l event l' admitted.Waits moves = moves
