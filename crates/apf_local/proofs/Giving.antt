-- A level whose requests are given up, one slot after another.
use Rattle.std.proofs.Common.{◌≡◌, ◌<◌, ℕ, zero, suc, inl, inr, List, [], ◌∷◌, ◌++◌, length, get_or, set, Option, Some, None, refl, sym, ap, ◌∙◌, subst, arith}
use Rattle.std.specs.Prelude.{slice_get, All}
use Rattle.apf_book.specs.Life.{LifeView}
use Rattle.apf_book.specs.LifeBook.{LifeBookView, IsLifeKept, then_came_all}
use Rattle.apf_local.specs.declared.answer.Answer.{Answer}
use Rattle.apf_local.specs.declared.answer.Answer.TheVariants as answers
use Rattle.apf_local.specs.declared.answer.Place.{Place}
use Rattle.apf_local.specs.declared.answer.Place.TheVariants as places
use Rattle.apf_local.specs.Levels.{LocalView, SameLocal, GoesOn, IsFinish}
use Rattle.apf_local.specs.Seats.{KeepsSeats}
use Rattle.apf_local.specs.Tries.{IsReading}
use Rattle.apf_local.proofs.Logging.{servings_then, came_twice, still_on}
use Rattle.apf_local.proofs.Seats.{keeps_same}
use Rattle.apf_local.proofs.Slots.{owner_then}

some_is : {A : Type 0} (a b : A) → ◌≡◌ {A = Option A} (Some a) (Some b) → a ≡ b
some_is a b is = cc

none_is : {A : Type 0} (b : A) → ◌≡◌ {A = Option A} None (Some b) → ⊥
none_is b is = cc

pub get_set : {A : Type 0} (xs : List A) (i : ℕ) (x y : A) → slice_get xs i ≡ Some y → slice_get (set xs i x) i ≡ Some x
get_set [] i x y is = absurd (none_is y is)
get_set (z ∷ zs) zero x y is = refl
get_set (z ∷ zs) (suc i) x y is = get_set zs i x y is

-- what holds the same everywhere is held still
pub get_still : {A : Type 0} (xs : List A) (j i : ℕ) (x : A) → slice_get xs i ≡ Some x → slice_get (set xs j x) i ≡ Some x
get_still [] j i x is = is
get_still (z ∷ zs) zero zero x is = refl
get_still (z ∷ zs) zero (suc i) x is = is
get_still (z ∷ zs) (suc j) zero x is = is
get_still (z ∷ zs) (suc j) (suc i) x is = get_still zs j i x is

pub get_or_of : {A : Type 0} (xs : List A) (i : ℕ) (d x : A) → slice_get xs i ≡ Some x → get_or xs i d ≡ x
get_or_of [] i d x is = absurd (none_is x is)
get_or_of (z ∷ zs) zero d x is = some_is z x is
get_or_of (z ∷ zs) (suc i) d x is = get_or_of zs i d x is

pub set_as_it_is : {A : Type 0} (xs : List A) (i : ℕ) (x : A) → slice_get xs i ≡ Some x → xs ≡ set xs i x
set_as_it_is [] i x is = refl
set_as_it_is (z ∷ zs) zero x is = ap (λ (y : _). y ∷ zs) (some_is z x is)
set_as_it_is (z ∷ zs) (suc i) x is = ap (λ (ys : _). z ∷ ys) (set_as_it_is zs i x is)

pub local_then : (a b c : LocalView) → SameLocal a b → SameLocal b c → SameLocal a c
local_then a b c first onward = record { owner = owner_then a.owner b.owner c.owner first.owner onward.owner; sizes = onward.sizes ∙ first.sizes }

pub local_same : (a : LocalView) → SameLocal a a
local_same a = record {
  owner = record {
    gate = refl;
    book = record { gate = refl; more = record { shape = refl; closed = λ e. e; told = λ r e. refl; trace = ([], refl) }; queues = refl; room = refl; hand = refl; known = refl; places = refl };
    slots = refl;
    stations = refl;
  };
  sizes = refl;
}

pub on_then : (v : LifeView) (b b' : LifeBookView) → GoesOn v b → ((w : LifeView) → IsLifeKept w b → GoesOn w b') → GoesOn v b'
on_then v b b' on onward =
    let next = onward (then_came_all on.events v) on.kept in
    record {
      events = next.events ++ on.events;
      kept = subst (λ (w : LifeView). IsLifeKept w b') (sym (came_twice next.events on.events v)) next.kept;
      servings = servings_then next.events on.events next.servings on.servings;
    }

-- a slot whose request waited holds what its reading answers
pub reading_sets : (slot : ℕ) (l l' : LocalView) (answer : Place) → IsReading slot l answer l' → slice_get l.places slot ≡ Some places.Waits → l'.places ≡ set l.places slot answer
reading_sets slot l l' answer (inl moves) waits = moves.now_at ∙ ap (λ (p : Place). set l.places slot p) moves.does.place_is
reading_sets slot l l' answer (inr same) waits = absurd (same.2 (sym (some_is places.Waits answer (sym waits ∙ same.1))))

-- a slot whose request executed is free
pub finish_sets : (slot : ℕ) (l l' : LocalView) (answer : Answer) → IsFinish slot l answer l' → slice_get l.places slot ≡ Some places.Runs → l'.places ≡ set l.places slot places.Free
finish_sets slot l l' answers.Wrong is runs = absurd (is.1 runs)
finish_sets slot l l' answers.Released is runs = is.now_at ∙ ap (λ (p : Place). set l.places slot p) is.does.place_is
finish_sets slot l l' answers.Run is runs = absurd is
finish_sets slot l l' (answers.Over d) is runs = absurd is
finish_sets slot l l' answers.Busy is runs = absurd is
finish_sets slot l l' answers.Waits is runs = absurd is
finish_sets slot l l' answers.Spent is runs = absurd is

-- the first slots were given up
pub record AreGivenUp (old now : LocalView) (slots : ℕ) : Type 0 where
  pub same : SameLocal old now
  pub count : length now.places ≡ length old.places
  pub free : (i : ℕ) → i < slots → slice_get now.places i ≡ Some places.Free
  pub idle : All (λ (p : Place). p ≡ places.Free) old.places → now ≡ old
  pub history : (v : LifeView) → IsLifeKept v old.owner.book → GoesOn v now.owner.book
  pub seats : KeepsSeats old now

pub none_given_up : (l : LocalView) → AreGivenUp l l 0
none_given_up l = record { same = local_same l; count = refl; free = λ i low. absurd (omega (arith, low)); idle = λ all. refl; history = λ v kept. still_on v l.owner.book kept; seats = keeps_same l }
