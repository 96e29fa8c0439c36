-- One place of a list that is set, and what calls of the level make of their slot.
use Rattle.std.proofs.Common.{◌≡◌, ◌≢◌, ℕ, zero, suc, ◌<◌, List, [], ◌∷◌, length, set, Option, Some, None, refl, sym, ap, ◌∙◌, ⊎_elim, arith}
use Rattle.std.specs.Prelude.{slice_get}
use Rattle.apf_words.specs.declared.decision.Decision.{Decision}
use Rattle.apf_words.specs.declared.decision.Decision.TheVariants.{Execute, QueueFull, Closed, Cancelled, ConcurrencyLimit}
use Rattle.apf_book.specs.declared.life_event.LifeEvent.{LifeEvent}
use Rattle.apf_gate.specs.Tokens.{PassToken}
use Rattle.apf_local.specs.declared.admitting.Admitted.{Admitted}
use Rattle.apf_local.specs.declared.admitting.Admitted.TheVariants as admitted
use Rattle.apf_local.specs.declared.answer.Ask.{Ask}
use Rattle.apf_local.specs.declared.answer.Answer.{Answer}
use Rattle.apf_local.specs.declared.answer.Answer.TheVariants as answers
use Rattle.apf_local.specs.declared.answer.Place.{Place}
use Rattle.apf_local.specs.declared.answer.Place.TheVariants as places
use Rattle.apf_local.specs.Levels.{LocalView, IsArrival, IsFinish, answer_of, place_of}
use Rattle.apf_local.specs.Tries.{IsReading, place_by}

pub some_is : {A : Type 0} {a b : A} → ◌≡◌ {A = Option A} (Some a) (Some b) → a ≡ b
some_is is = cc

pub none_is : {A : Type 0} {b : A} → ◌≡◌ {A = Option A} None (Some b) → ⊥
none_is is = cc

pub get_set : {A : Type 0} (xs : List A) (i : ℕ) (x : A) → i < length xs → slice_get (set xs i x) i ≡ Some x
get_set [] i x low = absurd (omega arith)
get_set (z ∷ zs) zero x low = refl
get_set (z ∷ zs) (suc i) x low = get_set zs i x (omega arith)

pub get_other : {A : Type 0} (xs : List A) (j i : ℕ) (x : A) → i ≢ j → slice_get (set xs j x) i ≡ slice_get xs i
get_other [] j i x ne = refl
get_other (z ∷ zs) zero zero x ne = absurd (ne refl)
get_other (z ∷ zs) zero (suc i) x ne = refl
get_other (z ∷ zs) (suc j) zero x ne = refl
get_other (z ∷ zs) (suc j) (suc i) x ne = get_other zs j i x (λ e. ne (ap suc e))

-- a request that waited is where it read
pub reading_sets : (slot : ℕ) (l l' : LocalView) (answer : Place) → IsReading slot l answer l' → slice_get l.places slot ≡ Some places.Waits → l'.places ≡ set l.places slot answer
reading_sets slot l l' answer is waits =
    ⊎_elim
    (λ m. m.now_at ∙ ap (set l.places slot) m.does.place_is)
    (λ s. absurd (s.2 (some_is (sym s.1 ∙ waits))))
    is

-- a decision says of no request that it did not arrive yet
found_not_fresh : (found : Option Decision) (ask : Ask) → ◌≡◌ {A = Place} (places.Fresh ask) (place_by found) → ⊥
found_not_fresh None ask e = cc
found_not_fresh (Some Execute) ask e = cc
found_not_fresh (Some QueueFull) ask e = cc
found_not_fresh (Some Closed) ask e = cc
found_not_fresh (Some Cancelled) ask e = cc
found_not_fresh (Some ConcurrencyLimit) ask e = cc

-- so one that waited did not read that
pub reading_not_fresh : (slot : ℕ) (l l' : LocalView) (answer : Place) (ask : Ask) → IsReading slot l answer l' → slice_get l.places slot ≡ Some places.Waits → answer ≢ places.Fresh ask
reading_not_fresh slot l l' answer ask is waits fresh =
    ⊎_elim
    (λ m. found_not_fresh m.does.reads.found ask (sym fresh ∙ m.does.reads.says))
    (λ s. absurd (s.2 (some_is (sym s.1 ∙ waits))))
    is

-- a request that executed has given its seats back
pub finish_sets : (slot : ℕ) (l l' : LocalView) (answer : Answer) → IsFinish slot l answer l' → slice_get l.places slot ≡ Some places.Runs → (answer ≡ answers.Released) × (l'.places ≡ set l.places slot places.Free)
finish_sets slot l l' answers.Run is runs = absurd is
finish_sets slot l l' (answers.Over decision) is runs = absurd is
finish_sets slot l l' answers.Busy is runs = absurd is
finish_sets slot l l' answers.Waits is runs = absurd is
finish_sets slot l l' answers.Released m runs = (refl, m.now_at ∙ ap (set l.places slot) m.does.place_is)
finish_sets slot l l' answers.Spent is runs = absurd is
finish_sets slot l l' answers.Wrong is runs = absurd (is.1 runs)

-- where a request is whose arrival is answered so
abbrev pub place_by_answer : Answer → Option Place
place_by_answer answers.Run = Some places.Runs
place_by_answer (answers.Over decision) = Some places.Free
place_by_answer answers.Busy = None
place_by_answer answers.Waits = Some places.Waits
place_by_answer answers.Released = None
place_by_answer answers.Spent = None
place_by_answer answers.Wrong = None

by_admitted : (a : Admitted) → place_by_answer (answer_of a) ≡ Some (place_of a)
by_admitted admitted.Run = refl
by_admitted (admitted.Over decision) = refl
by_admitted admitted.Waits = refl

-- the arrival in a free slot that is not used up is answered by where the request is
pub arrival_sets : (slot : ℕ) (ask : Ask) (hand : List ℕ) (l l' : LocalView) (answer : Answer) (event : Option LifeEvent) → IsArrival slot ask hand l answer event l' → slice_get l.places slot ≡ Some places.Free → answer ≢ answers.Spent
    → (place : Place) × (place_by_answer answer ≡ Some place) × (l'.places ≡ set l.places slot place)
arrival_sets slot ask hand l l' answers.Run event m free some = (m.place', ap place_by_answer m.does.answer_is ∙ by_admitted m.does.admitted ∙ ap Some (sym m.does.place_is), m.now_at)
arrival_sets slot ask hand l l' (answers.Over decision) event m free some = (m.place', ap place_by_answer m.does.answer_is ∙ by_admitted m.does.admitted ∙ ap Some (sym m.does.place_is), m.now_at)
arrival_sets slot ask hand l l' answers.Busy event m free some = (m.place', ap place_by_answer m.does.answer_is ∙ by_admitted m.does.admitted ∙ ap Some (sym m.does.place_is), m.now_at)
arrival_sets slot ask hand l l' answers.Waits event m free some = (m.place', ap place_by_answer m.does.answer_is ∙ by_admitted m.does.admitted ∙ ap Some (sym m.does.place_is), m.now_at)
arrival_sets slot ask hand l l' answers.Released event m free some = (m.place', ap place_by_answer m.does.answer_is ∙ by_admitted m.does.admitted ∙ ap Some (sym m.does.place_is), m.now_at)
arrival_sets slot ask hand l l' answers.Spent event is free some = absurd (some refl)
arrival_sets slot ask hand l l' answers.Wrong event is free some = absurd (is.2 free)

-- the Pass of a slot whose request read its decision
pub token_of : (slot : ℕ) (l l' : LocalView) (answer : Place) → IsReading slot l answer l' → slice_get l.places slot ≡ Some places.Waits → (t : PassToken) × (slice_get l.owner.passes slot ≡ Some t)
token_of slot l l' answer is waits =
    ⊎_elim
    (λ m. (m.before, m.was))
    (λ s. absurd (s.2 (some_is (sym s.1 ∙ waits))))
    is
