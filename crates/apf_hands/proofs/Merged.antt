-- The flows that share a queue with one are found by the places of those that hold each of its queues.
use Rattle.std.proofs.Common.{◌≡◌, ℕ, zero, suc, ◌+◌, ◌<◌, ◌≤◌, List, [], ◌∷◌, ◌++◌, Bool, true, false, Option, None, Some, cond, not, length, get_or, map, refl, sym, ◌∙◌, ap, ap₂, subst, append_assoc, append-nil, length-append, min, inl, inr, ◌⊎◌, arith}
use Rattle.std.specs.Prelude.{fold, ◌&&◌, ◌||◌, ◌==◌, All, Contains, nat_eq, slice_get}
use Rattle.std.specs.Option.{IfSome}
use Rattle.std.specs.Io.KnownBytes.{Appends}
use Rattle.std.specs.List.{AllByRecursion, cons_option, flat_map, reduce}
use Rattle.std.proofs.lemmas.Bool.Decides.{nat_tests}
use Rattle.std.proofs.lemmas.Grind.{flat_map-append}
use Rattle.std.proofs.lemmas.List.{get_or_at}
use Rattle.std.proofs.lemmas.Option.{same_Some}
use Rattle.std.proofs.lemmas.List.Elements.{All-contains, All-from_recursion}
use Rattle.apf_hands.specs.Hands.{Flow, holds, share_line, share_text, shares_one, shares_text}
use Rattle.apf_hands.specs.Holders.{AreHolders, behind, first_places, places_from}
use Rattle.apf_hands.proofs.Written.{appends_more}

-- the places that were not passed, where the first flow of those that were not has this place
abbrev pub rests_from : ℕ → List Flow → List ℕ → List (List ℕ)
rests_from place flows hand = map (places_from place flows) hand

-- ---- tests

or_left : (a b : Bool) → (a || b) ≡ false → a ≡ false
or_left true b e = absurd cc
or_left false b e = refl

or_right : (a b : Bool) → (a || b) ≡ false → b ≡ false
or_right true b e = absurd cc
or_right false b e = e

own : (a : ℕ) → nat_eq a a ≡ true
own a = grind (arith, nat_tests)

apart : (a b : ℕ) → a < b → nat_eq b a ≡ false
apart a b low = grind (arith, nat_tests)

-- ---- one flow

behind_none : (m place : ℕ) (flows : List Flow) (queue : ℕ) → m < place → behind m (places_from place flows queue) ≡ places_from place flows queue
behind_none m place [] queue low = refl
behind_none m place (f ∷ flows) queue low = by (holds f.hand queue) (behind_none m (suc place) flows queue (omega (arith, low)))
  where
    by : (b : Bool) → behind m (places_from (suc place) flows queue) ≡ places_from (suc place) flows queue → behind m (cond b (place ∷ places_from (suc place) flows queue) (places_from (suc place) flows queue)) ≡ cond b (place ∷ places_from (suc place) flows queue) (places_from (suc place) flows queue)
    by true rest = ap (λ (t : Bool). cond t (places_from (suc place) flows queue) (place ∷ places_from (suc place) flows queue)) (apart m place low)
    by false rest = rest

behind_here : (place : ℕ) (f : Flow) (flows : List Flow) (queue : ℕ) → behind place (places_from place (f ∷ flows) queue) ≡ places_from (suc place) flows queue
behind_here place f flows queue = by (holds f.hand queue)
  where
    by : (b : Bool) → behind place (cond b (place ∷ places_from (suc place) flows queue) (places_from (suc place) flows queue)) ≡ places_from (suc place) flows queue
    by true = ap (λ (t : Bool). cond t (places_from (suc place) flows queue) (place ∷ places_from (suc place) flows queue)) (own place)
    by false = behind_none place (suc place) flows queue (omega arith)

all_behind : (place : ℕ) (f : Flow) (flows : List Flow) (hand : List ℕ) → map (behind place) (rests_from place (f ∷ flows) hand) ≡ rests_from (suc place) flows hand
all_behind place f flows [] = refl
all_behind place f flows (q ∷ hand) = ap₂ (λ (r : List ℕ) (rs : List (List ℕ)). r ∷ rs) (behind_here place f flows q) (all_behind place f flows hand)

-- a flow that shares no queue stands at none of the hand
all_skipped : (place : ℕ) (f : Flow) (flows : List Flow) (hand : List ℕ) → shares_one hand f.hand ≡ false → rests_from place (f ∷ flows) hand ≡ rests_from (suc place) flows hand
all_skipped place f flows [] none = refl
all_skipped place f flows (q ∷ hand) none =
    ap₂ (λ (r : List ℕ) (rs : List (List ℕ)). r ∷ rs)
    (ap (λ (b : Bool). cond b (place ∷ places_from (suc place) flows q) (places_from (suc place) flows q)) (or_left (holds f.hand q) (shares_one hand f.hand) none))
    (all_skipped place f flows hand (or_right (holds f.hand q) (shares_one hand f.hand) none))

-- ---- the first places

first_low : (place : ℕ) (flows : List Flow) (queue : ℕ) → IfSome (slice_get (places_from place flows queue) 0) (λ p. place ≤ p)
first_low place [] queue = tt
first_low place (f ∷ flows) queue = by (holds f.hand queue) (first_low (suc place) flows queue)
  where
    weaker : (o : Option ℕ) → IfSome o (λ p. suc place ≤ p) → IfSome o (λ p. place ≤ p)
    weaker None h = tt
    weaker (Some p) h = omega (arith, h)

    by : (b : Bool) → IfSome (slice_get (places_from (suc place) flows queue) 0) (λ p. suc place ≤ p) → IfSome (slice_get (cond b (place ∷ places_from (suc place) flows queue) (places_from (suc place) flows queue)) 0) (λ p. place ≤ p)
    by true rest = let same : place ≤ place = omega arith in same
    by false rest = weaker (slice_get (places_from (suc place) flows queue) 0) rest

one_more : (P : ℕ → Type 0) (o : Option ℕ) (xs : List ℕ) → IfSome o P → AllByRecursion P xs → AllByRecursion P (cons_option o xs)
one_more P None xs h all = all
one_more P (Some x) xs h all = (h, all)

firsts_low : (place : ℕ) (flows : List Flow) (hand : List ℕ) → AllByRecursion (λ p. place ≤ p) (first_places (rests_from place flows hand))
firsts_low place flows [] = tt
firsts_low place flows (q ∷ hand) =
    one_more (λ p. place ≤ p) (slice_get (places_from place flows q) 0) (first_places (rests_from place flows hand)) (first_low place flows q) (firsts_low place flows hand)

contains_later : (o : Option ℕ) (xs : List ℕ) (x : ℕ) → Contains xs x → Contains (cons_option o xs) x
contains_later None xs x has = has
contains_later (Some y) xs x has = (suc has.0, (let low = has.1 in omega (arith, low)), has.2)

-- a flow that shares a queue is the first at it
first_here : (place : ℕ) (f : Flow) (flows : List Flow) (hand : List ℕ) → shares_one hand f.hand ≡ true → Contains (first_places (rests_from place (f ∷ flows) hand)) place
first_here place f flows [] some = absurd cc
first_here place f flows (q ∷ hand) some = by (holds f.hand q) (λ is. first_here place f flows hand is) some
  where
    by : (b : Bool) → (shares_one hand f.hand ≡ true → Contains (first_places (rests_from place (f ∷ flows) hand)) place) → (b || shares_one hand f.hand) ≡ true
        → Contains (cons_option (slice_get (cond b (place ∷ places_from (suc place) flows q) (places_from (suc place) flows q)) 0) (first_places (rests_from place (f ∷ flows) hand))) place
    by true rest is = (0, omega arith, refl)
    by false rest is = contains_later (slice_get (places_from (suc place) flows q) 0) (first_places (rests_from place (f ∷ flows) hand)) place (rest is)

no_firsts : (place : ℕ) (hand : List ℕ) → first_places (rests_from place [] hand) ≡ []
no_firsts place [] = refl
no_firsts place (q ∷ hand) = no_firsts place hand

-- none of the flows shares a queue of the hand
abbrev pub NoneShares : List ℕ → List Flow → Type 0
NoneShares hand flows = AllByRecursion (λ (f : Flow). shares_one hand f.hand ≡ false) flows

-- the next flow that shares a queue has this place, and the others are behind it
pub record IsNext (place : ℕ) (flows : List Flow) (hand : List ℕ) (m : ℕ) : Type 0 where
  pub passed : List Flow
  pub flow : Flow
  pub later : List Flow
  pub split : flows ≡ passed ++ flow ∷ later
  pub at : m ≡ place + length passed
  pub none : NoneShares hand passed
  pub rests : map (behind m) (rests_from place flows hand) ≡ rests_from (suc m) later hand

pub next_is : (hand : List ℕ) (place : ℕ) (flows : List Flow) (m : ℕ) → Contains (first_places (rests_from place flows hand)) m → All (λ other. m ≤ other) (first_places (rests_from place flows hand)) → IsNext place flows hand m
next_is hand place [] m has least =
    let none = ap (λ (ps : List ℕ). length ps) (no_firsts place hand) in
    let low = has.1 in
    absurd (omega (arith, none, low))
next_is hand place (f ∷ flows) m has least = by (shares_one hand f.hand) refl (λ h l. next_is hand (suc place) flows m h l)
  where
    firsts : List ℕ
    firsts = first_places (rests_from place (f ∷ flows) hand)

    by : (b : Bool) → shares_one hand f.hand ≡ b
        → (Contains (first_places (rests_from (suc place) flows hand)) m → All (λ other. m ≤ other) (first_places (rests_from (suc place) flows hand)) → IsNext (suc place) flows hand m)
        → IsNext place (f ∷ flows) hand m
    by true is rest =
        let above : place ≤ m = All-contains (λ p. place ≤ p) (first_places (rests_from place (f ∷ flows) hand)) m (All-from_recursion (λ p. place ≤ p) (first_places (rests_from place (f ∷ flows) hand)) (firsts_low place (f ∷ flows) hand)) has in
        let below : m ≤ place = All-contains (λ p. m ≤ p) (first_places (rests_from place (f ∷ flows) hand)) place least (first_here place f flows hand is) in
        let same : place ≡ m = omega (arith, above, below) in
        record {
          passed = [];
          flow = f;
          later = flows;
          split = refl;
          at = omega (arith, same);
          none = tt;
          rests = subst (λ (n : ℕ). map (behind n) (rests_from place (f ∷ flows) hand) ≡ rests_from (suc n) flows hand) same (all_behind place f flows hand);
        }
    by false is rest =
        let e = all_skipped place f flows hand is in
        let n = rest (subst (λ (rs : List (List ℕ)). Contains (first_places rs) m) e has) (subst (λ (rs : List (List ℕ)). All (λ other. m ≤ other) (first_places rs)) e least) in
        let at = n.at in
        record {
          passed = f ∷ n.passed;
          flow = n.flow;
          later = n.later;
          split = ap (λ (fs : List Flow). f ∷ fs) n.split;
          at = omega (arith, at);
          none = (is, n.none);
          rests = ap (λ (rs : List (List ℕ)). map (behind m) rs) e ∙ n.rests;
        }

pub none_left : (hand : List ℕ) (place : ℕ) (flows : List Flow) → first_places (rests_from place flows hand) ≡ [] → NoneShares hand flows
none_left hand place [] none = tt
none_left hand place (f ∷ flows) none = by (shares_one hand f.hand) refl (λ e. none_left hand (suc place) flows e)
  where
    by : (b : Bool) → shares_one hand f.hand ≡ b → (first_places (rests_from (suc place) flows hand) ≡ [] → NoneShares hand flows) → NoneShares hand (f ∷ flows)
    by true is rest =
        let has = first_here place f flows hand is in
        let low = has.1 in
        let nothing = ap (λ (ps : List ℕ). length ps) none in
        absurd (omega (arith, low, nothing))
    by false is rest = (is, rest (ap (λ (rs : List (List ℕ)). first_places rs) (sym (all_skipped place f flows hand is)) ∙ none))

-- ---- what is written

no_text : (flow f : Flow) → shares_one flow.hand f.hand ≡ false → share_text flow f ≡ []
no_text flow f none = by (not (flow.hash == f.hash)) (shares_one flow.hand f.hand) none
  where
    by : (a b : Bool) → b ≡ false → cond (a && b) (share_line flow f) [] ≡ []
    by true b e = ap (λ (t : Bool). cond t (share_line flow f) []) e
    by false b e = refl

no_texts : (flow : Flow) (flows : List Flow) → NoneShares flow.hand flows → flat_map (share_text flow) flows ≡ []
no_texts flow [] none = refl
no_texts flow (f ∷ flows) none = ap₂ (λ (a b : List ℕ). a ++ b) (no_text flow f none.0) (no_texts flow flows none.1)

-- the flows so far were written, and these are the places of the others
pub record HasShared (flow : Flow) (flows : List Flow) (places : List (List ℕ)) (was now : Option (List ℕ)) : Type 0 where
  pub done : List Flow
  pub left : List Flow
  pub split : flows ≡ done ++ left
  pub rests : places ≡ rests_from (length done) left flow.hand
  pub written : Appends was now (shares_text flow done)

rests_all : (flows : List Flow) (places : ℕ → List ℕ) (hand : List ℕ) → AreHolders flows places → map places hand ≡ rests_from 0 flows hand
rests_all flows places [] h = refl
rests_all flows places (q ∷ hand) h = ap₂ (λ (r : List ℕ) (rs : List (List ℕ)). r ∷ rs) (h.each q) (rests_all flows places hand h)

pub shared_none : (flow : Flow) (flows : List Flow) (places : ℕ → List ℕ) (rests : List (List ℕ)) (was : Option (List ℕ)) → AreHolders flows places → rests ≡ map places flow.hand
    → Appends was was [] → HasShared flow flows rests was was
unfolding shares_text
shared_none flow flows places rests was h is nothing = record {
  done = [];
  left = flows;
  split = refl;
  rests = is ∙ rests_all flows places flow.hand h;
  written = nothing;
}

-- ---- the first place of all

among_later : (a : ℕ) (xs : List ℕ) (m : ℕ) → Contains xs m → Contains (a ∷ xs) m
among_later a xs m has = (suc has.0, (let low = has.1 in omega (arith, low)), has.2)

among_first : (a x : ℕ) (xs : List ℕ) (m : ℕ) → Contains (a ∷ xs) m → Contains (a ∷ x ∷ xs) m
among_first a x xs m has = by has.0 has.1 has.2
  where
    by : (k : ℕ) → k < length (a ∷ xs) → get_or (a ∷ xs) k m ≡ m → Contains (a ∷ x ∷ xs) m
    by zero low is = (0, omega arith, is)
    by (suc k) low is = (suc (suc k), omega (arith, low), is)

-- the first place of all, or there is none
least_low : (a : ℕ) (xs : List ℕ) → fold min a xs ≤ a
least_low a [] = omega arith
least_low a (x ∷ xs) = let h = least_low (min a x) xs in omega (arith, h)

least_all : (a : ℕ) (xs : List ℕ) → AllByRecursion (λ x. fold min a xs ≤ x) xs
least_all a [] = tt
least_all a (x ∷ xs) = (let h = least_low (min a x) xs in omega (arith, h), least_all (min a x) xs)

least_among : (a : ℕ) (xs : List ℕ) → Contains (a ∷ xs) (fold min a xs)
least_among a [] = (0, omega arith, refl)
least_among a (x ∷ xs) = by (least_among (min a x) xs) (cases a x)
  where
    cases : (a x : ℕ) → (min a x ≡ a) ⊎ (min a x ≡ x)
    cases a x = grind arith

    by : Contains (min a x ∷ xs) (fold min (min a x) xs) → (min a x ≡ a) ⊎ (min a x ≡ x) → Contains (a ∷ x ∷ xs) (fold min (min a x) xs)
    by has (inl is) = among_first a x xs (fold min (min a x) xs) (subst (λ (n : ℕ). Contains (n ∷ xs) (fold min (min a x) xs)) is has)
    by has (inr is) = among_later a (x ∷ xs) (fold min (min a x) xs) (subst (λ (n : ℕ). Contains (n ∷ xs) (fold min (min a x) xs)) is has)

-- what the least of some places is
pub least_is : (xs : List ℕ) (m : ℕ) → reduce min xs ≡ Some m → Contains xs m × All (λ other. m ≤ other) xs
least_is [] m is = absurd cc
least_is (x ∷ xs) m is =
    let same : fold min x xs ≡ m = same_Some (fold min x xs) m is in (
      subst (λ (n : ℕ). Contains (x ∷ xs) n) same (least_among x xs),
      subst (λ (n : ℕ). All (λ other. n ≤ other) (x ∷ xs)) same (All-from_recursion (λ other. fold min x xs ≤ other) (x ∷ xs) (least_low x xs, least_all x xs)),
    )

pub least_none : (xs : List ℕ) → reduce min xs ≡ None → xs ≡ []
least_none [] is = refl
least_none (x ∷ xs) is = absurd cc

-- the next place of all
abbrev pub IsLeast : List (List ℕ) → ℕ → Type 0
IsLeast rests m = Contains (first_places rests) m × All (λ other. m ≤ other) (first_places rests)

next_of : (flow : Flow) (flows : List Flow) (rests : List (List ℕ)) (was now : Option (List ℕ)) (m : ℕ) → (h : HasShared flow flows rests was now) → IsLeast rests m → IsNext (length h.done) h.left flow.hand m
next_of flow flows rests was now m h least =
    next_is flow.hand (length h.done) h.left m (subst (λ (rs : List (List ℕ)). Contains (first_places rs) m) h.rests least.0) (subst (λ (rs : List (List ℕ)). All (λ other. m ≤ other) (first_places rs)) h.rests least.1)

-- its flow, behind those that were passed
whole_split : (flows done left passed later : List Flow) (f : Flow) → flows ≡ done ++ left → left ≡ passed ++ f ∷ later → flows ≡ (done ++ passed) ++ f ∷ later
whole_split flows done left passed later f whole part =
    whole ∙ ap (λ (fs : List Flow). done ++ fs) part ∙ sym (append_assoc done passed (f ∷ later))

long_of : (done passed : List Flow) (m : ℕ) → m ≡ length done + length passed → length (done ++ passed) ≡ m
long_of done passed m at = length-append done passed ∙ sym at

pub next_within : (flow : Flow) (flows : List Flow) (rests : List (List ℕ)) (was now : Option (List ℕ)) (m : ℕ) → HasShared flow flows rests was now → IsLeast rests m → m < length flows
next_within flow flows rests was now m h least =
    let n = next_of flow flows rests was now m h least in
    let whole = ap (λ (fs : List Flow). length fs) (whole_split flows h.done h.left n.passed n.later n.flow h.split n.split) in
    let long = length-append (h.done ++ n.passed) (n.flow ∷ n.later) in
    let at = long_of h.done n.passed m n.at in
    omega (arith, whole, long, at)

next_flow : (flow : Flow) (flows : List Flow) (rests : List (List ℕ)) (was now : Option (List ℕ)) (m : ℕ) (d : Flow) (h : HasShared flow flows rests was now) (least : IsLeast rests m)
    → get_or flows m d ≡ (next_of flow flows rests was now m h least).flow
next_flow flow flows rests was now m d h least =
    let n = next_of flow flows rests was now m h least in
    ap (λ (fs : List Flow). get_or fs m d) (whole_split flows h.done h.left n.passed n.later n.flow h.split n.split)
    ∙ get_or_at (h.done ++ n.passed) n.flow n.later d m (long_of h.done n.passed m n.at)

texts_so_far : (flow : Flow) (done passed : List Flow) (f : Flow) → NoneShares flow.hand passed → shares_text flow done ++ share_text flow f ≡ shares_text flow ((done ++ passed) ++ f ∷ [])
unfolding shares_text
texts_so_far flow done passed f none =
    sym (flat_map-append (share_text flow) (done ++ passed) (f ∷ [])
    ∙ ap₂ (λ (a b : List ℕ). a ++ b)
    (flat_map-append (share_text flow) done passed ∙ ap (λ (t : List ℕ). flat_map (share_text flow) done ++ t) (no_texts flow passed none) ∙ append-nil (flat_map (share_text flow) done))
    (append-nil (share_text flow f)))

pub shared_more : (flow : Flow) (flows : List Flow) (rests new : List (List ℕ)) (was mid now : Option (List ℕ)) (m : ℕ) (f : Flow) → HasShared flow flows rests was mid → IsLeast rests m
    → f ≡ get_or flows m f → Appends mid now (share_text flow f) → new ≡ map (behind m) rests → HasShared flow flows new was now
shared_more flow flows rests new was mid now m f h least is more passes =
    let n = next_of flow flows rests was mid m h least in
    let same : f ≡ n.flow = is ∙ next_flow flow flows rests was mid m f h least in
    let long : length ((h.done ++ n.passed) ++ n.flow ∷ []) ≡ suc m =
    let a = length-append (h.done ++ n.passed) (n.flow ∷ []) in let b = long_of h.done n.passed m n.at in omega (arith, a, b) in
    record {
      done = (h.done ++ n.passed) ++ n.flow ∷ [];
      left = n.later;
      split = whole_split flows h.done h.left n.passed n.later n.flow h.split n.split ∙ sym (append_assoc (h.done ++ n.passed) (n.flow ∷ []) n.later);
      rests = passes ∙ ap (λ (rs : List (List ℕ)). map (behind m) rs) h.rests ∙ n.rests ∙ ap (λ (k : ℕ). rests_from k n.later flow.hand) (sym long);
      written =
          subst (λ (t : List ℕ). Appends was now t) (texts_so_far flow h.done n.passed n.flow n.none)
          (appends_more was mid now (shares_text flow h.done) (share_text flow n.flow) h.written (subst (λ (x : Flow). Appends mid now (share_text flow x)) same more));
    }

all_texts : (flow : Flow) (flows done left : List Flow) → flows ≡ done ++ left → NoneShares flow.hand left → shares_text flow done ≡ shares_text flow flows
unfolding shares_text
all_texts flow flows done left split none =
    sym (ap (λ (fs : List Flow). flat_map (share_text flow) fs) split ∙ flat_map-append (share_text flow) done left
    ∙ ap (λ (t : List ℕ). flat_map (share_text flow) done ++ t) (no_texts flow left none) ∙ append-nil (flat_map (share_text flow) done))

pub shared_all : (flow : Flow) (flows : List Flow) (rests : List (List ℕ)) (was now : Option (List ℕ)) → HasShared flow flows rests was now → first_places rests ≡ [] → Appends was now (shares_text flow flows)
shared_all flow flows rests was now h none =
    subst (λ (t : List ℕ). Appends was now t)
    (all_texts flow flows h.done h.left h.split (none_left flow.hand (length h.done) h.left (ap (λ (rs : List (List ℕ)). first_places rs) (sym h.rests) ∙ none)))
    h.written

-- ---- it ends: fewer places are left each time

abbrev pub how_many : List (List ℕ) → ℕ
how_many [] = 0
how_many (rest ∷ rests) = length rest + how_many rests

no_more : (m : ℕ) (rest : List ℕ) → length (behind m rest) ≤ length rest
no_more m [] = omega arith
no_more m (p ∷ rest) = by (p == m)
  where
    by : (b : Bool) → length (cond b rest (p ∷ rest)) ≤ length (p ∷ rest)
    by true = omega arith
    by false = omega arith

no_more_all : (m : ℕ) (rests : List (List ℕ)) → how_many (map (behind m) rests) ≤ how_many rests
no_more_all m [] = omega arith
no_more_all m (rest ∷ rests) = let a = no_more m rest in let b = no_more_all m rests in omega (arith, a, b)

pub fewer : (m : ℕ) (rests : List (List ℕ)) → Contains (first_places rests) m → how_many (map (behind m) rests) < how_many rests
fewer m [] has = let low = has.1 in absurd (omega (arith, low))
fewer m ([] ∷ rests) has = let less = fewer m rests has in omega (arith, less)
fewer m ((p ∷ rest) ∷ rests) has = by has.0 has.1 has.2 (λ h. fewer m rests h)
  where
    by : (k : ℕ) → k < length (p ∷ first_places rests) → get_or (p ∷ first_places rests) k m ≡ m → (Contains (first_places rests) m → how_many (map (behind m) rests) < how_many rests)
        → how_many (map (behind m) ((p ∷ rest) ∷ rests)) < how_many ((p ∷ rest) ∷ rests)
    by zero low is others =
        let first : (p == m) ≡ true = ap (λ (x : ℕ). x == m) is ∙ own m in
        let passes : behind m (p ∷ rest) ≡ rest = ap (λ (b : Bool). cond b rest (p ∷ rest)) first in
        let a = ap (λ (r : List ℕ). length r) passes in
        let b = no_more_all m rests in
        omega (arith, a, b)
    by (suc k) low is others =
        let a = no_more m (p ∷ rest) in
        let b = others (k, (omega (arith, low)), is) in
        omega (arith, a, b)
