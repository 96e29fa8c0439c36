-- Lists place by place.
use Rattle.std.proofs.Common.{◌≡◌, ◌≢◌, ℕ, zero, suc, ◌+◌, ◌<◌, List, [], ◌∷◌, ◌++◌, Bool, cond, Some, set, refl, sym, ap, subst, arith, length, add-zero}
use Rattle.std.specs.Prelude.{slice_get, count_by}
use Rattle.std.specs.List.{AllByRecursion, AllZip}
use Rattle.std.proofs.lemmas.List.Sums.{sum_by-append}
use Rattle.apf_cluster.specs.Runs.{ZipFrom}

-- what is true of each two
pub from_zip : {A B : Type 0} (P : A → B → Type 0) (R : ℕ → A → B → Type 0) → ((i : ℕ) (x : A) (y : B) → P x y → R i x y) → (i : ℕ) (xs : List A) (ys : List B) → AllZip P xs ys → ZipFrom R i xs ys
from_zip P R go i [] [] h = tt
from_zip P R go i [] (y ∷ ys) h = absurd h
from_zip P R go i (x ∷ xs) [] h = absurd h
from_zip P R go i (x ∷ xs) (y ∷ ys) h = (go i x y h.0, from_zip P R go (suc i) xs ys h.1)

-- one list after another
pub then_zip : {A B C : Type 0} (R : ℕ → A → B → Type 0) (Q : B → C → Type 0) (S : ℕ → A → C → Type 0) → ((i : ℕ) (x : A) (y : B) (z : C) → R i x y → Q y z → S i x z)
    → (i : ℕ) (xs : List A) (ys : List B) (zs : List C) → ZipFrom R i xs ys → AllZip Q ys zs → ZipFrom S i xs zs
then_zip R Q S go i [] [] [] r q = tt
then_zip R Q S go i [] [] (z ∷ zs) r q = absurd q
then_zip R Q S go i [] (y ∷ ys) zs r q = absurd r
then_zip R Q S go i (x ∷ xs) [] zs r q = absurd r
then_zip R Q S go i (x ∷ xs) (y ∷ ys) [] r q = absurd q
then_zip R Q S go i (x ∷ xs) (y ∷ ys) (z ∷ zs) r q = (go i x y z r.0 q.0, then_zip R Q S go (suc i) xs ys zs r.1 q.1)

-- the others, where the place is before them
behind : {A B : Type 0} (R S : ℕ → A → B → Type 0) (g : ℕ) → ((i : ℕ) (x : A) (y : B) → i ≢ g → R i x y → S i x y) → (i : ℕ) (xs : List A) (ys : List B) → g < i → ZipFrom R i xs ys → ZipFrom S i xs ys
behind R S g stays i [] [] low h = tt
behind R S g stays i [] (y ∷ ys) low h = absurd h
behind R S g stays i (x ∷ xs) [] low h = absurd h
behind R S g stays i (x ∷ xs) (y ∷ ys) low h = (stays i x y (λ e. omega (arith, e)) h.0, behind R S g stays (suc i) xs ys (omega arith) h.1)

-- one at a place has changed, and the others stay as they were
pub at_place : {A B : Type 0} (R S : ℕ → A → B → Type 0) (g : ℕ) (y y' : B) → ((x : A) → R g x y → S g x y') → ((i : ℕ) (x : A) (z : B) → i ≢ g → R i x z → S i x z)
    → (i p : ℕ) (xs : List A) (ys : List B) → i + p ≡ g → slice_get ys p ≡ Some y → ZipFrom R i xs ys → ZipFrom S i xs (set ys p y')
at_place R S g y y' changes stays i p [] [] at there h = absurd cc
at_place R S g y y' changes stays i p [] (z ∷ ys) at there h = absurd h
at_place R S g y y' changes stays i p (x ∷ xs) [] at there h = absurd h
at_place {A} {B} R S g y y' changes stays i zero (x ∷ xs) (z ∷ ys) at there h =
    let here : i ≡ g = omega (arith, at) in
    let same : z ≡ y = cc in
    let first : R g x y = subst (λ (k : ℕ). R k x y) here (subst (λ (v : B). R i x v) same h.0) in
    (subst (λ (k : ℕ). S k x y') (sym here) (changes x first), behind R S g stays (suc i) xs ys (omega (arith, at)) h.1)
at_place R S g y y' changes stays i (suc p) (x ∷ xs) (z ∷ ys) at there h =
    (stays i x z (λ e. omega (arith, e, at)) h.0, at_place R S g y y' changes stays (suc i) p xs ys (omega (arith, at)) there h.1)

-- each in the place of another
pub step_from : {A B : Type 0} (R : ℕ → A → B → Type 0) (K : ℕ → B → B → Type 0) (S : ℕ → A → B → Type 0) → ((i : ℕ) (x : A) (y z : B) → R i x y → K i y z → S i x z)
    → (i : ℕ) (xs : List A) (ys zs : List B) → length zs ≡ length ys → ((p : ℕ) (y z : B) → slice_get ys p ≡ Some y → slice_get zs p ≡ Some z → K (i + p) y z) → ZipFrom R i xs ys → ZipFrom S i xs zs
step_from R K S go i [] [] [] same each h = tt
step_from R K S go i [] [] (z ∷ zs) same each h = absurd (omega (arith, same))
step_from R K S go i [] (y ∷ ys) zs same each h = absurd h
step_from R K S go i (x ∷ xs) [] zs same each h = absurd h
step_from R K S go i (x ∷ xs) (y ∷ ys) [] same each h = absurd (omega (arith, same))
step_from {A} {B} R K S go i (x ∷ xs) (y ∷ ys) (z ∷ zs) same each h = (
  go i x y z h.0 (subst (λ (n : ℕ). K n y z) (add-zero i) (each 0 y z refl refl)),
  step_from R K S go (suc i) xs ys zs (omega (arith, same)) (λ p one other here there. let next : i + suc p ≡ suc i + p = omega arith in subst (λ (n : ℕ). K n one other) next (each (suc p) one other here there)) h.1,
)

-- what has a place in one list has it in another as long
pub get_as_well : {A : Type 0} (ys zs : List A) (p : ℕ) (y : A) → length ys ≡ length zs → slice_get ys p ≡ Some y → (z : A) × (slice_get zs p ≡ Some z)
get_as_well [] zs p y same here = absurd cc
get_as_well (x ∷ ys) [] p y same here = absurd (omega (arith, same))
get_as_well (x ∷ ys) (z ∷ zs) zero y same here = (z, refl)
get_as_well (x ∷ ys) (z ∷ zs) (suc p) y same here = get_as_well ys zs p y (omega (arith, same)) here

-- how long they are
pub long : {A B : Type 0} (R : ℕ → A → B → Type 0) (i : ℕ) (xs : List A) (ys : List B) → ZipFrom R i xs ys → length ys ≡ length xs
long R i [] [] h = refl
long R i [] (y ∷ ys) h = absurd h
long R i (x ∷ xs) [] h = absurd h
long R i (x ∷ xs) (y ∷ ys) h = ap suc (long R (suc i) xs ys h.1)

-- ---- each element

pub all_get : {A : Type 0} (P : A → Type 0) (xs : List A) (p : ℕ) (y : A) → slice_get xs p ≡ Some y → AllByRecursion P xs → P y
all_get P [] p y there h = absurd cc
all_get P (x ∷ xs) zero y there h = let same : x ≡ y = cc in subst P same h.0
all_get P (x ∷ xs) (suc p) y there h = all_get P xs p y there h.1

pub all_set : {A : Type 0} (P : A → Type 0) (xs : List A) (p : ℕ) (y : A) → P y → AllByRecursion P xs → AllByRecursion P (set xs p y)
all_set P [] p y is h = tt
all_set P (x ∷ xs) zero y is h = (is, h.1)
all_set P (x ∷ xs) (suc p) y is h = (h.0, all_set P xs p y is h.1)

pub all_then : {A : Type 0} (P : A → Type 0) (xs : List A) (y : A) → AllByRecursion P xs → P y → AllByRecursion P (xs ++ y ∷ [])
all_then P [] y h is = (is, tt)
all_then P (x ∷ xs) y h is = (h.0, all_then P xs y h.1 is)

pub all_append : {A : Type 0} (P : A → Type 0) (xs ys : List A) → AllByRecursion P xs → AllByRecursion P ys → AllByRecursion P (xs ++ ys)
all_append P [] ys h k = k
all_append P (x ∷ xs) ys h k = (h.0, all_append P xs ys h.1 k)

pub all_weaker : {A : Type 0} (P Q : A → Type 0) → ((x : A) → P x → Q x) → (xs : List A) → AllByRecursion P xs → AllByRecursion Q xs
all_weaker P Q go [] h = tt
all_weaker P Q go (x ∷ xs) h = (go x h.0, all_weaker P Q go xs h.1)

pub all_of_zip : {A B : Type 0} (R : A → B → Type 0) (P : B → Type 0) → ((x : A) (y : B) → R x y → P y) → (xs : List A) (ys : List B) → AllZip R xs ys → AllByRecursion P ys
all_of_zip R P go [] [] h = tt
all_of_zip R P go [] (y ∷ ys) h = absurd h
all_of_zip R P go (x ∷ xs) [] h = absurd h
all_of_zip R P go (x ∷ xs) (y ∷ ys) h = (go x y h.0, all_of_zip R P go xs ys h.1)

-- ---- counts

pub count_then : {A : Type 0} (f : A → Bool) (xs : List A) (y : A) → count_by f (xs ++ y ∷ []) ≡ count_by f xs + cond (f y) 1 0
count_then {A} f xs y =
    let e : count_by f (xs ++ y ∷ []) ≡ count_by f xs + (0 + cond (f y) 1 0) = sum_by-append (λ (x : A). cond (f x) 1 0) xs (y ∷ []) in
    omega (arith, e)
