-- One level after another: its period ends, or it is set its limit.
use Rattle.std.proofs.Common.{◌≡◌, ◌≢◌, ◌∙◌, ℕ, zero, suc, ◌<◌, ◌≤◌, inl, inr, List, [], ◌∷◌, ◌++◌, length, set, Option, Some, refl, sym, ap, subst, arith}
use Rattle.std.specs.Prelude.{All, slice_get}
use Rattle.std.proofs.lemmas.List.Elements.{All-append}
use Rattle.std.proofs.lemmas.Bool.{cases_eq}
use Rattle.apf_lending.specs.Claims.{IsClaim}
use Rattle.apf_lending.specs.declared.claim.Claim.{Claim}
use Rattle.apf_cluster_tables.specs.Limits.{limit_of}
use Rattle.apf_cluster.specs.Lending.{or_none}
use Rattle.apf_cluster.specs.Runs.{EndsOn, IsOfLevel, IsSetBy, RunsOn}
use Rattle.apf_cluster.specs.declared.lanes.LevelLane.{LevelLane}

pub some_is : {A : Type 0} {a b : A} → ◌≡◌ {A = Option A} (Some a) (Some b) → a ≡ b
some_is is = cc

get_set : {A : Type 0} (xs : List A) (i : ℕ) (x : A) → i < length xs → slice_get (set xs i x) i ≡ Some x
get_set [] i x low = absurd (omega arith)
get_set (z ∷ zs) zero x low = refl
get_set (z ∷ zs) (suc i) x low = get_set zs i x (omega arith)

pub get_other : {A : Type 0} (xs : List A) (j i : ℕ) (x : A) → i ≢ j → slice_get (set xs j x) i ≡ slice_get xs i
get_other [] j i x ne = refl
get_other (z ∷ zs) zero zero x ne = absurd (ne refl)
get_other (z ∷ zs) zero (suc i) x ne = refl
get_other (z ∷ zs) (suc j) zero x ne = refl
get_other (z ∷ zs) (suc j) (suc i) x ne = get_other zs j i x (λ e. ne (ap suc e))

get_last : {A : Type 0} (xs : List A) (i : ℕ) (x : A) → i ≡ length xs → slice_get (xs ++ x ∷ []) i ≡ Some x
get_last [] zero x is = refl
get_last [] (suc i) x is = absurd (omega (arith, is))
get_last (z ∷ zs) zero x is = absurd (omega (arith, is))
get_last (z ∷ zs) (suc i) x is = get_last zs i x (omega (arith, is))

get_before : {A : Type 0} (xs : List A) (i : ℕ) (x y : A) → slice_get xs i ≡ Some y → slice_get (xs ++ x ∷ []) i ≡ Some y
get_before [] i x y here = absurd cc
get_before (z ∷ zs) zero x y here = here
get_before (z ∷ zs) (suc i) x y here = get_before zs i x y here

-- of the first of two lists as long these hold, and behind them nothing has changed
abbrev pub FirstSo : (ℕ → LevelLane → LevelLane → Type 0) → ℕ → List LevelLane → List LevelLane → Type 0
FirstSo Q n lanes lanes' = (i : ℕ) (v v' : LevelLane) → i < n → slice_get lanes i ≡ Some v → slice_get lanes' i ≡ Some v' → Q i v v'

pub one_more_so : (Q R : ℕ → LevelLane → LevelLane → Type 0) (n : ℕ) (lanes lanes' : List LevelLane) (was is : LevelLane)
    → n < length lanes' → slice_get lanes' n ≡ slice_get lanes n → slice_get lanes' n ≡ Some was → ((i : ℕ) (v v' : LevelLane) → i < n → Q i v v' → R i v v') → R n was is
    → FirstSo Q n lanes lanes' → FirstSo R (suc n) lanes (set lanes' n is)
one_more_so Q R n lanes lanes' was is low same here weaker so each i v v' less there there' = elim (cases_eq i n) [
  | inl e ↦
      let v_is : was ≡ v = some_is (sym here ∙ (same ∙ (ap (slice_get lanes) (sym e) ∙ there))) in
      let v'_is : is ≡ v' = some_is (sym (get_set lanes' n is low) ∙ (ap (slice_get (set lanes' n is)) (sym e) ∙ there')) in
      subst (λ (k : ℕ). R k v v') (sym e) (subst (λ (x : LevelLane). R n x v') v_is (subst (λ (x : LevelLane). R n was x) v'_is so))
  | inr ne ↦ let low_i : i < n = omega (arith, less, ne) in weaker i v v' low_i (each i v v' low_i there (sym (get_other lanes' n i is ne) ∙ there'))
]

-- the period of a level ended, and this is what it claims
abbrev pub Ended : ℕ → List Claim → ℕ → LevelLane → LevelLane → Type 0
Ended at claims i v v' = (claim : Claim) × (slice_get claims i ≡ Some claim) × EndsOn at claim v v' × IsOfLevel v v'

pub ended_more : (at n : ℕ) (lanes lanes' : List LevelLane) (claims : List Claim) (claim : Claim) (was is : LevelLane) → n ≡ length claims
    → n < length lanes' → slice_get lanes' n ≡ slice_get lanes n → slice_get lanes' n ≡ Some was → EndsOn at claim was is → IsOfLevel was is
    → FirstSo (Ended at claims) n lanes lanes' → FirstSo (Ended at (claims ++ claim ∷ [])) (suc n) lanes (set lanes' n is)
ended_more at n lanes lanes' claims claim was is many low same here ends of_level each =
    one_more_so (Ended at claims) (Ended at (claims ++ claim ∷ [])) n lanes lanes' was is low same here
    (λ i v v' less e. (e.0, get_before claims i claim e.0 e.1, e.2, e.3)) (claim, get_last claims n claim many, ends, of_level) each

-- a level was set its limit
abbrev pub Set : ℕ → List ℕ → ℕ → LevelLane → LevelLane → Type 0
Set at limits i v v' = IsSetBy v.is_lent (record { at = at; limit = limit_of (or_none (slice_get limits i)) }) v v'

pub set_more_so : (at n : ℕ) (limits : List ℕ) (lanes lanes' : List LevelLane) (was is : LevelLane) → n < length lanes' → slice_get lanes' n ≡ slice_get lanes n → slice_get lanes' n ≡ Some was
    → Set at limits n was is → FirstSo (Set at limits) n lanes lanes' → FirstSo (Set at limits) (suc n) lanes (set lanes' n is)
set_more_so at n limits lanes lanes' was is low same here so each = one_more_so (Set at limits) (Set at limits) n lanes lanes' was is low same here (λ i v v' less s. s) so each

-- a lane went on
abbrev pub GoneOn : ℕ → LevelLane → LevelLane → Type 0
GoneOn i v v' = RunsOn v v' × IsOfLevel v v'

pub gone_more : (n : ℕ) (lanes lanes' : List LevelLane) (was is : LevelLane) → n < length lanes' → slice_get lanes' n ≡ slice_get lanes n → slice_get lanes' n ≡ Some was → RunsOn was is → IsOfLevel was is
    → FirstSo GoneOn n lanes lanes' → FirstSo GoneOn (suc n) lanes (set lanes' n is)
gone_more n lanes lanes' was is low same here runs of_level each = one_more_so GoneOn GoneOn n lanes lanes' was is low same here (λ i v v' less s. s) (runs, of_level) each

-- all are so
pub all_so : (Q : ℕ → LevelLane → LevelLane → Type 0) (lanes lanes' : List LevelLane) (n : ℕ) → length lanes' ≡ length lanes → length lanes' ≤ n → FirstSo Q n lanes lanes'
    → (i : ℕ) (v v' : LevelLane) → slice_get lanes i ≡ Some v → slice_get lanes' i ≡ Some v' → Q i v v'
all_so Q lanes lanes' n same all each i v v' here there = each i v v' (let low = inside lanes' i v' there in omega (arith, low, all)) here there where
  inside : {A : Type 0} (xs : List A) (i : ℕ) (x : A) → slice_get xs i ≡ Some x → i < length xs
  inside [] i x here = absurd cc
  inside (z ∷ zs) zero x here = omega arith
  inside (z ∷ zs) (suc i) x here = let low = inside zs i x here in omega (arith, low)

one_is : (claim : Claim) → IsClaim claim → All IsClaim (claim ∷ [])
one_is claim is zero d low = is
one_is claim is (suc k) d low = absurd (omega (arith, low))

pub all_claims : (claims : List Claim) (claim : Claim) → All IsClaim claims → IsClaim claim → All IsClaim (claims ++ claim ∷ [])
all_claims claims claim all is = All-append IsClaim claims (claim ∷ []) all (one_is claim is)
