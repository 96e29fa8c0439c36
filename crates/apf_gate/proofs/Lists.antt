-- Lists of which something holds of each, or of one.
use Rattle.std.proofs.Common.{◌⊎◌, zero, suc, List, [], ◌∷◌, refl, subst, inl, inr, ⊎_elim, arith}
use Rattle.std.specs.Prelude.{All, Any}
use Rattle.apf_gate.specs.Rule.{Every}

pub every_map : {A : Type 0} (P Q : A → Type 0) (xs : List A) → ((x : A) → P x → Q x) → Every P xs → Every Q xs
every_map P Q [] f a = a
every_map P Q (x ∷ xs) f a = (f x a.0, every_map P Q xs f a.1)

pub every_both : {A : Type 0} (P Q R : A → Type 0) (xs : List A) → ((x : A) → P x → Q x → R x) → Every P xs → Every Q xs → Every R xs
every_both P Q R [] f a b = a
every_both P Q R (x ∷ xs) f a b = (f x a.0 b.0, every_both P Q R xs f a.1 b.1)

-- by place, and by recursion
pub every_all : {A : Type 0} (P : A → Type 0) (xs : List A) → All P xs → Every P xs
every_all P [] a = tt
every_all P (x ∷ xs) a = (a 0 x (omega arith), every_all P xs (λ k d l. a (suc k) d (omega arith)))

pub all_every : {A : Type 0} (P : A → Type 0) (xs : List A) → Every P xs → All P xs
all_every P [] e k d l = absurd (omega arith)
all_every P (x ∷ xs) e zero d l = e.0
all_every P (x ∷ xs) e (suc k) d l = all_every P xs e.1 k d (omega arith)

-- P holds of one of them
abbrev pub AnyOf : {A : Type 0} → (A → Type 0) → List A → Type 0
AnyOf {A} P [] = ⊥
AnyOf {A} P (x ∷ xs) = P x ⊎ AnyOf P xs

pub any_place : {A : Type 0} (P : A → Type 0) (xs : List A) → AnyOf P xs → Any P xs
any_place P [] a = elim a [ ]
any_place P (x ∷ xs) a = ⊎_elim
    (λ (p : P x). (0, x, omega arith, refl, p))
    (λ (r : AnyOf P xs). let b = any_place P xs r in (suc b.0, b.1, (let l = b.2 in omega arith), b.3, b.4))
    a

pub any_with : {A : Type 0} (P Q R : A → Type 0) (xs : List A) → ((x : A) → P x → Q x → R x) → AnyOf P xs → Every Q xs → AnyOf R xs
any_with P Q R [] f a k = elim a [ ]
any_with P Q R (x ∷ xs) f a k = ⊎_elim (λ (p : P x). inl (f x p k.0)) (λ (p : AnyOf P xs). inr (any_with P Q R xs f p k.1)) a

-- what follows of one of which both hold
pub any_elim : {A : Type 0} {C : Type 0} (P Q : A → Type 0) (xs : List A) → ((x : A) → P x → Q x → C) → Any P xs → Every Q xs → C
any_elim P Q xs f a k = f a.1 a.4 (subst Q a.3 (all_every Q xs k a.0 a.1 a.2))
