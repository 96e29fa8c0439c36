-- What holds of all or of one of those that came back.
use Rattle.std.proofs.Common.{◌∙◌, List, [], ◌∷◌, ◌++◌, All, subst, arith}
use Rattle.std.specs.Prelude.{Any}
use Rattle.std.proofs.lemmas.List.{length-append, get_or_append_left}

pub all_as : {A : Type 0} (P Q : A → Type 0) (xs : List A) → ((x : A) → P x → Q x) → All P xs → All Q xs
all_as P Q xs f h k d low = f _ (h k d low)

-- what holds of one of these, holds of one of these and one more
pub any_more : {A : Type 0} (P : A → Type 0) (xs : List A) (x : A) → Any P xs → Any P (xs ++ x ∷ [])
any_more P xs x any = (
  any.0,
  any.1,
  (let l = any.2 in omega (arith, length-append xs (x ∷ []))),
  get_or_append_left xs (x ∷ []) _ _ any.2 ∙ any.3,
  any.4,
)

-- what follows of one of which P holds, where Q holds of each
pub of_one : {A : Type 0} {C : Type 0} (P Q : A → Type 0) (xs : List A) → ((x : A) → P x → Q x → C) → Any P xs → All Q xs → C
of_one P Q xs f any all = f any.1 any.4 (subst Q any.3 (all any.0 any.1 any.2))

-- what follows of one of which P holds, where Q and R hold of each
pub of_one_of : {A : Type 0} {C : Type 0} (P Q R : A → Type 0) (xs : List A) → ((x : A) → P x → Q x → R x → C) → Any P xs → All Q xs → All R xs → C
of_one_of P Q R xs f any all also = f any.1 any.4 (subst Q any.3 (all any.0 any.1 any.2)) (subst R any.3 (also any.0 any.1 any.2))
