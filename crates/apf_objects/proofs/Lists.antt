-- Lists judged from the front.
use Rattle.std.proofs.Common.{◌≡◌, List, [], ◌∷◌, ◌++◌, append_assoc, map, refl, sym, ◌∙◌, ap, Result, Ok, Err}
use Rattle.std.proofs.lemmas.List.{map-append}
use Rattle.apf_files.specs.FirstFault.{before}

-- the values that were read, in front of what the rest is
abbrev pub with_front : {A F : Type 0} → List A → Result (List A) F → Result (List A) F
with_front xs (Ok others) = Ok (xs ++ others)
with_front xs (Err fault) = Err fault

pub with_front-nil : {A F : Type 0} (rest : Result (List A) F) → with_front [] rest ≡ rest
with_front-nil (Ok others) = refl
with_front-nil (Err fault) = refl

with_front-before : {A F : Type 0} (xs : List A) (x : A) (rest : Result (List A) F)
    → with_front xs (before (Ok x) rest) ≡ with_front (xs ++ x ∷ []) rest
with_front-before xs x (Ok others) = ap Ok (sym (append_assoc xs (x ∷ []) others))
with_front-before xs x (Err fault) = refl

-- one more value, of what the code holds
pub one_more : {A B F : Type 0} (f : A → B) (xs : List A) (x : A) (rest : Result (List B) F)
    → with_front (map f (xs ++ x ∷ [])) rest ≡ with_front (map f xs) (before (Ok (f x)) rest)
one_more f xs x rest = ap (λ ys. with_front ys rest) (map-append f xs (x ∷ [])) ∙ sym (with_front-before (map f xs) (f x) rest)
