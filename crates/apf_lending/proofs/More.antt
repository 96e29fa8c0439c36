-- The breaks of claims, one after another.
use Rattle.std.proofs.Common.{◌≡◌, ℕ, ◌+◌, ◌<◌, ◌∙◌, sym, ap, List, [], ◌∷◌, ◌++◌, length, take, get_or, append_assoc, refl}
use Rattle.std.proofs.lemmas.List.{append-nil, take_more}
use Rattle.apf_lending.specs.declared.claim.Claim.{Claim}
use Rattle.apf_lending.specs.Breaks.{breaks_by, breaks_of}

breaks-append : (xs ys : List Claim) → breaks_of (xs ++ ys) ≡ breaks_of xs ++ breaks_of ys
breaks-append [] ys = refl
breaks-append (x ∷ xs) ys =
    ap (λ bs. breaks_by x.target x.current x.max ++ bs) (breaks-append xs ys) ∙ sym (append_assoc (breaks_by x.target x.current x.max) (breaks_of xs) (breaks_of ys))

-- those of one claim more
pub more_breaks : (claims : List Claim) (i : ℕ) (d : Claim) → i < length claims
    → breaks_of (take (i + 1) claims) ≡ breaks_of (take i claims) ++ breaks_by (get_or claims i d).target (get_or claims i d).current (get_or claims i d).max
more_breaks claims i d within =
    ap breaks_of (take_more claims i d within)
    ∙ (breaks-append (take i claims) (get_or claims i d ∷ [])
    ∙ ap (λ bs. breaks_of (take i claims) ++ bs) (append-nil (breaks_by (get_or claims i d).target (get_or claims i d).current (get_or claims i d).max)))
