-- Texts written one after another.
use Rattle.std.proofs.Common.{◌≡◌, ℕ, List, [], ◌∷◌, ◌++◌, Option, None, Some, sym, ◌∙◌, ap, subst, append_assoc, append-nil}
use Rattle.std.specs.List.{flat_map}
use Rattle.std.proofs.lemmas.Grind.{flat_map-append}
use Rattle.std.specs.Io.KnownBytes.{Appends}

-- a text, and one more
pub appends_more : (old mid new : Option (List ℕ)) (xs ys : List ℕ) → Appends old mid xs → Appends mid new ys → Appends old new (xs ++ ys)
appends_more None mid new xs ys h k = tt
appends_more (Some a) None new xs ys h k = absurd h
appends_more (Some a) (Some b) None xs ys h k = absurd k
appends_more (Some a) (Some b) (Some c) xs ys h k = k ∙ ap (λ (zs : List ℕ). zs ++ ys) h ∙ append_assoc a xs ys

-- the texts of some elements, and that of one more
pub texts_more : {X : Type 0} (text : X → List ℕ) (xs : List X) (x : X) (ys : List X) → ys ≡ xs ++ x ∷ [] → (old mid new : Option (List ℕ))
    → Appends old mid (flat_map text xs) → Appends mid new (text x) → Appends old new (flat_map text ys)
texts_more text xs x ys is old mid new h k =
    let whole : flat_map text xs ++ text x ≡ flat_map text ys =
    sym (ap (λ zs. flat_map text zs) is ∙ (flat_map-append text xs (x ∷ []) ∙ ap (λ (t : List ℕ). flat_map text xs ++ t) (append-nil (text x)))) in
    subst (λ (t : List ℕ). Appends old new t) whole (appends_more old mid new (flat_map text xs) (text x) h k)

-- nothing was written
pub appends_none : (old : Option (List ℕ)) → Appends old old []
appends_none None = tt
appends_none (Some a) = sym (append-nil a)
