-- Texts written one after another.
use Rattle.std.proofs.Common.{ℕ, List, ◌++◌, Option, None, Some, ◌∙◌, ap, append_assoc}
use Rattle.std.specs.Io.KnownBytes.{Appends}

-- a text, and one more
pub one_more : (old mid new : Option (List ℕ)) (xs ys : List ℕ) → Appends old mid xs → Appends mid new ys → Appends old new (xs ++ ys)
one_more None mid new xs ys h k = tt
one_more (Some a) None new xs ys h k = absurd h
one_more (Some a) (Some b) None xs ys h k = absurd k
one_more (Some a) (Some b) (Some c) xs ys h k = k ∙ ap (λ (zs : List ℕ). zs ++ ys) h ∙ append_assoc a xs ys
