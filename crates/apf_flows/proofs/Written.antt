-- Texts written one after another.
use Rattle.std.proofs.Common.{◌≡◌, ℕ, List, ◌∷◌, ◌++◌, get_or, Option, None, Some, ◌∙◌, ap, append_assoc}
use Rattle.std.specs.Io.KnownBytes.{Appends}
use Rattle.apf_flows.specs.Json.{obeyed_by, shown_by, more_of, escapes_from}

-- a text, and one more
pub appends_more : (old mid new : Option (List ℕ)) (xs ys : List ℕ) → Appends old mid xs → Appends mid new ys → Appends old new (xs ++ ys)
appends_more None mid new xs ys h k = tt
appends_more (Some a) None new xs ys h k = absurd h
appends_more (Some a) (Some b) None xs ys h k = absurd k
appends_more (Some a) (Some b) (Some c) xs ys h k = k ∙ ap (λ (zs : List ℕ). zs ++ ys) h ∙ append_assoc a xs ys

-- what a text stands for, one character further
pub one_further : (byte : ℕ) (further rest : List ℕ) (passed next : ℕ) (written whole : List ℕ) → rest ≡ byte ∷ further → passed ≡ 0
    → next ≡ more_of (obeyed_by byte (get_or further 0 0) (get_or further 1 0)) → written ++ escapes_from passed rest ≡ whole
    → (written ++ shown_by (obeyed_by byte (get_or further 0 0) (get_or further 1 0)) byte) ++ escapes_from next further ≡ whole
one_further byte further rest passed next written whole is none more h =
    let shown = shown_by (obeyed_by byte (get_or further 0 0) (get_or further 1 0)) byte in
    let h1 = rw (is, none) at h in
    rw more (append_assoc written shown (escapes_from (more_of (obeyed_by byte (get_or further 0 0) (get_or further 1 0))) further) ∙ h1)
