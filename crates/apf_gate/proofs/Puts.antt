-- Functions that are changed at one place.
use Rattle.std.proofs.Common.{◌≡◌, ◌≢◌, ℕ, zero, suc, ◌<◌, List, [], ◌∷◌, length, get_or, refl, ap, eq-eqb, ne_eqb, arith}
use Rattle.std.specs.Prelude.{if◌then◌else◌}
use Rattle.apf_model.specs.World.{put}

pub put_here : {A : Type 0} (f : ℕ → A) (r : ℕ) (a : A) → put f r a r ≡ a
put_here f r a = ap (λ b. if b then a else f r) (eq-eqb r r refl)

pub put_else : {A : Type 0} (f : ℕ → A) (r : ℕ) (a : A) (j : ℕ) → j ≢ r → put f r a j ≡ f j
put_else f r a j other = ap (λ b. if b then a else f j) (ne_eqb j r other)

-- inside a list the default does not matter
pub any_default : (xs : List ℕ) (k d : ℕ) → k < length xs → get_or xs k d ≡ get_or xs k 0
any_default [] k d l = absurd (omega arith)
any_default (x ∷ xs) zero d l = refl
any_default (x ∷ xs) (suc k) d l = any_default xs k d (omega arith)
