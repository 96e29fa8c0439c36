-- Functions that are changed at one place.
use Rattle.std.proofs.Common.{◌≡◌, ◌≢◌, ℕ, refl, ap, eq-eqb, ne_eqb}
use Rattle.std.specs.Prelude.{if◌then◌else◌}
use Rattle.apf_model.specs.World.{put}

pub put_here : {A : Type 0} (f : ℕ → A) (r : ℕ) (a : A) → put f r a r ≡ a
put_here f r a = ap (λ b. if b then a else f r) (eq-eqb r r refl)

pub put_else : {A : Type 0} (f : ℕ → A) (r : ℕ) (a : A) (j : ℕ) → j ≢ r → put f r a j ≡ f j
put_else f r a j other = ap (λ b. if b then a else f j) (ne_eqb j r other)
