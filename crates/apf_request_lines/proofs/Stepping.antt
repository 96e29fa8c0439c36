-- One step after the other, until no byte is left.
use Rattle.std.proofs.Common.{◌≡◌, ℕ, suc, ◌-◌, ◌+◌, ◌≤◌, ◌<◌, List, true, false, Option, Some, None, refl, sym, ◌∙◌, arith, cond, length}
use Rattle.std.specs.Prelude.{◌==◌}
use Rattle.apf_request_lines.specs.Steps.{steps}

-- no byte is left before a step
pub at_end : {S : Type 0} (step : S → List ℕ → Option (S × List ℕ)) (n i : ℕ) (so_far : S) (bytes : List ℕ) (total : Option S) → i < n → (length bytes == 0) ≡ true
    → steps step (n - i) so_far bytes ≡ total → total ≡ Some so_far
unfolding steps
at_end step n i so_far bytes total less none is =
    let more : n - i ≡ suc (n - (i + 1)) = omega arith in
    let one : steps step (n - i) so_far bytes ≡ Some so_far = rw (more, none) refl in
    sym is ∙ one

-- a step that makes nothing
pub no_step : {S : Type 0} (step : S → List ℕ → Option (S × List ℕ)) (n i : ℕ) (so_far : S) (bytes : List ℕ) (total : Option S) → i < n → (length bytes == 0) ≡ false
    → step so_far bytes ≡ None → steps step (n - i) so_far bytes ≡ total → total ≡ None
unfolding steps
no_step step n i so_far bytes total less some none is =
    let more : n - i ≡ suc (n - (i + 1)) = omega arith in
    let one : steps step (n - i) so_far bytes ≡ None = rw (more, some, none) refl in
    sym is ∙ one

-- a step
pub one_step : {S : Type 0} (step : S → List ℕ → Option (S × List ℕ)) (n i : ℕ) (so_far next : S) (bytes rest : List ℕ) (total : Option S) → i < n → (length bytes == 0) ≡ false
    → step so_far bytes ≡ Some (next, rest) → steps step (n - i) so_far bytes ≡ total → steps step (n - (i + 1)) next rest ≡ total
unfolding steps
one_step step n i so_far next bytes rest total less some made is =
    let more : n - i ≡ suc (n - (i + 1)) = omega arith in
    let one : steps step (n - i) so_far bytes ≡ steps step (n - (i + 1)) next rest = rw (more, some, made) refl in
    sym one ∙ is

-- after the last step
pub at_last : {S : Type 0} (step : S → List ℕ → Option (S × List ℕ)) (n i : ℕ) (so_far : S) (bytes : List ℕ) (total : Option S) → n ≤ i
    → steps step (n - i) so_far bytes ≡ total → total ≡ (cond (length bytes == 0) (Some so_far) None)
unfolding steps
at_last step n i so_far bytes total all is =
    let none : n - i ≡ 0 = omega arith in
    let one : steps step (n - i) so_far bytes ≡ (cond (length bytes == 0) (Some so_far) None) = rw none refl in
    sym is ∙ one
