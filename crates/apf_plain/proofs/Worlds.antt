-- A plain world's lists, as the functions of the world.
use Rattle.std.proofs.Common.{◌≡◌, ℕ, ◌<◌, List, length, get_or, set, sym, ap, ◌∙◌, get_or-set_other, get_or-set_same, replicate, arith}
use Rattle.std.proofs.Math.Path.{fun_ext}
use Rattle.std.proofs.lemmas.List.{get_or-replicate, get_or_past, length-replicate}
use Rattle.std.proofs.Math.Decide.{dec_lt}
use mathlib.Core.Logic.{dite}
use native.Mathlib.Decide.{ℕ_discrete}
use Rattle.apf_model.specs.declared.moves.Stage.{Stage}
use Rattle.apf_model.specs.declared.moves.Stage.TheVariants.{Away}
use Rattle.apf_history.specs.Tally.{tally}
use Rattle.apf_model.specs.World.{put, seats_at, width}
use Rattle.apf_plain.specs.Stages.{stage_in, seats_of}
use Rattle.apf_plain.proofs.Sums.{put_here, put_else}

-- a write into a list is a change of the function at one place
pub put_in_list : {A : Type 0} (xs : List A) (r : ℕ) (a d : A) → r < length xs → (λ j. get_or (set xs r a) j d) ≡ put (λ j. get_or xs j d) r a
put_in_list xs r a d inside = fun_ext λ j. dite (ℕ_discrete j r)
    (λ e. ap (λ k. get_or (set xs r a) k d) e ∙ (get_or-set_same xs r a d inside ∙ sym (ap (put (λ k. get_or xs k d) r a) e ∙ put_here (λ k. get_or xs k d) r a)))
    (λ other. get_or-set_other xs r j a d other ∙ sym (put_else (λ k. get_or xs k d) r a j other))

pub seats_written : (widths : List ℕ) (stages : List Stage) (r : ℕ) (s : Stage) → r < length stages → seats_of widths (set stages r s) ≡ tally (λ j. seats_at (put (stage_in stages) r s j) (width widths j)) (length widths)
seats_written widths stages r s inside = ap (λ (f : ℕ → Stage). tally (λ j. seats_at (f j) (width widths j)) (length widths)) (put_in_list stages r s Away inside)

-- a list of one thing is a function of one value
pub same_in_list : {A : Type 0} (n : ℕ) (a : A) (j : ℕ) → get_or (replicate n a) j a ≡ a
same_in_list n a j = dite (dec_lt j n) (λ inside. get_or-replicate n j a a inside) (λ past. get_or_past (replicate n a) j a (omega (arith, length-replicate n a)))
