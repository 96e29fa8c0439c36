-- How many slots some workers have.
use Rattle.std.proofs.Common.{◌≡◌, ℕ, zero, suc, ◌+◌, ◌<◌, List, [], ◌∷◌, ◌++◌, length, get_or, set, All, refl, sym, ap, subst, arith}
use Rattle.std.proofs.lemmas.List.Elements.{All-push}
use Rattle.apf_gate.specs.Tokens.{PassToken}
use Rattle.apf_run.specs.RoundsWorkers.{Load, IsInRound, IsIdle, IsReady, held}

pub none_held : (ws : List Load) → All IsIdle ws → held ws ≡ 0
none_held [] none = refl
none_held (w ∷ ws) none =
    let here : length w.slots ≡ 0 = ap length (none 0 w (omega arith)) in
    let rest : held ws ≡ 0 = none_held ws (λ k d low. none (suc k) d (omega arith)) in
    omega (arith, here, rest)

-- one of them has one more
pub one_more_held : (ws : List Load) (at : ℕ) (w d : Load) → at < length ws → length w.slots ≡ length (get_or ws at d).slots + 1 → held (set ws at w) ≡ held ws + 1
one_more_held [] at w d low is = absurd (omega arith)
one_more_held (x ∷ ws) zero w d low is = omega (arith, is)
one_more_held (x ∷ ws) (suc at) w d low is =
    let rest : held (set ws at w) ≡ held ws + 1 = one_more_held ws at w d (omega arith) is in
    omega (arith, rest)

-- who has no slot has none of which a request came
pub idle_ready : (ws : List Load) → All IsIdle ws → All IsReady ws
idle_ready ws idle k d low = λ i t few. absurd (let none = ap length (idle k d low) in omega (arith, few, none))

-- one more slot of which no request came
pub still_ready : (old new : Load) (slot : PassToken) → new.slots ≡ old.slots ++ slot ∷ [] → IsReady old → IsInRound 0 slot → IsReady new
still_ready old new slot slots ready first = subst (All (IsInRound 0)) (sym slots) (All-push (IsInRound 0) old.slots slot ready first)
