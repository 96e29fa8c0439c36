-- What is handed out, once one more request was read.
use Rattle.std.proofs.Common.{◌≡◌, ℕ, ◌+◌, ◌<◌, ◌≤◌, List, [], ◌∷◌, ◌++◌, length, take, refl, sym, ap, ◌∙◌, arith}
use Rattle.std.proofs.lemmas.List.{take-append-le, take_all}
use Rattle.apf_audit.specs.AuditEvent.{Event}
use Rattle.apf_audit.specs.Estimates.{run_read}
use Rattle.apf_audit_reader.specs.Log.{handed, handed_from, with_run}

-- requests behind others
pub handed_append : (size : ℕ) (events : List Event) (before : ℕ) (xs : List Event) (y : Event) → handed_from size events before (xs ++ y ∷ []) ≡ handed_from size events before xs ++ handed size events (before + length xs) y ∷ []
handed_append size events before [] y =
    let same : before + 0 ≡ before = omega arith in ap (λ n. handed size events n y ∷ []) (sym same)
handed_append size events before (x ∷ xs) y =
    let count : before + 1 + length xs ≡ before + length (x ∷ xs) = omega arith in
    ap (λ (l : List Event). handed size events before x ∷ l) (handed_append size events (before + 1) xs y ∙ ap (λ n. handed_from size events (before + 1) xs ++ handed size events n y ∷ []) count)

-- what was handed out stays as it was once more is read
pub handed_same : (size : ℕ) (events : List Event) (e : Event) (before : ℕ) (xs : List Event) → before + length xs + size ≤ length events → handed_from size (events ++ e ∷ []) before xs ≡ handed_from size events before xs
handed_same size events e before [] few = refl
handed_same size events e before (x ∷ xs) few =
    let first : take (size + 1 + before) (events ++ e ∷ []) ≡ take (size + 1 + before) events = take-append-le (size + 1 + before) events (e ∷ []) (omega arith) in
    ap (λ (es : List Event). with_run (run_read es x) x ∷ handed_from size (events ++ e ∷ []) (before + 1) xs) first
    ∙ ap (λ (l : List Event). handed size events before x ∷ l) (handed_same size events e (before + 1) xs (omega arith))

-- by all that were read
pub handed_whole : (size : ℕ) (events : List Event) (before : ℕ) (x : Event) → length events ≤ size + 1 + before → handed size events before x ≡ with_run (run_read events x) x
handed_whole size events before x few = ap (λ (es : List Event). with_run (run_read es x) x) (take_all (size + 1 + before) events few)

pub length_handed : (size : ℕ) (events : List Event) (before : ℕ) (xs : List Event) → length (handed_from size events before xs) ≡ length xs
length_handed size events before [] = refl
length_handed size events before (x ∷ xs) = let rest = length_handed size events (before + 1) xs in omega arith
