-- No two requests have one line.
use Rattle.std.proofs.Common.{◌≡◌, ℕ, ◌+◌, ◌<◌, ◌≤◌, List, [], ◌∷◌, ◌++◌, All, length, map, Bool, true, false, refl, sym, ap, ◌∙◌, subst, arith}
use Rattle.std.specs.Prelude.{◌==◌, cond, count_by}
use Rattle.std.specs.List.{AllByRecursion}
use Rattle.std.proofs.lemmas.Bool.Decides.{nat_tests}
use Rattle.std.proofs.lemmas.List.{map-append}
use Rattle.std.proofs.lemmas.List.Elements.{All-from_recursion, All-push, recursion_from_All}
use Rattle.std.proofs.lemmas.List.Sums.{sum_by-cons, sum_by_push}
use Rattle.apf_times.specs.WindowRuns.{HaveOwnLines}
use Rattle.apf_audit.specs.declared.event.Taken.{Taken}
use Rattle.apf_audit_reader.specs.Places.{placed}

-- the lines of these are not above this one
abbrev pub AreBelow : ℕ → List Taken → Type 0
AreBelow line taken = All (λ t. t.line ≤ line) taken

further : (line : ℕ) (taken : List Taken) → AllByRecursion (λ t. t.line ≤ line) taken → AllByRecursion (λ t. t.line ≤ line + 1) taken
further line [] below = tt
further line (t ∷ ts) below = (let first = below.0 in omega arith, further line ts below.1)

pub below_further : (line : ℕ) (taken : List Taken) → AreBelow line taken → AreBelow (line + 1) taken
below_further line taken below =
    All-from_recursion (λ t. t.line ≤ line + 1) taken (further line taken (recursion_from_All (λ t. t.line ≤ line) taken below))

pub below_more : (line : ℕ) (taken : List Taken) (t : Taken) → AreBelow line taken → t.line ≡ line + 1 → AreBelow (line + 1) (taken ++ t ∷ [])
below_more line taken t below is =
    All-push (λ x. x.line ≤ line + 1) taken t (below_further line taken below) (omega (arith, is))

none_at : (line : ℕ) (taken : List Taken) → AllByRecursion (λ t. t.line ≤ line) taken → count_by (λ x. x.place.line == line + 1) (map placed taken) ≡ 0
none_at line [] below = refl
none_at line (t ∷ ts) below =
    let rest = none_at line ts below.1 in
    let first = below.0 in
    let other : (t.line == line + 1) ≡ false = grind (arith, nat_tests) in
    let zero_is : ℕ = 0 in
    let none : cond (t.line == line + 1) 1 0 ≡ zero_is = rw other refl in
    omega (arith, sum_by-cons (λ x. cond (x.place.line == line + 1) 1 0) (placed t) (map placed ts), none, rest)

own_step : (taken : List Taken) (t : Taken) (line other : ℕ) (b : Bool) → (t.line == other) ≡ b → t.line ≡ line + 1 → count_by (λ x. x.place.line == line + 1) (map placed taken) ≡ 0
    → count_by (λ x. x.place.line == other) (map placed taken) ≤ 1 → count_by (λ x. x.place.line == other) (map placed taken) + cond b 1 0 ≤ 1
own_step taken t line other true same is none few =
    let at : line + 1 ≡ other = grind (arith, nat_tests) in
    let zero = subst (λ n. count_by (λ x. x.place.line == n) (map placed taken) ≡ 0) at none in
    omega (arith, zero)
own_step taken t line other false same is none few = omega arith

pub own_more : (line : ℕ) (taken : List Taken) (t : Taken) → AreBelow line taken → t.line ≡ line + 1 → HaveOwnLines (map placed taken) → HaveOwnLines (map placed (taken ++ t ∷ []))
own_more line taken t below is own other =
    let none = none_at line taken (recursion_from_All (λ x. x.line ≤ line) taken below) in
    let whole = ap (count_by (λ x. x.place.line == other)) (map-append placed taken (t ∷ [])) in
    let sums = sum_by_push (λ x. cond (x.place.line == other) 1 0) (map placed taken) (placed t) in
    let step = own_step taken t line other (t.line == other) refl is none (own other) in
    omega (arith, whole, sums, step)
