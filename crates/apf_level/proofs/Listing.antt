-- The decided requests of a batch, one after another.
use Rattle.std.proofs.Common.{◌≡◌, ◌≢◌, ℕ, zero, suc, ◌+◌, ◌<◌, inl, inr, List, [], ◌∷◌, length, Option, Some, None, refl, sym, ap, ◌∙◌, subst, arith}
use Rattle.std.specs.Prelude.{All, Contains}
use Rattle.std.proofs.lemmas.Bool.{cases_eq}
use Rattle.std.proofs.lemmas.List.Elements.{All-nil, All-cons, All-weaker}
use Rattle.apf_words.specs.declared.decision.Decision.{Decision}
use Rattle.apf_model.specs.Outcome.{decided, decided_at}
use Rattle.apf_gate.specs.Counted.{decided_so}
use Rattle.apf_gate.specs.LifeEnds.{NoneTwice}
use Rattle.apf_level.proofs.Ends.{some_of}

abbrev before_those : ℕ → Option Decision → List (ℕ × Decision) → List (ℕ × Decision)
before_those n None all = all
before_those n (Some d) all = (n, d) ∷ all

-- the first n requests that are decided, each with its decision
abbrev pub all_of : ℕ → (ℕ → Option Decision) → List (ℕ × Decision)
all_of zero f = []
all_of (suc n) f = before_those n (f n) (all_of n f)

-- each of the first n is decided
abbrev pub AllDecided : ℕ → (ℕ → Option Decision) → Type 0
AllDecided n f = (r : ℕ) → r < n → f r ≢ None

fewer : (n : ℕ) (f : ℕ → Option Decision) → AllDecided (suc n) f → AllDecided n f
fewer n f some r low = some r (omega arith)

newest : (n : ℕ) (f : ℕ → Option Decision) → AllDecided (suc n) f → (d : Decision) × (f n ≡ Some d)
newest n f some = some_of (f n) (some n (omega arith))

-- what is so of the list with its newest in front is so of the list
with_newest : (P : List (ℕ × Decision) → Type 0) (n : ℕ) (f : ℕ → Option Decision) (d : Decision) → f n ≡ Some d → P ((n, d) ∷ all_of n f) → P (all_of (suc n) f)
with_newest P n f d is holds = subst (λ (x : Option Decision). P (before_those n x (all_of n f))) (sym is) holds

pub length_of : (n : ℕ) (f : ℕ → Option Decision) → AllDecided n f → length (all_of n f) ≡ n
length_of zero f some = refl
length_of (suc n) f some =
    let d = newest n f some in
    with_newest (λ (all : List (ℕ × Decision)). length all ≡ suc n) n f d.0 d.1 (let h = length_of n f (fewer n f some) in omega arith)

pub decided_in : (e : Decision) (n : ℕ) (f : ℕ → Option Decision) → AllDecided n f → decided e f n ≡ decided_so e (all_of n f)
decided_in e zero f some = refl
decided_in e (suc n) f some =
    let d = newest n f some in
    let h = decided_in e n f (fewer n f some) in
    let x : decided e f n + decided_at e (f n) ≡ decided e f n + decided_at e (Some d.0) = ap (λ (x : Option Decision). decided e f n + decided_at e x) d.1 in
    with_newest (λ (all : List (ℕ × Decision)). decided e f (suc n) ≡ decided_so e all) n f d.0 d.1 (omega arith)

below : (n : ℕ) (f : ℕ → Option Decision) → AllDecided n f → All (λ (one : ℕ × Decision). one.0 < n) (all_of n f)
below zero f some = All-nil (λ (one : ℕ × Decision). one.0 < zero)
below (suc n) f some =
    let d = newest n f some in
    with_newest (All (λ (one : ℕ × Decision). one.0 < suc n)) n f d.0 d.1
    (All-cons (λ (one : ℕ × Decision). one.0 < suc n) (n, d.0) (all_of n f) (omega arith) (All-weaker (λ (one : ℕ × Decision). one.0 < n) (λ (one : ℕ × Decision). one.0 < suc n) (λ one low. omega arith) (all_of n f) (below n f (fewer n f some))))

pub none_twice : (n : ℕ) (f : ℕ → Option Decision) → AllDecided n f → NoneTwice (all_of n f)
none_twice zero f some = tt
none_twice (suc n) f some =
    let d = newest n f some in
    let before = fewer n f some in
    with_newest NoneTwice n f d.0 d.1
    (All-weaker (λ (one : ℕ × Decision). one.0 < n) (λ (one : ℕ × Decision). one.0 ≢ n) (λ one low is. omega arith) (all_of n f) (below n f before), none_twice n f before)

pub each_is : (n : ℕ) (f : ℕ → Option Decision) → AllDecided n f → All (λ (one : ℕ × Decision). (one.0 < n) × (f one.0 ≡ Some one.1)) (all_of n f)
each_is zero f some = All-nil (λ (one : ℕ × Decision). (one.0 < zero) × (f one.0 ≡ Some one.1))
each_is (suc n) f some =
    let d = newest n f some in
    with_newest (All (λ (one : ℕ × Decision). (one.0 < suc n) × (f one.0 ≡ Some one.1))) n f d.0 d.1
    (All-cons (λ (one : ℕ × Decision). (one.0 < suc n) × (f one.0 ≡ Some one.1)) (n, d.0) (all_of n f) (omega arith, d.1)
    (All-weaker (λ (one : ℕ × Decision). (one.0 < n) × (f one.0 ≡ Some one.1)) (λ (one : ℕ × Decision). (one.0 < suc n) × (f one.0 ≡ Some one.1)) (λ one so. (let low = so.0 in omega arith, so.1)) (all_of n f) (each_is n f (fewer n f some))))

some_is : (a b : Decision) → ◌≡◌ {A = Option Decision} (Some a) (Some b) → a ≡ b
some_is a b is = cc

in_front : (n r : ℕ) (d e : Decision) (all : List (ℕ × Decision)) → r ≡ n → d ≡ e → Contains ((n, e) ∷ all) (r, d)
in_front n r d e all same is = subst (λ (one : ℕ × Decision). Contains ((n, e) ∷ all) one) (sym (λ i. (same i, is i))) (zero, omega arith, refl)

behind : (one other : ℕ × Decision) (all : List (ℕ × Decision)) → Contains all other → Contains (one ∷ all) other
behind one other all there = (suc there.0, (let low = there.1 in omega arith), there.2)

pub contains_each : (n : ℕ) (f : ℕ → Option Decision) → AllDecided n f → (r : ℕ) (decision : Decision) → r < n → f r ≡ Some decision → Contains (all_of n f) (r, decision)
contains_each zero f some r decision low is = absurd (omega arith)
contains_each (suc n) f some r decision low is =
    let d = newest n f some in
    with_newest (λ (all : List (ℕ × Decision)). Contains all (r, decision)) n f d.0 d.1
    (elim (cases_eq r n) [
      | inl same ↦ in_front n r decision d.0 (all_of n f) same (some_is decision d.0 (sym is ∙ (ap f same ∙ d.1)))
      | inr ne ↦ behind (n, d.0) (r, decision) (all_of n f) (contains_each n f (fewer n f some) r decision (omega arith) is)
    ])
