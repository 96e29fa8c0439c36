-- The sums of the parts of several spans.
use Rattle.std.proofs.Common.{◌≡◌, ℕ, ◌+◌, ◌*◌, ◌≤◌, List, [], ◌∷◌, ◌++◌, refl, arith}
use Rattle.std.specs.Prelude.{sum_by}
use Rattle.std.specs.List.{AllByRecursion}
use Rattle.std.proofs.Math.Nat.{mul-le-mul_right}
use Rattle.std.proofs.lemmas.List.Sums.{sum_by-cons, sum_by-append, sum_by-le-sum_by}
use Rattle.apf_strips.specs.Spans.{Span, part_of, whole_of}
use Rattle.apf_strips.proofs.Overlaps.{none_after, part_two, part_whole}

-- one more at the end
pub sum_more : (f : Span → ℕ) (spans : List Span) (span : Span) → sum_by f (spans ++ span ∷ []) ≡ sum_by f spans + f span
sum_more f spans span =
    let both = sum_by-append f spans (span ∷ []) in
    let one = sum_by-cons f span [] in omega arith

pub all_more : (P : Span → Type 0) (spans : List Span) (span : Span) → AllByRecursion P spans → P span → AllByRecursion P (spans ++ span ∷ [])
all_more P [] span all this = (this, tt)
all_more P (x ∷ spans) span all this = (all.0, all_more P spans span all.1 this)

-- all of them still end in the bins if these reach as far
pub all_inside : (m n : ℕ) → m ≤ n → (spans : List Span) → AllByRecursion (λ span. span.to ≤ m) spans → AllByRecursion (λ span. span.to ≤ n) spans
all_inside m n l [] all = tt
all_inside m n l (span ∷ spans) all = (omega (arith, all.0), all_inside m n l spans all.1)

-- a bin of twice the width has what the two have
pub sum_two : (width bin : ℕ) (spans : List Span) → AllByRecursion (λ span. span.from ≤ span.to) spans
    → sum_by (part_of (2 * width) bin) spans ≡ sum_by (part_of width (2 * bin)) spans + sum_by (part_of width (2 * bin + 1)) spans
sum_two width bin [] all = refl
sum_two width bin (span ∷ spans) all =
    let a = sum_by-cons (part_of (2 * width) bin) span spans in
    let b = sum_by-cons (part_of width (2 * bin)) span spans in
    let c = sum_by-cons (part_of width (2 * bin + 1)) span spans in
    let first = part_two span width bin all.0 in
    let rest = sum_two width bin spans all.1 in omega arith

-- a bin behind the end of all of them has nothing
pub sum_none : (count width bin : ℕ) → count ≤ bin → (spans : List Span) → AllByRecursion (λ span. span.to ≤ count * width) spans → sum_by (part_of width bin) spans ≡ 0
sum_none count width bin l [] all = refl
sum_none count width bin l (span ∷ spans) all =
    let a = sum_by-cons (part_of width bin) span spans in
    let up = mul-le-mul_right {m = count} {n = bin} width l in
    let first = none_after span width bin (omega (arith, all.0)) in
    let rest = sum_none count width bin l spans all.1 in omega arith

-- a bin has no more than all of them
pub sum_whole : (width bin : ℕ) (spans : List Span) → sum_by (part_of width bin) spans ≤ sum_by whole_of spans
sum_whole width bin spans = sum_by-le-sum_by (part_of width bin) whole_of spans (λ span. part_whole span width bin)
