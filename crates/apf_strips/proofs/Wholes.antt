-- The first bins together have what lies before their end, and all bins have the whole.
use Rattle.std.proofs.Common.{◌≡◌, ℕ, zero, suc, ◌+◌, ◌-◌, ◌*◌, ◌≤◌, List, [], ◌∷◌, length, take, sum, refl, sym, ap, ◌∙◌, arith}
use Rattle.std.specs.Prelude.{sum_by}
use Rattle.std.specs.List.{AllByRecursion}
use Rattle.std.proofs.lemmas.List.{take_all}
use Rattle.std.proofs.lemmas.List.Sums.{sum_by-cons, sum_by_more}
use Rattle.apf_strips.specs.Limits.{bin_count}
use Rattle.apf_strips.specs.Spans.{Span, SeriesView, AreBins, overlap, part_of, whole_of, width_of}

-- the amount of a span times its time before an end
abbrev before : (end : ℕ) → Span → ℕ
before end span = span.amount * overlap span.from span.to 0 end

over_none : (from to : ℕ) → overlap from to 0 0 ≡ 0
unfolding overlap
over_none from to = omega arith

over_next : (from to low width : ℕ) → overlap from to 0 (low + width) ≡ overlap from to 0 low + overlap from to low (low + width)
unfolding overlap
over_next from to low width = omega arith

over_all : (from to end : ℕ) → to ≤ end → overlap from to 0 end ≡ to - from
unfolding overlap
over_all from to end l = omega arith

times : (amount n a b : ℕ) → n ≡ a + b → amount * n ≡ amount * a + amount * b
times amount n a b e = ap (λ m. amount * m) e ∙ omega arith

before_next : (span : Span) (width bin : ℕ) → before (suc bin * width) span ≡ before (bin * width) span + part_of width bin span
unfolding part_of
before_next span width bin =
    let next : suc bin * width ≡ bin * width + width = omega arith in
    let over = over_next span.from span.to (bin * width) width in
    let is = ap (λ (end : ℕ). overlap span.from span.to 0 end) next in
    times span.amount _ _ _ (is ∙ over)

sum_zero : (spans : List Span) → sum_by (before 0) spans ≡ 0
sum_zero [] = refl
sum_zero (span ∷ spans) =
    let a = sum_by-cons (before 0) span spans in
    let none = ap (λ (n : ℕ). span.amount * n) (over_none span.from span.to) in
    let rest = sum_zero spans in omega arith

sum_next : (width bin : ℕ) (spans : List Span) → sum_by (before (suc bin * width)) spans ≡ sum_by (before (bin * width)) spans + sum_by (part_of width bin) spans
sum_next width bin [] = refl
sum_next width bin (span ∷ spans) =
    let a = sum_by-cons (before (suc bin * width)) span spans in
    let b = sum_by-cons (before (bin * width)) span spans in
    let c = sum_by-cons (part_of width bin) span spans in
    let first = before_next span width bin in
    let rest = sum_next width bin spans in omega (arith, a, b, c, first, rest)

sum_all : (end : ℕ) (spans : List Span) → AllByRecursion (λ span. span.to ≤ end) spans → sum_by (before end) spans ≡ sum_by whole_of spans
unfolding whole_of
sum_all end [] all = refl
sum_all end (span ∷ spans) all =
    let a = sum_by-cons (before end) span spans in
    let b = sum_by-cons whole_of span spans in
    let first = ap (λ (n : ℕ). span.amount * n) (over_all span.from span.to end all.0) in
    let rest = sum_all end spans all.1 in omega (arith, a, b, first, rest)

module _ (spans : List Span) (v : SeriesView) (are : AreBins spans v) (count : length v.bins ≡ bin_count) where
  first_bins : (n : ℕ) → n ≤ bin_count → sum (take n v.bins) ≡ sum_by (before (n * width_of v)) spans
  first_bins zero l =
      let nothing : 0 * width_of v ≡ 0 = omega arith in
      sym (ap (λ (end : ℕ). sum_by (before end) spans) nothing ∙ sum_zero spans)
  first_bins (suc n) l =
      let one : suc n ≡ n + 1 = omega arith in
      let step = ap (λ m. sum (take m v.bins)) one in
      let more = sum_by_more (λ x. x) v.bins n 0 (omega arith) in
      let here = are.bins n (omega arith) in
      let next = sum_next (width_of v) n spans in
      let rest = first_bins n (omega arith) in omega (arith, step, more, here, next, rest)

  pub all_bins : sum v.bins ≡ v.total
  all_bins =
      let whole = ap sum (take_all bin_count v.bins (omega arith)) in
      let first = first_bins bin_count (omega arith) in
      let all = sum_all (bin_count * width_of v) spans are.inside in
      let total = are.total in omega (arith, whole, first, all, total)
