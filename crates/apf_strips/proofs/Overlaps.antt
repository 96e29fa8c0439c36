-- What a bin has of a span: nothing outside of it, as much as its two halves together, and no more than the whole.
use Rattle.std.proofs.Common.{◌≡◌, ℕ, ◌+◌, ◌-◌, ◌*◌, ◌/◌, ◌<◌, ◌≤◌, ap, ◌∙◌, ⊎_elim, arith}
use Rattle.std.specs.Int.{div_ceil}
use Rattle.std.proofs.Math.Nat.{mul-le-mul_right, mul-le-mul_left, div-mul-le_self}
use Rattle.std.proofs.lemmas.Bool.{cases_lt}
use Rattle.std.proofs.lemmas.Grind.{div_ceil_times}
use Rattle.apf_strips.specs.Spans.{Span, overlap, part_of, whole_of}

-- a bin that ends where the span begins or before
over_before : (from to low high : ℕ) → high ≤ from → overlap from to low high ≡ 0
unfolding overlap
over_before from to low high l = omega arith

-- a bin that begins where the span ends or behind that
over_after : (from to low high : ℕ) → to ≤ low → overlap from to low high ≡ 0
unfolding overlap
over_after from to low high l = omega arith

-- a bin and the next one
over_two : (from to low width : ℕ) → from ≤ to → overlap from to low (low + (width + width)) ≡ overlap from to low (low + width) + overlap from to (low + width) (low + width + width)
unfolding overlap
over_two from to low width l = omega arith

-- no more than the span
over_whole : (from to low high : ℕ) → overlap from to low high ≤ to - from
unfolding overlap
over_whole from to low high = omega arith

nothing : (amount n : ℕ) → n ≡ 0 → amount * n ≡ 0
nothing amount n e = ap (λ m. amount * m) e ∙ omega arith

-- in a bin before that in which the span begins there is nothing
pub none_before : (span : Span) (width bin : ℕ) → bin < span.from / width → part_of width bin span ≡ 0
unfolding part_of
none_before span width bin l =
    let up = mul-le-mul_right {m = bin + 1} {n = span.from / width} width (omega arith) in
    let low = div-mul-le_self span.from width in
    nothing span.amount _ (over_before span.from span.to (bin * width) (bin * width + width) (omega arith))

-- nor in one that begins where it ends or behind that
pub none_after : (span : Span) (width bin : ℕ) → span.to ≤ bin * width → part_of width bin span ≡ 0
unfolding part_of
none_after span width bin l = nothing span.amount _ (over_after span.from span.to (bin * width) (bin * width + width) l)

-- nor in one behind that in which it ends
pub none_behind : (span : Span) (width bin : ℕ) → 0 < width → div_ceil span.to width ≤ bin → part_of width bin span ≡ 0
none_behind span width bin some l =
    let up = mul-le-mul_right {m = div_ceil span.to width} {n = bin} width l in
    let high = (div_ceil_times span.to width some).0 in
    none_after span width bin (omega arith)

-- a bin before the one in which it ends is one of these, if it ends in them
pub inside_of : (to width count bin : ℕ) → 0 < width → to ≤ count * width → bin < div_ceil to width → bin < count
inside_of to width count bin some within l =
    ⊎_elim {C = bin < count}
    (λ done. done)
    (λ more.
    let up = mul-le-mul_right {m = count + 1} {n = div_ceil to width} width (omega arith) in
    let high = (div_ceil_times to width some).1 in absurd (omega arith))
    (cases_lt bin count)

halves : (amount n a b : ℕ) → n ≡ a + b → amount * n ≡ amount * a + amount * b
halves amount n a b e = ap (λ m. amount * m) e ∙ omega arith

-- a bin of twice the width has what the two have
pub part_two : (span : Span) (width bin : ℕ) → span.from ≤ span.to → part_of (2 * width) bin span ≡ part_of width (2 * bin) span + part_of width (2 * bin + 1) span
unfolding part_of
part_two span width bin l =
    let two = over_two span.from span.to (2 * bin * width) width l in
    let low : bin * (2 * width) ≡ 2 * bin * width = omega arith in
    let high : bin * (2 * width) + 2 * width ≡ 2 * bin * width + (width + width) = omega arith in
    let middle : (2 * bin + 1) * width ≡ 2 * bin * width + width = omega arith in
    let whole : overlap span.from span.to (bin * (2 * width)) (bin * (2 * width) + 2 * width) ≡ overlap span.from span.to (2 * bin * width) (2 * bin * width + (width + width)) = cc (low, high) in
    let second : overlap span.from span.to ((2 * bin + 1) * width) ((2 * bin + 1) * width + width) ≡ overlap span.from span.to (2 * bin * width + width) (2 * bin * width + width + width) = cc middle in
    halves span.amount _ _ _ (omega (arith, whole, second, two))

-- a bin has no more than the whole
pub part_whole : (span : Span) (width bin : ℕ) → part_of width bin span ≤ whole_of span
unfolding part_of whole_of
part_whole span width bin = mul-le-mul_left span.amount (over_whole span.from span.to (bin * width) (bin * width + width))
