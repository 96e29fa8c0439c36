-- What becomes of the bins of some spans.
use Rattle.std.proofs.Common.{◌≡◌, ℕ, ◌+◌, ◌*◌, ◌^◌, ◌<◌, ◌≤◌, List, [], ◌∷◌, ◌++◌, length, get_or, take, drop, suc, refl, ap, sym, subst, ◌∙◌, ⊎_elim, lit<, arith}
use Rattle.std.specs.Prelude.{sum_by}
use Rattle.std.specs.List.{AllByRecursion}
use Rattle.std.proofs.Math.Nat.{pow-suc, pow-le-pow_right}
use Rattle.std.proofs.lemmas.Bool.{cases_lt}
use Rattle.std.proofs.Math.Seq.{take-append_seam}
use Rattle.std.proofs.lemmas.List.{drop_all, get_or_past}
use Rattle.apf_strips.specs.Limits.{bin_count, width_after, most_doublings, most_time}
use Rattle.apf_strips.specs.Spans.{Span, SeriesView, AreBins, width_of, part_of, whole_of}
use Rattle.apf_strips.specs.Series.{IsSeries}
use Rattle.apf_strips.proofs.Overlaps.{part_whole}
use Rattle.apf_strips.proofs.Sums.{sum_more, all_more, all_inside, sum_two, sum_none, sum_whole}

-- one doubling more
pub width_more : (doublings : ℕ) → width_after (doublings + 1) ≡ 2 * width_after doublings
unfolding width_after
width_more doublings =
    let one : doublings + 1 ≡ suc doublings = omega arith in
    let same = ap (λ (n : ℕ). 1000 * 2 ^ n) one in
    let twice = pow-suc 2 doublings in omega arith

-- what a bin has, also behind the last one
each_bin : (spans : List Span) (v : SeriesView) → length v.bins ≡ bin_count → AreBins spans v → (bin : ℕ) → get_or v.bins bin 0 ≡ sum_by (part_of (width_of v) bin) spans
each_bin spans v long are bin =
    ⊎_elim
    (λ l. are.bins bin l)
    (λ l. let none = sum_none bin_count (width_of v) bin l spans are.inside in let past = get_or_past v.bins bin 0 (omega arith) in omega arith)
    (cases_lt bin bin_count)

-- two bins have no more than all
pub pair_fits : (v : SeriesView) → IsSeries v → (bin : ℕ) → get_or v.bins (2 * bin) 0 + get_or v.bins (2 * bin + 1) 0 ≤ v.total
pair_fits v is bin =
    let first = each_bin is.spans v is.count is.are (2 * bin) in
    let second = each_bin is.spans v is.count is.are (2 * bin + 1) in
    let both = sum_two (width_of v) bin is.spans is.are.in_order in
    let few = sum_whole (2 * width_of v) bin is.spans in
    let all = is.are.total in omega arith

-- one bin has no more than all
pub bin_fits : (v : SeriesView) → IsSeries v → (bin : ℕ) → get_or v.bins bin 0 ≤ v.total
bin_fits v is bin =
    let here = each_bin is.spans v is.count is.are bin in
    let few = sum_whole (width_of v) bin is.spans in
    let all = is.are.total in omega arith

-- a span is added
pub are_more : (u v : SeriesView) (span : Span) → v.doublings ≡ u.doublings → v.total ≡ u.total + whole_of span
    → ((bin : ℕ) → bin < bin_count → get_or v.bins bin 0 ≡ get_or u.bins bin 0 + part_of (width_of u) bin span)
    → span.from ≤ span.to → span.to ≤ bin_count * width_of u → (spans : List Span) → AreBins spans u → AreBins (spans ++ span ∷ []) v
are_more u v span same total bins in_order inside spans are = record {
  bins = λ bin l. let sum = sum_more (part_of (width_of u) bin) spans span in let was = are.bins bin l in let now = bins bin l in
      subst (λ (d : ℕ). get_or v.bins bin 0 ≡ sum_by (part_of (width_after d) bin) (spans ++ span ∷ [])) (sym same) (omega arith);
  total = let sum = sum_more whole_of spans span in let was = are.total in omega arith;
  inside = subst (λ (d : ℕ). AllByRecursion (λ (s : Span). s.to ≤ bin_count * width_after d) (spans ++ span ∷ [])) (sym same) (all_more (λ s. s.to ≤ bin_count * width_of u) spans span are.inside inside);
  in_order = all_more (λ s. s.from ≤ s.to) spans span are.in_order in_order;
}

-- two bins become one
pub are_wider : (u v : SeriesView) → length u.bins ≡ bin_count → v.doublings ≡ u.doublings + 1 → v.total ≡ u.total
    → ((bin : ℕ) → bin < bin_count → get_or v.bins bin 0 ≡ get_or u.bins (2 * bin) 0 + get_or u.bins (2 * bin + 1) 0)
    → (spans : List Span) → AreBins spans u → AreBins spans v
are_wider u v long more total bins spans are =
    let twice : width_of v ≡ 2 * width_of u = ap width_after more ∙ width_more u.doublings in
    record {
      bins = λ bin l.
          let first = each_bin spans u long are (2 * bin) in
          let second = each_bin spans u long are (2 * bin + 1) in
          let both = sum_two (width_of u) bin spans are.in_order in
          let now = bins bin l in
          subst (λ (w : ℕ). get_or v.bins bin 0 ≡ sum_by (part_of w bin) spans) (sym twice) (omega arith);
      total = total ∙ are.total;
      inside = all_inside (bin_count * width_of u) (bin_count * width_of v) (omega arith) spans are.inside;
      in_order = are.in_order;
    }

-- before the last doubling the bins do not reach as far as the latest time
pub doublings_left : (doublings to : ℕ) → to ≤ most_time → bin_count * width_after doublings < to → doublings < most_doublings
unfolding width_after
doublings_left doublings to late short =
    ⊎_elim {C = doublings < most_doublings}
    (λ less. less)
    (λ more. let up = pow-le-pow_right {n = 2} (lit< tt) {i = 42} {j = doublings} more in absurd (omega arith))
    (cases_lt doublings most_doublings)

-- a width is not nothing, and all bins together are not long
pub width_some : (doublings : ℕ) → doublings ≤ most_doublings → (0 < width_after doublings) × (width_after doublings ≤ 1000 * 2 ^ 42)
unfolding width_after
width_some doublings few =
    let up = pow-le-pow_right {n = 2} (lit< tt) {i = doublings} {j = 42} few in
    let low = pow-le-pow_right {n = 2} (lit< tt) {i = 0} {j = doublings} (omega arith) in (omega arith, omega arith)

-- a vector whose elements were all written over
pub restored : (new old : List ℕ) (count : ℕ) → length new ≡ length old → count ≡ length old → take count (new ++ drop (length new) old) ≡ new
restored new old count same all =
    let none : drop (length new) old ≡ [] = drop_all (length new) old (omega arith) in
    let seam = take-append_seam new (drop (length new) old) in
    let is : count ≡ length new = omega arith in
    rw is seam

-- the series after two bins became one
pub is_wider : (u : SeriesView) (bins : List ℕ) → IsSeries u → u.doublings < most_doublings → length bins ≡ bin_count
    → ((bin : ℕ) → bin < bin_count → get_or bins bin 0 ≡ get_or u.bins (2 * bin) 0 + get_or u.bins (2 * bin + 1) 0)
    → IsSeries (record { bins = bins; total = u.total; doublings = u.doublings + 1 })
is_wider u bins is few long pairs = record {
  count = long;
  few = omega arith;
  fits = is.fits;
  spans = is.spans;
  are = are_wider u (record { bins = bins; total = u.total; doublings = u.doublings + 1 }) is.count refl refl pairs is.spans is.are;
}

-- the series after a span was added
pub is_more : (u : SeriesView) (bins : List ℕ) (total : ℕ) (span : Span) → IsSeries u → total < 2 ^ 128 → total ≡ u.total + whole_of span → length bins ≡ bin_count
    → ((bin : ℕ) → bin < bin_count → get_or bins bin 0 ≡ get_or u.bins bin 0 + part_of (width_of u) bin span)
    → span.from ≤ span.to → span.to ≤ bin_count * width_of u → IsSeries (record { bins = bins; total = total; doublings = u.doublings })
is_more u bins total span is fits all long parts in_order inside = record {
  count = long;
  few = is.few;
  fits = fits;
  spans = is.spans ++ span ∷ [];
  are = are_more u (record { bins = bins; total = total; doublings = u.doublings }) span refl all parts in_order inside is.spans is.are;
}

-- a bin has room for its part if the total has room for the whole
pub part_fits : (v : SeriesView) (span : Span) → IsSeries v → v.total + whole_of span < 2 ^ 128 → (bin : ℕ) → get_or v.bins bin 0 + part_of (width_of v) bin span < 2 ^ 128
part_fits v span is fits bin =
    let here = bin_fits v is bin in
    let part = part_whole span (width_of v) bin in omega arith
