-- The bins have their parts of one span more.
use Rattle.std.proofs.Common.{◌≡◌, ℕ, List, [], ◌∷◌, ◌++◌, ◌+◌, ◌*◌, ◌^◌, ◌<◌, ◌≤◌, length, get_or, refl, sym, subst, ap, ◌∙◌, arith}
use Rattle.apf_strips.specs.Limits.{bin_count}
use Rattle.apf_strips.specs.Series.{IsSeries}
use Rattle.apf_strips.specs.Spans.{Span, SeriesView, AreBins, width_of, part_of, whole_of}
use Rattle.apf_strips.proofs.Changes.{part_fits, restored, is_more, are_more}
use Rattle.apf_strips.proofs.series.Series.put.Goals as goal

pub add_span-requires-clause-fits : goal.add_span-requires-clause-fits
add_span-requires-clause-fits c =
    let u : SeriesView = record { bins = c.self.inside.bins.items; total = c.self.inside.total; doublings = c.self.inside.doublings } in
    let span : Span = record { amount = c.args.amount; from = c.args.from; to = c.args.to } in
    let view = ap (λ (v : SeriesView). v.total) c.self.view_is in
    let width : width_of u ≡ c.width-width.result = ap (λ (v : SeriesView). width_of v) c.self.view_is ∙ sym c.width-width.ensures.is in
    let room : u.total + whole_of span < 2 ^ 128 = omega (arith, c.requires.total, view, c.ranges.total.fits) in
    subst (λ (l : List ℕ). (bin : ℕ) → bin < length l → get_or l bin 0 + part_of c.width-width.result bin span < 2 ^ 128) (sym c.as_mut_slice.ensures.value)
    (λ bin l. subst (λ (w : ℕ). get_or u.bins bin 0 + part_of w bin span < 2 ^ 128) width (part_fits u span c.self.invariant room bin))

pub invariant_of-self : goal.invariant_of-self
invariant_of-self c =
    let u : SeriesView = record { bins = c.self.inside.bins.items; total = c.self.inside.total; doublings = c.self.inside.doublings } in
    let span : Span = record { amount = c.args.amount; from = c.args.from; to = c.args.to } in
    let new = c.add_span.new.bins in
    let same = c.as_mut_slice.ensures.value in
    let long = c.self.invariant.count in
    let view = ap (λ (v : SeriesView). v.total) c.self.view_is in
    let width : c.width-width.result ≡ width_of u = c.width-width.ensures.is ∙ sym (ap (λ (v : SeriesView). width_of v) c.self.view_is) in
    let count : length new ≡ length u.bins = omega (arith, c.add_span.ensures.count, ap length same) in
    let is = restored new u.bins c.self.inside.bins.len count (omega (arith, c.self.inside.bins.ok.0)) in
    let parts = subst (λ (l : List ℕ). (bin : ℕ) → bin < length l → get_or new bin 0 ≡ get_or l bin 0 + part_of c.width-width.result bin span) same c.add_span.ensures.added in
    let of_width = subst (λ (w : ℕ). (bin : ℕ) → bin < length u.bins → get_or new bin 0 ≡ get_or u.bins bin 0 + part_of w bin span) width parts in
    let inside : span.to ≤ bin_count * width_of u = omega (arith, c.requires.inside, ap (λ (v : SeriesView). width_of v) c.self.view_is) in
    subst (λ (l : List ℕ). IsSeries (record { bins = l; total = c.args.total; doublings = u.doublings })) (sym is)
    (is_more u new c.args.total span c.self.invariant c.ranges.total.fits (omega (arith, c.requires.total, view)) (omega arith) (λ bin l. of_width bin (omega arith)) c.requires.in_order inside)

pub returns-clause-added : goal.returns-clause-added
returns-clause-added c before are =
    let u : SeriesView = record { bins = c.self.inside.bins.items; total = c.self.inside.total; doublings = c.self.inside.doublings } in
    let span : Span = record { amount = c.args.amount; from = c.args.from; to = c.args.to } in
    let new = c.add_span.new.bins in
    let v : SeriesView = record { bins = new; total = c.args.total; doublings = c.self.inside.doublings } in
    let same = c.as_mut_slice.ensures.value in
    let long = c.self.invariant.count in
    let view = ap (λ (v : SeriesView). v.total) c.self.view_is in
    let width : c.width-width.result ≡ width_of u = c.width-width.ensures.is ∙ sym (ap (λ (v : SeriesView). width_of v) c.self.view_is) in
    let count : length new ≡ length u.bins = omega (arith, c.add_span.ensures.count, ap length same) in
    let is = restored new u.bins c.self.inside.bins.len count (omega (arith, c.self.inside.bins.ok.0)) in
    let parts = subst (λ (l : List ℕ). (bin : ℕ) → bin < length l → get_or new bin 0 ≡ get_or l bin 0 + part_of c.width-width.result bin span) same c.add_span.ensures.added in
    let of_width = subst (λ (w : ℕ). (bin : ℕ) → bin < length u.bins → get_or new bin 0 ≡ get_or u.bins bin 0 + part_of w bin span) width parts in
    let inside : span.to ≤ bin_count * width_of u = omega (arith, c.requires.inside, ap (λ (v : SeriesView). width_of v) c.self.view_is) in
    let more = are_more u v span refl (omega (arith, c.requires.total, view)) (λ bin l. of_width bin (omega arith)) c.requires.in_order inside before (subst (AreBins before) (sym c.self.view_is) are) in
    subst (λ (l : List ℕ). AreBins (before ++ span ∷ []) (record { bins = l; total = c.args.total; doublings = u.doublings })) (sym is) more
