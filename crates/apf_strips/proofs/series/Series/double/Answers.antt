-- The pairs are of the same spans.
use Rattle.std.proofs.Common.{◌≡◌, ℕ, List, ◌+◌, ◌*◌, ◌^◌, ◌<◌, ◌++◌, take, drop, length, get_or, refl, sym, subst, ap, arith}
use Rattle.apf_strips.specs.Limits.{most_doublings}
use Rattle.apf_strips.specs.Series.{IsSeries, IsWidened}
use Rattle.apf_strips.specs.Spans.{SeriesView}
use Rattle.apf_strips.proofs.Changes.{pair_fits, restored, is_wider, are_wider}
use Rattle.apf_strips.proofs.series.Series.double.Goals as goal

pub make_pairs-requires-clause-fits : goal.make_pairs-requires-clause-fits
make_pairs-requires-clause-fits c bin =
    let v : SeriesView = record { bins = c.self.inside.bins.items; total = c.self.inside.total; doublings = c.self.inside.doublings } in
    let few = pair_fits v c.self.invariant bin in
    let fits = c.self.invariant.fits in
    subst (λ (l : List ℕ). get_or l (2 * bin) 0 + get_or l (2 * bin + 1) 0 < 2 ^ 128) (sym c.as_mut_slice.ensures.value) (omega arith)

pub invariant_of-self : goal.invariant_of-self
invariant_of-self c =
    let u : SeriesView = record { bins = c.self.inside.bins.items; total = c.self.inside.total; doublings = c.self.inside.doublings } in
    let new = c.make_pairs.new.bins in
    let same = c.as_mut_slice.ensures.value in
    let long = c.self.invariant.count in
    let count : length new ≡ length u.bins = omega (arith, c.make_pairs.ensures.count, ap length same) in
    let is = restored new u.bins c.self.inside.bins.len count (omega (arith, c.self.inside.bins.ok.0)) in
    let few : u.doublings < most_doublings = (let view = ap (λ (v : SeriesView). v.doublings) c.self.view_is in omega (arith, c.requires, view)) in
    let pairs = subst (λ (l : List ℕ). (bin : ℕ) → bin < length l → get_or new bin 0 ≡ get_or l (2 * bin) 0 + get_or l (2 * bin + 1) 0) same c.make_pairs.ensures.pairs in
    subst (λ (l : List ℕ). IsSeries (record { bins = l; total = u.total; doublings = u.doublings + 1 })) (sym is) (is_wider u new c.self.invariant few (omega arith) (λ bin l. pairs bin (omega arith)))

pub returns : goal.returns
returns c =
    let u : SeriesView = record { bins = c.self.inside.bins.items; total = c.self.inside.total; doublings = c.self.inside.doublings } in
    let new = c.make_pairs.new.bins in
    let v : SeriesView = record { bins = new; total = c.self.inside.total; doublings = c.self.inside.doublings + 1 } in
    let same = c.as_mut_slice.ensures.value in
    let long = c.self.invariant.count in
    let count : length new ≡ length u.bins = omega (arith, c.make_pairs.ensures.count, ap length same) in
    let is = restored new u.bins c.self.inside.bins.len count (omega (arith, c.self.inside.bins.ok.0)) in
    let pairs = subst (λ (l : List ℕ). (bin : ℕ) → bin < length l → get_or new bin 0 ≡ get_or l (2 * bin) 0 + get_or l (2 * bin + 1) 0) same c.make_pairs.ensures.pairs in
    let wide : IsWidened u (u.doublings + 1) v = record { is = refl; total = refl; same = λ spans are. are_wider u v c.self.invariant.count refl refl (λ bin l. pairs bin (omega arith)) spans are } in
    let final = subst (λ (l : List ℕ). IsWidened u (u.doublings + 1) (record { bins = l; total = u.total; doublings = u.doublings + 1 })) (sym is) wide in
    subst (λ (w : SeriesView). IsWidened w (w.doublings + 1) (record { bins = take c.self.inside.bins.len (new ++ drop (length new) u.bins); total = u.total; doublings = u.doublings + 1 })) c.self.view_is final
