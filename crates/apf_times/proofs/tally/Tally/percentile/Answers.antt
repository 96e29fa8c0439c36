-- The place of the rank.
use Rattle.std.proofs.Common.{◌≡◌, ℕ, ◌+◌, List, sum, take, length, get_or, ◌≤◌, sym, ap, subst, arith}
use Rattle.apf_times.specs.Waits.{TallyView, AreCounted}
use Rattle.apf_times.proofs.Tallies.{found, never}
use Rattle.apf_times.proofs.tally.Tally.percentile.Goals as goal

pub returns-then-left-count-clause-nearest : goal.returns-then-left-count-clause-nearest
returns-then-left-count-clause-nearest g c ws counted full =
    let v : TallyView = record { total = c.self.inside.total; by_place = c.self.inside.by_place.items } in
    let same = c.deref-count-items.ensures.value in
    let long = c.self.invariant.0 in
    let len = ap length same in
    found c.args.percent ws v (subst (AreCounted ws) (sym c.self.view_is) counted) long c.requires.some c.requires.at_most_all full
    c.loop-place.left c.loop-place.place c.div_ceil-rank.result c.div_ceil-rank.ensures
    (subst (λ (l : List ℕ). c.loop-place.left + sum (take c.loop-place.place l) ≡ c.div_ceil-rank.result) same c.loop-place.invariant.left) c.loop-place.invariant.some
    (omega arith) (subst (λ (l : List ℕ). c.loop-place.left ≤ get_or l c.loop-place.place 0) same c.if-left-count.true) c.shortest_at.result c.shortest_at.ensures

pub returns-clause-nearest : goal.returns-clause-nearest
returns-clause-nearest g c ws counted full =
    let v : TallyView = record { total = c.self.inside.total; by_place = c.self.inside.by_place.items } in
    let same = c.deref-count-items.ensures.value in
    let long = c.self.invariant.0 in
    let len = ap length same in
    absurd (never c.args.percent ws v (subst (AreCounted ws) (sym c.self.view_is) counted) long c.requires.some c.requires.at_most_all full
    c.loop-place.left c.loop-place.place c.div_ceil-rank.result c.div_ceil-rank.ensures
    (subst (λ (l : List ℕ). c.loop-place.left + sum (take c.loop-place.place l) ≡ c.div_ceil-rank.result) same c.loop-place.invariant.left) c.loop-place.invariant.some
    (omega arith) (omega arith))
