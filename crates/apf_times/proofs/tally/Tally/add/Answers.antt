-- One more at its place.
use Rattle.std.proofs.Common.{◌≡◌, ℕ, ◌+◌, ap, refl, sym, subst, arith}
use Rattle.std.proofs.lemmas.List.Elements.{at_read}
use Rattle.apf_times.specs.Waits.{TallyView, AreCounted}
use Rattle.apf_times.proofs.Tallies.{counted_more}
use Rattle.apf_times.proofs.tally.Tally.add.Goals as goal

pub returns-clause-counted : goal.returns-clause-counted
returns-clause-counted g c ws counted =
    let v : TallyView = record { total = c.self.inside.total; by_place = c.self.inside.by_place.items } in
    let at = at_read c.self.inside.by_place.items (λ (y : ℕ). c.index_mut.result.now ≡ y) c.place.result c.index_mut.result.now (let low = c.place.ensures.inside in let long = c.self.invariant.0 in omega arith) c.index_mut.ensures.value refl 0 in
    counted_more ws v c.args.wait c.place.result (c.index_mut.result.now + 1) (subst (AreCounted ws) (sym c.self.view_is) counted) c.self.invariant.0 c.requires.in_range c.place.ensures.is (ap (λ x. x + 1) at)
