-- The percentile of waits as they are, which are sorted.
use Rattle.std.proofs.Common.{◌≤◌, ◌<◌, ℕ, List, All, IsPermutation, length, sym, subst, ◌∙◌, arith}
use Rattle.std.proofs.lemmas.List.{with_items_is}
use Rattle.std.proofs.lemmas.List.Sorted.{All-permutation, length_permutation}
use Rattle.apf_times.specs.Limits.{max_wait}
use Rattle.apf_times.specs.Percentiles.{IsPercentile}
use Rattle.apf_times.specs.Waits.{AreKept, AreKeptAs, IsKeptPercentile, WaitsView, is_exact, max_exact}
use Rattle.apf_times.proofs.Keepings.{exact_moved, exact_percentile}
use Rattle.apf_times.proofs.waits.Waits.percentile.Goals as goal

pub invariant_of-self : goal.invariant_of-self
invariant_of-self g c =
    let items = with_items_is c.self.inside.exact c.percentile.new.waits (c.percentile.auto.waits ∙ c.as_mut_slice.ensures.len) in
    let moved : IsPermutation c.self.inside.exact.items c.percentile.new.waits = subst (λ (l : List ℕ). IsPermutation l c.percentile.new.waits) c.as_mut_slice.ensures.value c.percentile.ensures.same in
    let same = length_permutation c.self.inside.exact.items c.percentile.new.waits moved in
    let few = c.self.invariant.0 in
    subst (λ (l : List ℕ). (length l ≤ max_exact) × All (λ x. x ≤ max_wait) l) (sym items) (omega arith, All-permutation (λ x. x ≤ max_wait) c.self.inside.exact.items c.percentile.new.waits moved c.self.invariant.1)

pub returns-in-None-clause-nearest : goal.returns-in-None-clause-nearest
returns-in-None-clause-nearest g c ws kept full =
    subst (λ (v : WaitsView). IsKeptPercentile (is_exact v) c.args.percent ws c.percentile.result) c.self.view_is
    (exact_percentile c.args.percent ws c.self.inside.exact.items c.self.inside.counts c.percentile.result c.in-None.is (subst (AreKept ws) (sym c.self.view_is) kept) full
    (subst (λ (l : List ℕ). 0 < length l → IsPercentile c.args.percent l c.percentile.result) c.as_mut_slice.ensures.value c.percentile.ensures.nearest))

pub returns-in-None-clause-kept : goal.returns-in-None-clause-kept
returns-in-None-clause-kept g c ws kept =
    let items = with_items_is c.self.inside.exact c.percentile.new.waits (c.percentile.auto.waits ∙ c.as_mut_slice.ensures.len) in
    let moved : IsPermutation c.self.inside.exact.items c.percentile.new.waits = subst (λ (l : List ℕ). IsPermutation l c.percentile.new.waits) c.as_mut_slice.ensures.value c.percentile.ensures.same in
    subst (λ (l : List ℕ). AreKeptAs ws l c.self.inside.counts) (sym items) (exact_moved ws c.self.inside.exact.items c.percentile.new.waits c.self.inside.counts c.in-None.is moved (subst (AreKept ws) (sym c.self.view_is) kept))
