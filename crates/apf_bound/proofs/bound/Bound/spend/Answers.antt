-- A request that executes is charged another amount.
use Rattle.std.proofs.Common.{◌≡◌, refl, sym, ap, subst, arith}
use Rattle.apf_bound.specs.Kept.{BoundView, IsKeptOf, queues_of}
use Rattle.apf_bound.proofs.Counting.{opened}
use Rattle.apf_bound.proofs.Keeping.{spent_kept}
use Rattle.apf_bound.proofs.bound.Bound.spend.Goals as goal

pub returns-clause-kept : goal.returns-clause-kept
returns-clause-kept c = λ costs measure hands limit l r kept.
    let b : BoundView = record { stretches = c.self.inside.stretches; judged = c.self.inside.judged; largest_cost = c.self.inside.largest_cost } in
    let b' : BoundView = record { stretches = c.self.inside.stretches; judged = c.change.new.self; largest_cost = c.self.inside.largest_cost } in
    let view : b ≡ c.args.self.now = c.self.view_is in
    let n = ap queues_of view in let low = c.requires in
    let e = c.change.ensures in
    spent_kept costs measure hands limit (opened c.histories_are_counted.ensures) l b b' c.self.invariant refl (subst (IsKeptOf costs measure hands limit l) (sym view) kept)
    r c.args.queue c.args.charge c.args.next (omega arith) refl e.taken e.charged e.slack refl
