-- A request more waits.
use Rattle.std.proofs.Common.{◌≡◌, refl, sym, ap, subst, arith}
use Rattle.apf_bound.specs.Kept.{BoundView, IsKeptOf, queues_of}
use Rattle.apf_bound.proofs.Counting.{opened}
use Rattle.apf_bound.proofs.Keeping.{entered_kept}
use Rattle.apf_bound.proofs.bound.Bound.enter.Goals as goal

pub returns-clause-kept : goal.returns-clause-kept
returns-clause-kept c = λ costs measure hands limit l r is_cost kept.
    let b : BoundView = record { stretches = c.self.inside.stretches; judged = c.self.inside.judged; largest_cost = c.self.inside.largest_cost } in
    let b' : BoundView = record { stretches = c.enter.new.self; judged = c.self.inside.judged; largest_cost = c.max-self-inside.result } in
    let view : b ≡ c.args.self.now = c.self.view_is in
    let n = ap queues_of view in let low = c.requires in
    let e = c.enter.ensures in
    entered_kept costs measure hands limit (opened c.histories_are_counted.ensures) l b b' c.self.invariant e.queues (subst (IsKeptOf costs measure hands limit l) (sym view) kept)
    r c.args.queue c.args.cost (omega arith) is_cost e.waiting e.waited e.ahead e.most refl c.max-self-inside.ensures
