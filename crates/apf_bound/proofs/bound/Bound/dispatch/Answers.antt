-- A request less waits, and one more executes.
use Rattle.std.proofs.Common.{◌≡◌, refl, sym, ap, ◌∙◌, subst, arith}
use Rattle.apf_bound.specs.Kept.{BoundView, IsKeptOf, queues_of}
use Rattle.apf_bound.proofs.Counting.{opened}
use Rattle.apf_bound.proofs.Keeping.{dispatched_kept}
use Rattle.apf_bound.proofs.bound.Bound.dispatch.Goals as goal

pub returns-clause-kept : goal.returns-clause-kept
returns-clause-kept c = λ costs measure hands limit l r is_cost is_measured kept.
    let b : BoundView = record { stretches = c.self.inside.stretches; judged = c.self.inside.judged; largest_cost = c.self.inside.largest_cost } in
    let b' : BoundView = record { stretches = c.dispatch.new.self; judged = c.begin.new.self; largest_cost = c.self.inside.largest_cost } in
    let view : b ≡ c.args.self.now = c.self.view_is in
    let n = ap queues_of view in let low = c.requires in
    let d = c.dispatch.ensures in let j = c.begin.ensures in
    dispatched_kept costs measure hands limit (opened c.histories_are_counted.ensures) l b b' c.self.invariant d.queues (subst (IsKeptOf costs measure hands limit l) (sym view) kept)
    r c.args.queue c.from.result c.args.measured (omega arith) (is_cost ∙ sym c.from.ensures) is_measured d.waiting d.waited d.ahead d.most j.taken j.charged j.slack refl
