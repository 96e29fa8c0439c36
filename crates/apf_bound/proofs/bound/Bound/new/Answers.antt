-- Nothing happened yet.
use Rattle.std.proofs.Common.{refl}
use Rattle.apf_bound.specs.Kept.{BoundView}
use Rattle.apf_bound.proofs.Keeping.{opening_kept}
use Rattle.apf_bound.proofs.bound.Bound.new.Goals as goal

pub returns-clause-kept : goal.returns-clause-kept
returns-clause-kept c = λ costs measure hands limit.
    let b : BoundView = record { stretches = c.in_ok-new.field-0; judged = c.in_ok-new-2.field-0; largest_cost = 0 } in
    let s = c.in_ok-new.ensures in let j = c.in_ok-new-2.ensures in
    opening_kept costs measure hands limit b s.waiting s.waited s.ahead s.most j.taken j.charged j.slack refl
