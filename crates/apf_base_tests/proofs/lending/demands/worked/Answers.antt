-- Each change comes later than the one before.
use Rattle.std.proofs.Common.{ℕ, List, [], refl, arith}
use Rattle.apf_lending.specs.Demands.{AreAsked, DemandView, Stretch}
use Rattle.apf_base_tests.proofs.lending.demands.worked.Goals as goal

-- what was asked for, with its own seats and its own time
own : (stretches : List Stretch) (seats at : ℕ) (v : DemandView) → AreAsked stretches seats at v → AreAsked stretches v.seats v.since v
own stretches seats at v a = record { now = refl; until = refl; whole = a.whole; high = a.high; area = a.area; squares = a.squares }

pub change-requires-2-clause-forward : goal.change-requires-2-clause-forward
change-requires-2-clause-forward g c =
    let first = c.change.ensures.asked _ (own [] 4 5000000 c.new-demand.result c.new-demand.ensures.asked) in
    omega (arith, first.until)

pub change-requires-3-clause-forward : goal.change-requires-3-clause-forward
change-requires-3-clause-forward g c =
    let first = c.change.ensures.asked _ (own [] 4 5000000 c.new-demand.result c.new-demand.ensures.asked) in
    let second = c.change-2.ensures.asked _ (own _ 10 7000000 c.change.new.self first) in
    omega (arith, second.until)

pub observed-observed-requires : goal.observed-observed-requires
observed-observed-requires g c =
    let first = c.change.ensures.asked _ (own [] 4 5000000 c.new-demand.result c.new-demand.ensures.asked) in
    let second = c.change-2.ensures.asked _ (own _ 10 7000000 c.change.new.self first) in
    let third = c.change-3.ensures.asked _ (own _ 0 8000000 c.change-2.new.self second) in
    omega (arith, third.until, c.change-3.ensures.began, c.change-2.ensures.began, c.change.ensures.began, c.new-demand.ensures.began)
