use Rattle.std.proofs.Common.{arith, ◌*◌, ◌/◌}
use Rattle.std.proofs.lemmas.Nat.{mul-le}
use Rattle.apf_lending.proofs.Stretches.{mean_small, root_small, squares_small}
use Rattle.apf_lending.proofs.demand.Demand.observed.Goals as goal

pub overflow_mul-mean-2 : goal.overflow_mul-mean-2
overflow_mul-mean-2 c =
    let small = mean_small c.self.inside.area c.from-micros.result (omega (arith, c.self.invariant.area, c.from-micros.ensures)) in
    let square = mul-le (c.self.inside.area * 1000 / c.from-micros.result) (c.self.inside.area * 1000 / c.from-micros.result) 17179869184000 17179869184000 small small in
    omega (arith, square)

pub returns-clause-mean : goal.returns-clause-mean
returns-clause-mean c = mean_small c.self.inside.area c.from-micros.result (omega (arith, c.self.invariant.area, c.from-micros.ensures))

pub returns-clause-deviation : goal.returns-clause-deviation
returns-clause-deviation c =
    let small = squares_small c.self.inside.squares c.from-micros.result (omega (arith, c.self.invariant.squares, c.from-micros.ensures)) in
    root_small c.saturating_sub.result c.root_of-deviation.result 17179869184000 c.root_of-deviation.ensures.root.within
    (omega (arith, c.saturating_sub.ensures, small))
