use Rattle.std.proofs.Common.{◌≤◌, rules, arith}
use Rattle.apf_matching.proofs.Shares.{small_product, not_above}
use Rattle.apf_matching.proofs.limits.nominal_of.Goals as goal

pub overflow_add-result : goal.overflow_add-result
overflow_add-result c =
    let few : c.args.shares ≤ 4294967295 = search rules in
    rw (c.from.ensures, c.from-2.ensures) (omega (arith, small_product c.args.seats c.args.shares c.requires.few few, c.requires.most))

pub returns-clause-within : goal.returns-clause-within
returns-clause-within c =
    rw (c.from.ensures, c.from-2.ensures) (not_above c.args.seats c.args.shares c.args.all (search rules) c.requires.part)
