use Rattle.std.proofs.Common.{arith}
use Rattle.apf_lending.proofs.Reach.{reaches_all, not_zero, short_below, fixed_below, factor_in}
use Rattle.apf_lending.proofs.factor.factor_by.Goals as goal

pub least_reaching-from-requires-clause-reaches : goal.least_reaching-from-requires-clause-reaches
least_reaching-from-requires-clause-reaches c =
    reaches_all c.args.seats c.greatest_of-greatest.result c.args.claims.now c.requires.claims
    (rw c.requires.breaks at c.greatest_of-greatest.ensures.greatest) c.requires.reach

pub greatest_below-below-requires-clause-some : goal.greatest_below-below-requires-clause-some
greatest_below-below-requires-clause-some c =
    not_zero c.args.seats c.least_reaching-from.result c.args.claims.now c.least_reaching-from.ensures.small.some c.requires.claims c.requires.more
    c.least_reaching-from.ensures.reaches

pub overflow_sub-seats : goal.overflow_sub-seats
overflow_sub-seats c =
    let from = c.least_reaching-from.result in
    let below = c.greatest_below-below.result in
    let apart = rw c.requires.breaks at c.greatest_below-below.ensures.apart in
    let short = short_below c.args.seats below from c.args.claims.now c.greatest_below-below.ensures.small.some c.requires.claims c.requires.more
    (rw c.requires.breaks at c.greatest_below-below.ensures.one) c.greatest_below-below.ensures.less
    (rw c.requires.breaks at c.least_reaching-from.ensures.least) in
    let few = fixed_below c.args.seats below from c.args.claims.now c.greatest_below-below.ensures.small.some c.least_reaching-from.ensures.small.some
    c.requires.claims c.greatest_below-below.ensures.less apart short in
    omega (arith, few, c.pieces_of-fixed.ensures.fixed)

pub returns-clause-factor : goal.returns-clause-factor
returns-clause-factor c =
    let from = c.least_reaching-from.result in
    let below = c.greatest_below-below.result in
    let apart = rw c.requires.breaks at c.greatest_below-below.ensures.apart in
    let short = short_below c.args.seats below from c.args.claims.now c.greatest_below-below.ensures.small.some c.requires.claims c.requires.more
    (rw c.requires.breaks at c.greatest_below-below.ensures.one) c.greatest_below-below.ensures.less
    (rw c.requires.breaks at c.least_reaching-from.ensures.least) in
    let is = factor_in c.args.seats below from c.args.claims.now c.greatest_below-below.ensures.small.some c.least_reaching-from.ensures.small.some
    c.requires.claims c.greatest_below-below.ensures.less apart short c.least_reaching-from.ensures.reaches in
    rw (c.from.ensures, c.pieces_of-fixed.ensures.fixed, c.pieces_of-fixed.ensures.free) is
