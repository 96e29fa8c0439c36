-- The digits are no number with a point, or one of more than the longest time.
use Rattle.std.proofs.Common.{ℕ, ◌+◌, ◌*◌, ◌<◌, subst}
use Rattle.apf_commands.specs.Patience.{microseconds_of}
use Rattle.apf_commands.proofs.Parts.{no_part, too_much}
use Rattle.apf_commands.proofs.patience.decimal_in.Goals as goal

pub returns-in_default-part_in-clause-none : goal.returns-in_default-part_in-clause-none
returns-in_default-part_in-clause-none c =
    no_part c.args.most c.args.unit c.args.digits.now c.in-Some.part.now c.in-Some.ensures.some.2 c.in_default-part_in.ensures.none

pub returns-in_default-bounded-clause-none : goal.returns-in_default-bounded-clause-none
returns-in_default-bounded-clause-none c =
    let parts = c.in-Some.ensures.some in
    let rest = c.in-Some-part_in.rest in
    let much : c.args.most < c.in-Ok.count * microseconds_of c.args.unit + rest =
    subst (λ (n : ℕ). c.args.most < n + rest) c.times.ensures.value c.in_default-bounded.ensures.none in
    too_much c.args.most c.args.unit c.args.digits.now c.in-Some.whole.now c.in-Some.part.now c.in-Ok.count rest parts.1 parts.2
    c.in-Ok.ensures.value.0 c.in-Some-part_in.ensures.some much
