-- One bin more has its part, and outside of the span there is nothing.
use Rattle.std.proofs.Common.{◌<◌, ◌≢◌, length, arith, ⊎_elim, get_or-set_other, get_or-set_same, length-set, below_more}
use Rattle.std.proofs.lemmas.Bool.{cases_lt}
use Rattle.apf_strips.proofs.Overlaps.{inside_of, none_before, none_behind}
use Rattle.apf_strips.proofs.bins.add_span.Goals as goal

pub loop-bin-init : goal.loop-bin-init
loop-bin-init c = record {
  count = omega arith;
  done = λ k l. let none = none_before (record { amount = c.args.amount; from = c.args.from; to = c.args.to }) c.args.width k l in omega arith;
  rest = λ k l. omega arith;
}

pub loop-bin-preserved : goal.loop-bin-preserved
loop-bin-preserved c =
    let bin = c.loop-bin.bin in
    let was = c.loop-bin.invariant.rest bin (omega arith) in
    let inside : bin < length c.loop-bin.bins = (let e = c.div_ceil-bin-end.ensures in let count = c.loop-bin.invariant.count in let within = inside_of c.args.to c.args.width (length c.args.bins.now) bin c.requires.some c.requires.inside (omega arith) in omega arith) in
    record {
      count = grind (arith, length-set);
      done = below_more _ _
          (λ k l. let ne : k ≢ bin = omega arith in rw get_or-set_other (c.loop-bin.invariant.done k l))
          (rw get_or-set_same (omega (arith, was, c.part.ensures)));
      rest = λ k l. let ne : k ≢ bin = omega arith in rw get_or-set_other (c.loop-bin.invariant.rest k (omega arith));
    }

pub returns-clause-added : goal.returns-clause-added
returns-clause-added c k inside =
    ⊎_elim
    (λ l. c.loop-bin.invariant.done k l)
    (λ l.
    let none = none_behind (record { amount = c.args.amount; from = c.args.from; to = c.args.to }) c.args.width k c.requires.some (let e = c.div_ceil-bin-end.ensures in omega arith) in
    let same = c.loop-bin.invariant.rest k l in omega arith)
    (cases_lt k c.loop-bin.bin)
