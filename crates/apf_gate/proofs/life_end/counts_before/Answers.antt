use Rattle.std.proofs.Common.{◌+◌, take, arith, sym, ap, subst}
use Rattle.apf_gate.specs.Counted.{AreCounts, total}
use Rattle.apf_gate.specs.LifeEnds.{pasts}
use Rattle.apf_gate.proofs.Counting.{pass_counted, all_passes}
use Rattle.apf_gate.proofs.life_end.counts_before.Goals as goal

pub loop-place-preserved : goal.loop-place-preserved
loop-place-preserved c =
    let i = c.loop-place.invariant in
    let m = c.before-in-loop-place.ensures in
    let e = c.add_all.ensures in record {
      same = i.same;
      counts = subst (λ k. AreCounts k (pasts (take (c.loop-place.place + 1) c.args.passes.now))) (sym e) (pass_counted c.loop-place.counts c.before-in-loop-place.result c.args.passes.now c.loop-place.place c.index-passes-place.result c.loop-place-test.true (sym c.index-passes-place.is) i.counts m.counts);
      small = let few = m.few in let was = i.small in let s = ap total e in omega arith;
    }

pub returns-clause-counts : goal.returns-clause-counts
returns-clause-counts c = all_passes c.loop-place.counts c.args.passes.now c.loop-place.place (let z = c.loop-place-test.false in omega arith) c.loop-place.invariant.counts
