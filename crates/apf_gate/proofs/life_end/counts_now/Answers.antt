use Rattle.std.proofs.Common.{◌+◌, get_or, take, None, arith, sym, ap, subst}
use Rattle.apf_gate.specs.Counted.{AreCounts, total}
use Rattle.apf_gate.specs.LifeEnds.{presents}
use Rattle.apf_gate.proofs.Counting.{slot_counted, total_if, all_slots}
use Rattle.apf_gate.proofs.life_end.counts_now.Goals as goal

pub loop-slot-preserved : goal.loop-slot-preserved
loop-slot-preserved c =
    let i = c.loop-slot.invariant in
    let e = c.add_found.ensures in record {
      same = i.same;
      counts = λ current. subst (λ k. AreCounts k (presents current 0 (take (c.loop-slot.slot + 1) c.args.decisions.now))) (sym e) (slot_counted c.loop-slot.counts current c.args.decisions.now c.loop-slot.slot c.loop-slot-test.true (i.counts current));
      small = let t = total_if c.loop-slot.counts (get_or c.args.decisions.now c.loop-slot.slot None) in let was = i.small in let s = ap total e in omega arith;
    }

pub returns-clause-counts : goal.returns-clause-counts
returns-clause-counts c = λ current. all_slots c.loop-slot.counts current c.args.decisions.now c.loop-slot.slot (let z = c.loop-slot-test.false in omega arith) (c.loop-slot.invariant.counts current)
