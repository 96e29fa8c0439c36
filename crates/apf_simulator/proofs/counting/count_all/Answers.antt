-- One more is counted.
use Rattle.std.proofs.Common.{List, [], ◌∷◌, ◌++◌, take, get_or, ap, ◌∙◌, subst, append_assoc}
use Rattle.apf_stream.specs.declared.ended.Ended.{Ended}
use Rattle.apf_rows.specs.Rows.{AreRows}
use Rattle.apf_simulator.proofs.Countable.{counted_still, take_one}
use Rattle.apf_simulator.proofs.counting.count_all.Goals as goal

pub count-requires : goal.count-requires
count-requires c = counted_still c.args.rows.now c.loop-ended.rows _ c.loop-ended.invariant.flows (c.requires c.loop-ended.ended-index _ c.loop-ended-test.true)

pub loop-ended-preserved : goal.loop-ended-preserved
loop-ended-preserved c =
    let i = c.loop-ended.invariant in
    let e = c.in_ok-count.ensures in
    let k = c.loop-ended.ended-index in
    let ends = c.args.ends.now in
    record {
      added = λ told are.
          subst (λ (l : List Ended). AreRows l c.count.new.rows) (append_assoc told (take k ends) (get_or ends k _ ∷ []) ∙ ap (λ (l : List Ended). told ++ l) (take_one ends k _ c.loop-ended-test.true))
          (e.added (told ++ take k ends) (i.added told are));
      met = λ came met. e.met came (i.met came met);
      flows = e.flows ∙ i.flows;
    }
