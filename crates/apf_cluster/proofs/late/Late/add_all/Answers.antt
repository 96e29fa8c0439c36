-- One more is counted.
use Rattle.std.proofs.Common.{List, [], ◌∷◌, ◌++◌, take, get_or, ap, ◌∙◌, subst, append_assoc}
use Rattle.std.proofs.lemmas.List.{take_all}
use Rattle.apf_stream.specs.declared.ended.Ended.{Ended}
use Rattle.apf_cluster.specs.Late.{AreCounted}
use Rattle.apf_cluster.proofs.Counted.{take_one}
use Rattle.apf_cluster.proofs.late.Late.add_all.Goals as goal

pub loop-ended-preserved : goal.loop-ended-preserved
loop-ended-preserved c =
    let i = c.loop-ended.invariant in
    let e = c.in_ok-add.ensures in
    let k = c.loop-ended.ended-index in
    let ends = c.args.ends.now in
    record {
      since = e.since ∙ i.since;
      counts = λ came told are.
          subst (λ (l : List Ended). AreCounted came l c.add.new.self) (append_assoc told (take k ends) (get_or ends k _ ∷ []) ∙ ap (λ (l : List Ended). told ++ l) (take_one ends k _ c.loop-ended-test.true))
          (e.counts came (told ++ take k ends) (i.counts came told are));
      still = λ one can. e.still one (i.still one can);
    }

pub returns-clause-counts : goal.returns-clause-counts
returns-clause-counts c =
    λ came told are.
    subst (λ (l : List Ended). AreCounted came (told ++ l) c.loop-ended.self) (take_all c.loop-ended.ended-index c.args.ends.now c.loop-ended-test.false) (c.loop-ended.invariant.counts came told are)
