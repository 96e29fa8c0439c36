use Rattle.std.proofs.Common.{◌++◌, ◌∷◌, [], List, sym, ap, ◌∙◌, arith}
use Rattle.std.proofs.lemmas.List.FromFn.{map-range_with_len_more}
use Rattle.apf_queue.specs.declared.nodes.Node.{Node}
use Rattle.apf_queue.specs.Nodes.{alone_node, alone_nodes}
use Rattle.apf_queue.proofs.rings.nodes_alone.Goals as goal

pub loop-number-preserved : goal.loop-number-preserved
loop-number-preserved g c =
    let i = c.loop-number.number in (
      c.push_reserved.ensures.items ∙ (ap (λ (ns : List Node). ns ++ c.alone.result ∷ []) c.loop-number.invariant.0
          ∙ (ap (λ (n : Node). alone_nodes i ++ n ∷ []) c.alone.ensures ∙ sym (map-range_with_len_more alone_node 0 i i (omega arith)))),
      omega arith,
      omega arith,
    )
