use Rattle.apf_least.proofs.Nodes.{opening_least}
use Rattle.apf_least.proofs.tree.LeastTree.new.Goals as goal

pub invariant_of-result : goal.invariant_of-result
invariant_of-result g c =
    rw (c.in_ok-vec.ensures.items_if_clones_equal (λ y e. e)) (opening_least c.leaf_count-leaves.result _ c.leaf_count-leaves.ensures.power c.leaf_count-leaves.ensures.few)
