-- Each of this many zeros is 0, and past the end there is none.
use Rattle.std.proofs.Common.{ap, ◌∙◌, List, ℕ}
use Rattle.std.specs.Prelude.{slice_index, ◌*◌, ◌+◌}
use Rattle.apf_bound.specs.Pairs.{cell}
use Rattle.apf_bound.proofs.Cells.{zeros}
use Rattle.apf_bound.proofs.pairs.Pairs.new.Goals as goal

pub returns-clause-zeros : goal.returns-clause-zeros
unfolding cell
returns-clause-zeros c = λ x y. ap (λ (ns : List ℕ). slice_index ns (x * c.args.queues + y)) (c.in_ok-numbers.ensures.items_if_clones_equal (λ y e. e)) ∙ zeros (c.args.queues * c.args.queues) (x * c.args.queues + y)
