-- No two pairs have one place.
use Rattle.std.proofs.Common.{◌≡◌, ap, sym, length, arith}
use Rattle.apf_bound.specs.Pairs.{PairsView, cell}
use Rattle.apf_bound.proofs.Cells.{put_cell}
use Rattle.apf_bound.proofs.pairs.Pairs.set.Goals as goal

pub returns-clause-cells : goal.returns-clause-cells
unfolding cell
returns-clause-cells c = λ x y low.
    let is = c.self.view_is in
    let queues : c.self.inside.queues ≡ c.args.self.now.queues = ap (λ (p : PairsView). p.queues) is in
    let numbers = ap (λ (p : PairsView). p.numbers) is in
    let long = ap length numbers in
    let at = c.place-place.ensures.value in
    let inside = c.place-place.ensures.inside in
    let other = c.requires.other in
    rw (sym is) (put_cell c.self.inside.queues c.self.inside.numbers.items c.args.busy c.args.other c.place-place.result c.args.number x y (rw queues at) (omega arith) (omega arith) (omega arith))
