-- What came is held, and the first is handed out once more than the size are held.
use Rattle.std.proofs.Common.{◌∷◌, ap, arith}
use Rattle.std.proofs.lemmas.List.Sorted.{length_permutation}
use Rattle.apf_times.specs.declared.window.Arrival.{Arrival}
use Rattle.apf_times.proofs.Windows.{pushed_out}
use Rattle.apf_times.proofs.window.Window.push.Goals as goal

pub returns-then-len-self-clause-pushed : goal.returns-then-len-self-clause-pushed
returns-then-len-self-clause-pushed g c =
    let x : Arrival g.row.T.Denot = record { place = c.args.place; item = c.args.item } in
    let more = length_permutation (x ∷ c.args.self.now.held) c.hold.new.self.held c.in_ok-hold.ensures.joins in
    let size = ap (λ v. v.size) c.self-2.view_is in
    let same = c.in_ok-hold.ensures.size in
    let long = c.len.ensures in
    (omega arith, c.in_ok-hold.ensures.joins, c.in_ok-hold.ensures.last)

pub returns-clause-pushed : goal.returns-clause-pushed
returns-clause-pushed g c =
    let x : Arrival g.row.T.Denot = record { place = c.args.place; item = c.args.item } in
    let size = ap (λ v. v.size) c.self-2.view_is in
    let long = c.len.ensures in
    pushed_out x c.args.self.now c.hold.new.self c.pop.new.self c.pop.result c.in_ok-hold.ensures.joins c.in_ok-hold.ensures.size (omega arith) c.pop.ensures.popped
