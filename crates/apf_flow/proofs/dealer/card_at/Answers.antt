use Rattle.std.proofs.Common.{◌≡◌, ◌∙◌, arith, drop, length-drop, sym}
use Rattle.apf_flow.proofs.FirstPlace.{first_place-le, IsCardAt-first_place}
use Rattle.apf_flow.proofs.dealer.card_at.Goals as goal

pub overflow_add-card : goal.overflow_add-card
overflow_add-card c =
    let small = first_place-le (drop c.loop-j.j c.args.places.now) c.args.place in
    omega (arith, c.loop-j.invariant, length-drop c.loop-j.j c.args.places.now)

pub returns : goal.returns
returns c =
    let over : c.loop-j.j ≡ 0 = omega arith in
    let counted = rw over at c.loop-j.invariant in
    λ size ins within. IsCardAt-first_place c.args.places.now c.args.place size ins within ∙ sym counted
