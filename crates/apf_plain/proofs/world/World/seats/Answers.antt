-- The seats so far are at most all seats.
use Rattle.std.proofs.Common.{◌≡◌, ◌<◌, suc, length, ap, ◌∙◌, arith}
use Rattle.std.proofs.lemmas.List.{get_or_default}
use Rattle.apf_model.specs.declared.moves.Stage.{Stage}
use Rattle.apf_model.specs.declared.moves.Stage.TheVariants.{Away}
use Rattle.apf_model.specs.World.{seats_at, width}
use Rattle.apf_plain.specs.Stages.{stage_in}
use Rattle.apf_plain.proofs.Sums.{tally_fewer}
use Rattle.apf_plain.proofs.world.World.seats.Goals as goal

pub overflow_add-seats : goal.overflow_add-seats
overflow_add-seats c = let p = c.args.self.now in let i = c.loop-request.request in
    let same = p.as_many_stages in let small = p.few_seats in
    let inside : i < length p.widths.items = omega arith in
    let e : c.index.result.now ≡ stage_in p.stages.items i = c.index.ensures ∙ get_or_default p.stages.items i c.index.result.now Away (omega arith) in
    let k : c.index-in-loop-request.result.now ≡ width p.widths.items i = c.index-in-loop-request.ensures ∙ get_or_default p.widths.items i c.index-in-loop-request.result.now 0 inside in
    let here : c.seats_at-seats.result ≡ seats_at (stage_in p.stages.items i) (width p.widths.items i) =
    c.seats_at-seats.ensures ∙ (ap (λ (s : Stage). seats_at s c.index-in-loop-request.result.now) e ∙ ap (seats_at (stage_in p.stages.items i)) k) in
    let all = tally_fewer (λ r. seats_at (stage_in p.stages.items r) (width p.widths.items r)) (suc i) (length p.widths.items) (omega arith) in
    omega arith
