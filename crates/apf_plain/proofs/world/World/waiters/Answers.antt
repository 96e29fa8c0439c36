-- The waiters so far are at most the requests so far.
use Rattle.std.proofs.Common.{◌≤◌, arith}
use Rattle.apf_model.specs.declared.moves.Stage.{Stage}
use Rattle.apf_model.specs.declared.moves.Stage.TheVariants.{Away, Waits, Stands, Gone}
use Rattle.apf_model.specs.World.{waits_at}
use Rattle.apf_plain.specs.Stages.{stage_in}
use Rattle.apf_plain.proofs.Sums.{tally_bound}
use Rattle.apf_plain.proofs.world.World.waiters.Goals as goal

waits_at-le-one : (s : Stage) → waits_at s ≤ 1
waits_at-le-one Away = omega arith
waits_at-le-one Waits = omega arith
waits_at-le-one Stands = omega arith
waits_at-le-one Gone = omega arith

pub overflow_add-waiters : goal.overflow_add-waiters
overflow_add-waiters c = let b = tally_bound (λ r. waits_at (stage_in c.args.self.now.stages.items r)) c.loop-request.request (λ j. waits_at-le-one (stage_in c.args.self.now.stages.items j)) in
    let one = waits_at-le-one c.index.result.now in let few = c.args.self.now.few in let same = c.args.self.now.as_many_stages in omega (arith, c.waits_at-waiters.ensures)
