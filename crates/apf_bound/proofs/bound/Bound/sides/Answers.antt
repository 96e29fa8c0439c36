-- What is stored is told.
use Rattle.std.proofs.Common.{◌≡◌}
use Rattle.apf_bound.specs.Kept.{BoundView}
use Rattle.apf_bound.proofs.Keeping.{told}
use Rattle.apf_bound.proofs.bound.Bound.sides.Goals as goal

pub returns : goal.returns
returns c = λ costs measure hands limit l kept settled measures ranged.
    let b : BoundView = record { stretches = c.self.inside.stretches; judged = c.self.inside.judged; largest_cost = c.self.inside.largest_cost } in
    let view : b ≡ c.args.self.now = c.self.view_is in
    told costs measure hands limit l b c.args.self.now view kept settled measures ranged c.furthest.result c.slack.result c.furthest.ensures c.slack.ensures
