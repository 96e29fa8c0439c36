-- Nothing changes.
use Rattle.apf_bound.proofs.Keeping.{refused_kept}
use Rattle.apf_bound.proofs.bound.Bound.refuse.Goals as goal

pub returns : goal.returns
returns c = λ costs measure hands limit l r queue kept. refused_kept costs measure hands limit l c.args.self.now r queue kept
