use Rattle.apf_audit.proofs.Answering.{median_kept}
use Rattle.apf_audit.proofs.estimates.median_of.Goals as goal

pub returns-clause-median : goal.returns-clause-median
returns-clause-median c = λ those kept. median_kept those c.args.runs.now c.percentile.result kept c.percentile.ensures.none (c.percentile.ensures.nearest those kept)
