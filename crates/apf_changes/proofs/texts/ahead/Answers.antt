use Rattle.apf_changes.proofs.Cuts.{ahead_is}
use Rattle.apf_changes.proofs.texts.ahead.Goals as goal

pub returns : goal.returns
returns c = ahead_is c.args.end.now c.args.text.now c.strip_suffix.result c.strip_suffix.ensures.cases
