use Rattle.std.proofs.Common.{arith}
use Rattle.apf_changes.specs.Texts.{dot}
use Rattle.apf_changes.proofs.Cuts.{around_is}
use Rattle.apf_changes.proofs.texts.around_dot.Goals as goal

pub returns : goal.returns
returns c = around_is dot c.args.text.now c.rsplit_once.result (omega arith) c.rsplit_once.ensures.cases
