-- What the chain of builders makes.
use Rattle.std.proofs.lemmas.Result.{IfOk-weaker}
use Rattle.apf_commands.proofs.Chain.{added}
use Rattle.apf_commands.proofs.commands.with_cluster.Goals as goal

pub returns : goal.returns
returns c =
    IfOk-weaker c.arg-5.result _ _
    (λ r h app made. added (added (added (added (added (c.in_ok-with_cluster_print.ensures app made) c.repeated.ensures.rule c.repeated.ensures.local c.in_ok-arg.ensures) c.option.ensures.rule c.option.ensures.local c.in_ok-arg-2.ensures) c.option-2.ensures.rule c.option-2.ensures.local c.in_ok-arg-3.ensures) c.option-3.ensures.rule c.option-3.ensures.local c.in_ok-arg-4.ensures) c.option-4.ensures.rule c.option-4.ensures.local h)
    c.arg-5.ensures
