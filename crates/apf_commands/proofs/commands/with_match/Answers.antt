-- What the chain of builders makes.
use Rattle.std.proofs.lemmas.Result.{IfOk-weaker}
use Rattle.apf_commands.proofs.Chain.{added}
use Rattle.apf_commands.proofs.commands.with_match.Goals as goal

pub returns : goal.returns
returns c = IfOk-weaker c.arg-9.result _ _ (λ r h app made. added (added (added (added (added (added (added (added (added made c.text.ensures.rule c.text.ensures.local c.in_ok-arg.ensures) c.option.ensures.rule c.option.ensures.local c.in_ok-arg-2.ensures) c.repeated.ensures.rule c.repeated.ensures.local c.in_ok-arg-3.ensures) c.option-2.ensures.rule c.option-2.ensures.local c.in_ok-arg-4.ensures) c.option-3.ensures.rule c.option-3.ensures.local c.in_ok-arg-5.ensures) c.option-4.ensures.rule c.option-4.ensures.local c.in_ok-arg-6.ensures) c.option-5.ensures.rule c.option-5.ensures.local c.in_ok-arg-7.ensures) c.option-6.ensures.rule c.option-6.ensures.local c.in_ok-arg-8.ensures) c.option-7.ensures.rule c.option-7.ensures.local h) c.arg-9.ensures
