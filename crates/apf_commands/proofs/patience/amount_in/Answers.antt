-- The digits are neither.
use Rattle.apf_commands.proofs.Parts.{neither}
use Rattle.apf_commands.proofs.patience.amount_in.Goals as goal

pub returns-in_default-decimal_in-clause-none : goal.returns-in_default-decimal_in-clause-none
returns-in_default-decimal_in-clause-none c = neither c.args.most c.args.unit c.args.digits.now c.in_default.ensures.none c.in_default-decimal_in.ensures.none
