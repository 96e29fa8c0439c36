-- It is a time in none of the units.
use Rattle.apf_commands.proofs.Patient.{none_in_any}
use Rattle.apf_commands.proofs.patience.time_of.Goals as goal

pub returns-in_default-time_in-4-clause-none : goal.returns-in_default-time_in-4-clause-none
returns-in_default-time_in-4-clause-none c =
    none_in_any c.args.most c.args.text.now c.in_default.ensures.none c.in_default-time_in.ensures.none c.in_default-time_in-2.ensures.none c.in_default-time_in-3.ensures.none c.in_default-time_in-4.ensures.none
