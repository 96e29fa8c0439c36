-- What stands before the unit's name is no number in it.
use Rattle.std.proofs.Common.{◌≡◌, ◌∙◌, ◌++◌, ap₂, sym}
use Rattle.apf_commands.specs.Patience.{name_of}
use Rattle.apf_commands.proofs.Parts.{no_amount}
use Rattle.apf_commands.proofs.patience.time_in.Goals as goal

pub returns-in_default-amount_in-clause-none : goal.returns-in_default-amount_in-clause-none
returns-in_default-amount_in-clause-none c =
    let cut = c.in-Some.ensures.cases in
    let text = c.args.text.now in
    let digits = c.in-Some.digits.now in
    let is : text ≡ digits ++ name_of c.args.unit = cut.1.1 ∙ ap₂ (λ front end. front ++ end) (sym cut.2) c.name.ensures in
    no_amount c.args.most c.args.unit text digits is c.in_default-amount_in.ensures.none
