use Rattle.std.proofs.Common.{◌≡◌, true, rules}
use Rattle.std.specs.Char.{is_ascii_digit}
use Rattle.std.specs.List.{list_all}
use Rattle.apf_changes.proofs.Numerals.{number_is}
use Rattle.apf_changes.proofs.amount.number_of.Goals as goal

pub returns : goal.returns
returns c =
    let are : list_all is_ascii_digit c.args.text.now ≡ true = search rules in
    rw c.ok.ensures.value (number_is c.args.text.now c.parse.result c.parse.ensures.value.0 are)
