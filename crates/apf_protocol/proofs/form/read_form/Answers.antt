use Rattle.std.proofs.Common.{◌≡◌, Some, rules}
use Rattle.apf_protocol.proofs.form.read_form.Goals as goal

pub returns-in_ok-ok_or-in-None-clause-ranges : goal.returns-in_ok-ok_or-in-None-clause-ranges
returns-in_ok-ok_or-in-None-clause-ranges c =
    let is : c.word.result ≡ Some c.in_ok-ok_or-in-None.field-0 = search rules in
    let ranges = rw is at c.word.ensures.ranges in
    rw c.alone.ensures.head (ranges c.args.slots)
