-- The member on a tape, if there is one.
use Rattle.std.proofs.Common.{Some, None, sym, ◌∙◌}
use Rattle.apf_values.proofs.Lookups.{got}
use Rattle.apf_values.proofs.node.on_tape.Goals as goal

pub of_tape-requires : goal.of_tape-requires
of_tape-requires c = (got c.args.element.now c.args.key.now (Some c.in-Some.found) c.requires c.in-Some.ensures).0

pub returns-in-Some : goal.returns-in-Some
returns-in-Some c = sym ((got c.args.element.now c.args.key.now (Some c.in-Some.found) c.requires c.in-Some.ensures).1 ∙ c.of_tape.ensures)

pub returns-in-None : goal.returns-in-None
returns-in-None c = sym (got c.args.element.now c.args.key.now None c.requires c.in-None.ensures)
