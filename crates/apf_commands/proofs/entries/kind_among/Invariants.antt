-- None of the entries so far has the name.
use Rattle.std.proofs.Common.{◌≡◌, drop, map}
use Rattle.apf_commands.specs.Commands.{kind_in, listed}
use Rattle.apf_commands.proofs.entries.kind_among.Given as goal

abbrev pub invariant-loop-entry : goal.invariant-loop-entry
invariant-loop-entry l = kind_in (map listed l.entries) l.name ≡ kind_in (map listed (drop l.entry-index l.entries)) l.name
