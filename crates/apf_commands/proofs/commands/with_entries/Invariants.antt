-- The program has the commands of the entries so far.
use Rattle.std.proofs.Common.{◌≡◌, map, take}
use Rattle.clap.specs.Words.{app_of}
use Rattle.apf_commands.specs.Commands.{listed, with_commands}
use Rattle.apf_commands.proofs.commands.with_entries.Given as goal

abbrev pub invariant-loop-entry : goal.invariant-loop-entry
invariant-loop-entry l = app_of l.program ≡ with_commands (map listed (take l.entry-index l.entries)) (app_of l.fn.program)
