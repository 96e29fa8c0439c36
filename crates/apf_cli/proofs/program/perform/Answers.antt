-- What was printed stands once the output is flushed.
use Rattle.apf_cli.proofs.Printed.{prints_kept}
use Rattle.apf_cli.proofs.program.perform.Goals as goal

pub returns-in-Ok : goal.returns-in-Ok
returns-in-Ok g c =
    let told = g.O.Write.contents in
    prints_kept g.F.Files.holds c.args.action.arguments (told c.args.out.now) (told c.print_action.new.out) (told c.flush.new.self) c.in_ok-print_action.ensures
    c.flush.ensures.bytes
