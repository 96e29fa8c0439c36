-- The first was handed out, or nothing is there.
use Rattle.std.proofs.Common.{[]}
use Rattle.apf_simulator.proofs.Handed.{first_fed}
use Rattle.apf_simulator.proofs.feeding.read_first.Goals as goal

pub returns-clause-read : goal.returns-clause-read
returns-clause-read g c = λ read. first_fed (g.R.Read.remaining c.args.input.now) (g.R.Read.remaining c.next.new.input) c.in_ok-next.field-0 c.next.new.self (c.in_ok-next.ensures.answers.of_each [] [] read)
