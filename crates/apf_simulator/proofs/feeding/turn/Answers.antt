-- One came, and the next one was handed out.
use Rattle.std.proofs.Common.{[], ◌∷◌}
use Rattle.apf_simulator.proofs.Handed.{more_fed}
use Rattle.apf_simulator.proofs.Turns.{lived}
use Rattle.apf_simulator.proofs.feeding.turn.Goals as goal

pub returns-clause-lived : goal.returns-clause-lived
returns-clause-lived g c = lived (c.args.came ∷ []) c.args.lanes.now.one c.args.lanes.now.other c.arrive.new.lanes.one c.arrive.new.lanes.other c.in_ok-arrive.ensures.goes c.requires.lived

pub returns-clause-fed : goal.returns-clause-fed
returns-clause-fed g c = λ was turns ends fed. more_fed was (g.R.Read.remaining c.args.input.now) (g.R.Read.remaining c.next.new.input) turns c.args.came ends c.in_ok-next.field-0 c.args.reader.now c.next.new.self c.in_ok-next.ensures.answers.of_each fed
