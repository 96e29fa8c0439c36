-- What requests are charged, and how many slots there are, is by what was read when the first one was handed out.
use Rattle.apf_simulator.proofs.running.open_for.Goals as goal

pub returns-clause-charge : goal.returns-clause-charge
returns-clause-charge g c = λ read.
    let fed = c.in_ok-first.ensures.read read in
    record { front = fed.bytes; left = g.R.Read.remaining c.read_first.new.input; given = fed.given; reader = c.read_first.new.reader; read = fed.read; is = c.opening_for-opening.ensures.charge }

pub returns-clause-slots : goal.returns-clause-slots
returns-clause-slots g c = λ read.
    let fed = c.in_ok-first.ensures.read read in
    record { front = fed.bytes; left = g.R.Read.remaining c.read_first.new.input; given = fed.given; reader = c.read_first.new.reader; read = fed.read; is = c.opening_for-opening.ensures.slots }
