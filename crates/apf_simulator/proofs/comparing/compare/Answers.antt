-- The whole trace ran on both, and what it came to is printed.
use Rattle.std.proofs.Common.{◌∙◌}
use Rattle.apf_simulator.proofs.Whole.{compared}
use Rattle.apf_simulator.proofs.comparing.compare.Goals as goal

pub returns : goal.returns
returns g c = λ read.
    let was = g.R.Read.remaining c.args.input.now in
    let before = g.W.Write.contents c.args.out.now in
    let first = c.in_ok-first.ensures in
    let fed = first.read read in
    let o = c.in_ok-lanes.ensures in
    let ran = c.in_ok-one.ensures in
    compared c.args.configs.0.now c.args.configs.1.now c.opening_for-opening.result.slots c.args.terms.patience c.args.terms.by c.opening_for-opening.result.by c.in_ok-first.first c.args.reader.now.window.size was (g.R.Read.remaining c.run_both.new.input) before (g.W.Write.contents c.run_both.new.out) (g.W.Write.contents c.print.new.out)
    c.in_ok-lanes.lanes.one c.in_ok-lanes.lanes.other c.in_ok-one.one c.in_ok-one.other c.run_both.new.reader o.opened o.other_opened
    (record { front = fed.bytes; left = g.R.Read.remaining c.read_first.new.input; given = fed.given; reader = c.read_first.new.reader; read = fed.read; is = c.opening_for-opening.ensures.charge })
    (record { front = fed.bytes; left = g.R.Read.remaining c.read_first.new.input; given = fed.given; reader = c.read_first.new.reader; read = fed.read; is = c.opening_for-opening.ensures.slots })
    ran.over (ran.size ∙ first.size) (ran.gone was fed) c.in_ok-print.ensures
