-- The line was held, or it is read on.
use Rattle.std.proofs.Common.{sym, subst}
use Rattle.apf_request_halves.specs.Reading.{HalvesView, HasRead, IsWithout}
use Rattle.apf_request_halves.proofs.Turning.{held_answer}
use Rattle.apf_request_halves.proofs.halves.RequestHalves.find.Goals as goal

pub returns-in-Some : goal.returns-in-Some
returns-in-Some g c = λ bytes asked h.
    let was = g.R.Read.remaining c.args.input.now in
    held_answer c.args.id.now bytes asked was c.in-Some.line c.take_held.new.self (c.in-Some.ensures bytes asked was h)

pub returns : goal.returns
returns g c = λ bytes asked h.
    let id = c.args.id.now in
    let was = g.R.Read.remaining c.args.input.now in
    let none = c.in_default.ensures in
    c.read_on.ensures (subst (λ (v : HalvesView). IsWithout id v.held) (sym none.0) none.1) bytes asked (subst (HasRead bytes asked was) (sym none.0) h)
