-- One more is told.
use Rattle.std.proofs.Common.{Bool, sym, subst, rules}
use Rattle.std.specs.Io.KnownBytes.{Appends}
use Rattle.apf_simulator.specs.Fates.{fate_text}
use Rattle.apf_simulator.specs.Hearing.{Tells}
use Rattle.apf_simulator.proofs.Showing.{tells_one}
use Rattle.apf_simulator.proofs.telling.Telling.tell_one.Goals as goal

pub returns : goal.returns
returns g c = λ before turns t.
    let text : Appends (g.W.Write.contents c.begin.new.out) (g.W.Write.contents c.write_fate.new.out) (fate_text c.in-Some.came c.in-Some.ended) = search (c.write_fate.ensures, c.is_err.ensures, c.if-is_err.false, rules) in
    subst (λ (b : Bool). Tells before (g.W.Write.contents c.write_fate.new.out) turns b c.pop.new.self) (sym c.in_ok-begin.ensures.begun)
    (tells_one before (g.W.Write.contents c.args.out.now) (g.W.Write.contents c.begin.new.out) (g.W.Write.contents c.write_fate.new.out) turns c.args.self.now.has_begun c.in-Some.came c.in-Some.ended c.args.self.now.held c.pop.new.self
    c.in-Some.ensures.some (λ b fates. c.in_ok-begin.ensures.still b fates) text t)
