-- All are told.
use Rattle.std.proofs.Common.{sym, ◌∙◌}
use Rattle.apf_simulator.proofs.Showing.{tells_all}
use Rattle.apf_simulator.proofs.telling.Telling.finish.Goals as goal

pub returns : goal.returns
returns g c = λ before turns t.
    tells_all before (g.W.Write.contents c.tell.new.out) (g.W.Write.contents c.begin.new.out) turns c.tell.new.self.has_begun c.tell.new.self.held (λ b fates. c.in_ok-begin.ensures.still b fates) (sym c.len.ensures ∙ c.if-len-ne0.false)
    (c.in_ok-tell.ensures before turns t)
