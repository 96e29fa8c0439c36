-- Somebody waits still where fewer were told than came.
use Rattle.std.proofs.Common.{ap, sym, ◌∙◌}
use Rattle.apf_rows.specs.declared.sums.Sums.{Sums}
use Rattle.apf_simulator.specs.Lanes.{LaneView}
use Rattle.apf_simulator.proofs.lane.Lane.finish.Goals as goal

pub returns-then-sums-self-clause-fault : goal.returns-then-sums-self-clause-fault
returns-then-sums-self-clause-fault c = record {
  reached = c.advance.new.self;
  goes = c.in_ok-advance.ensures.goes;
  over = c.in_ok-advance.ensures.over;
  some = λ e. c.if-sums-self.true (ap (λ (s : Sums). s.requests) c.sums.ensures ∙ (ap (λ (v : LaneView). v.rows.all.sums.requests) c.self.view_is ∙ (e ∙ sym (ap (λ (v : LaneView). v.came) c.self.view_is))));
}
