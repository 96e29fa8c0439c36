-- The rows are those of whoever was told, and the level is the one that ended.
use Rattle.std.proofs.Common.{sym, ap, subst}
use Rattle.apf_local.specs.Levels.{EndsFrom, LocalView}
use Rattle.apf_gate.specs.declared.counts.Counts.{Counts}
use Rattle.apf_simulator.specs.Books.{AreOfBook}
use Rattle.apf_simulator.specs.Lanes.{IsLaneUnder, LaneView}
use Rattle.apf_simulator.proofs.lane.Lane.close.Goals as goal

pub returns-clause-table : goal.returns-clause-table
returns-clause-table c = λ under opening came told is.
    let lane = subst (IsLaneUnder under opening came told) (sym c.self.view_is) is in
    c.in_ok-table.ensures came told lane.met lane.are

pub returns-clause-report : goal.returns-clause-report
returns-clause-report c = subst (λ (l : LocalView). EndsFrom l c.in_ok-report.report) (ap (λ (v : LaneView). v.state.level) c.self.view_is) c.in_ok-report.ensures

pub returns-then-not-are_of_book-clause-fault : goal.returns-then-not-are_of_book-clause-fault
returns-then-not-are_of_book-clause-fault c = record {
  table = c.in_ok-table.table;
  of_all = λ under opening came told is.
      let lane = subst (IsLaneUnder under opening came told) (sym c.self.view_is) is in
      c.in_ok-table.ensures came told lane.met lane.are;
  report = c.in_ok-report.report;
  ended = subst (λ (l : LocalView). EndsFrom l c.in_ok-report.report) (ap (λ (v : LaneView). v.state.level) c.self.view_is) c.in_ok-report.ensures;
  other = λ book.
      let t = c.are_of_book.ensures.1 (subst (λ (k : Counts). AreOfBook c.in_ok-table.table.all.sums k) (sym c.counts.ensures) book) in
      let f = c.if-not-are_of_book.true in
      absurd (cc);
}
