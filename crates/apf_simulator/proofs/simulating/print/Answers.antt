-- What the lane came to is printed.
use Rattle.std.proofs.KnownBytes.{Appends-trans}
use Rattle.apf_simulator.proofs.simulating.print.Goals as goal

pub returns : goal.returns
returns g c = record {
  table = c.in_ok-table.table;
  of_all = c.in_ok-table.ensures.table;
  report = c.in_ok-table.report;
  ended = c.in_ok-table.ensures.report;
  of_book = c.in_ok-table.ensures.book;
  sides = c.in_ok-sides.sides;
  asked = c.in_ok-sides.ensures;
  written = Appends-trans (g.W.Write.contents c.args.out.now) (g.W.Write.contents c.write.new.out) (g.W.Write.contents c.write_bound.new.out) _ _ c.in_ok-write.ensures c.in_ok-write_bound.ensures;
}
