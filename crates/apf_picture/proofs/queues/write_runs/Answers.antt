-- One column more.
use Rattle.std.proofs.Common.{arith}
use Rattle.apf_picture.specs.Strips.{run_at}
use Rattle.apf_picture.proofs.Ranges.{appends_range}
use Rattle.apf_picture.proofs.queues.write_runs.Goals as goal

pub loop-column-preserved : goal.loop-column-preserved
loop-column-preserved g c =
    let told = g.W.Write.contents in
    appends_range (told c.args.out.now) (told c.loop-column.out) (told c.write_run_at.new.out) (run_at c.args.lengths.now c.args.y c.args.wanted c.args.longest) 0 (c.loop-column.column) c.loop-column.column (omega arith) c.loop-column.invariant c.in_ok-write_run_at.ensures
