-- One mark more.
use Rattle.apf_cluster_picture.specs.Columns.{mark_at}
use Rattle.apf_cluster_picture.proofs.Ranges.{appends_first}
use Rattle.apf_cluster_picture.proofs.columns.write_all_marks.Goals as goal

pub loop-bin-preserved : goal.loop-bin-preserved
loop-bin-preserved g c =
    let told = g.W.Write.contents in
    appends_first (told c.args.out.now) (told c.loop-bin.out) (told c.write_mark_at.new.out) (mark_at c.args.plot.now c.args.bins.now) c.loop-bin.bin c.loop-bin.invariant c.in_ok-write_mark_at.ensures
