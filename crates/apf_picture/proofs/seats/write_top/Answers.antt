-- One column more.
use Rattle.std.proofs.Common.{arith}
use Rattle.apf_picture.specs.Parts.{column_text}
use Rattle.apf_picture.proofs.Ranges.{appends_range}
use Rattle.apf_picture.proofs.seats.write_top.Goals as goal

pub loop-column-preserved : goal.loop-column-preserved
loop-column-preserved g c =
    let told = g.W.Write.contents in
    appends_range (told c.args.out.now) (told c.loop-column.out) (told c.write_column.new.out) (column_text c.args.tops.now c.args.most) 0 (c.loop-column.column) c.loop-column.column (omega arith) c.loop-column.invariant c.in_ok-write_column.ensures
