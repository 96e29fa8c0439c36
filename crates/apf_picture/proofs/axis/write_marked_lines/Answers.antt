-- The line of one mark more.
use Rattle.std.proofs.Common.{ℕ, ◌+◌, ◌*◌, arith}
use Rattle.apf_picture.specs.Parts.{mark_line}
use Rattle.apf_picture.proofs.Ranges.{appends_range}
use Rattle.apf_picture.proofs.axis.write_marked_lines.Goals as goal

pub loop-mark-preserved : goal.loop-mark-preserved
loop-mark-preserved g c =
    let told = g.W.Write.contents in
    appends_range (told c.args.out.now) (told c.loop-mark.out) (told c.write_line.new.out) (λ (mark : ℕ). mark_line c.args.end c.args.depth (c.args.first + mark * c.args.step)) 0 (c.loop-mark.mark) c.loop-mark.mark (omega arith) c.loop-mark.invariant c.in_ok-write_line.ensures
