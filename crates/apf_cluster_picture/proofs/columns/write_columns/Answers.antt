-- One column more.
use Rattle.std.proofs.Common.{◌≡◌, ℕ, ◌-◌, subst, arith}
use Rattle.std.specs.List.{flat_map, range_with_len}
use Rattle.std.specs.Io.KnownBytes.{Appends}
use Rattle.apf_cluster_picture.specs.Columns.{column_text}
use Rattle.apf_cluster_picture.proofs.Ranges.{appends_next}
use Rattle.apf_cluster_picture.proofs.columns.write_columns.Goals as goal

pub loop-bin-preserved : goal.loop-bin-preserved
loop-bin-preserved g c =
    let told = g.W.Write.contents in
    appends_next (told c.args.out.now) (told c.loop-bin.out) (told c.write_column.new.out) (column_text c.args.plot.now c.args.bins.now) c.args.first c.loop-bin.bin (omega arith) c.loop-bin.invariant c.in_ok-write_column.ensures

pub returns : goal.returns
returns g c =
    let told = g.W.Write.contents in
    let same : c.loop-bin.bin - c.args.first ≡ c.args.behind - c.args.first = omega arith in
    subst (λ (n : ℕ). Appends (told c.args.out.now) (told c.loop-bin.out) (flat_map (column_text c.args.plot.now c.args.bins.now) (range_with_len c.args.first n))) same c.loop-bin.invariant
