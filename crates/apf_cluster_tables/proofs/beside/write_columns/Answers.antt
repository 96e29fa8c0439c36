-- No column, one more, and all of them.
use Rattle.std.proofs.Common.{◌≡◌, ℕ, suc, ◌+◌, ◌-◌, subst, arith}
use Rattle.apf_cluster_tables.specs.Beside.{columns_beside}
use Rattle.apf_cluster_tables.proofs.Columns.{AreWritten, all_written, none_written, one_written}
use Rattle.apf_cluster_tables.proofs.beside.write_columns.Goals as goal

pub loop-column-init : goal.loop-column-init
loop-column-init g c = none_written (g.W.Write.contents c.args.out.now) (c.args.columns - 0) c.args.columns c.args.one.now c.args.other.now (omega arith)

pub loop-column-preserved : goal.loop-column-preserved
loop-column-preserved g c =
    let l = c.loop-column in
    let before = g.W.Write.contents c.args.out.now in
    let whole = columns_beside c.args.columns c.args.one.now c.args.other.now in
    let left : c.args.columns - l._column ≡ suc (c.args.columns - (l._column + 1)) = omega arith in
    one_written before (g.W.Write.contents l.out) (g.W.Write.contents c.write_column.new.out) (c.args.columns - (l._column + 1)) l.first.now l.second.now c.without_first-begun.result.now c.without_first-begun_2.result.now
    c.rest_of-first.result.now c.rest_of-second.result.now whole c.without_first-begun.ensures c.without_first-begun_2.ensures c.rest_of-first.ensures c.rest_of-second.ensures c.in_ok-write_column.ensures
    (subst (λ (n : ℕ). AreWritten before (g.W.Write.contents l.out) n l.first.now l.second.now whole) left l.invariant)

pub returns : goal.returns
returns g c =
    let l = c.loop-column in
    all_written (g.W.Write.contents c.args.out.now) (g.W.Write.contents l.out) (c.args.columns - l._column) l.first.now l.second.now (columns_beside c.args.columns c.args.one.now c.args.other.now) (omega arith) l.invariant
