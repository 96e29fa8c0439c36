-- One column more.
use Rattle.std.proofs.Common.{ℕ, List, codes, sym, subst}
use Rattle.std.specs.Io.KnownBytes.{Appends}
use Rattle.std.proofs.KnownBytes.{Appends-trans}
use Rattle.apf_cluster_tables.specs.Both.{absent}
use Rattle.apf_cluster_tables.proofs.Columns.{absent_next}
use Rattle.apf_cluster_tables.proofs.both.write_absent.Goals as goal

pub loop-column-preserved : goal.loop-column-preserved
loop-column-preserved g c =
    let before = g.W.Write.contents c.args.out.now in
    let so_far = g.W.Write.contents c.loop-column.out in
    let after = g.W.Write.contents c.write_all.new.self in
    let n = c.loop-column._column in
    subst (λ (t : List ℕ). Appends before after t) (sym (absent_next n)) (Appends-trans before so_far after (absent n) (codes " -") c.loop-column.invariant c.in_ok-write_all.ensures.bytes)
