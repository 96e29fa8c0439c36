-- One level more.
use Rattle.std.proofs.Common.{ℕ, List, map, sym, subst}
use Rattle.std.specs.List.{flat_map, range_with_len}
use Rattle.std.specs.Io.KnownBytes.{Appends}
use Rattle.std.proofs.KnownBytes.{Appends-trans}
use Rattle.apf_objects.specs.Levels.{level_view}
use Rattle.apf_cluster_tables.specs.Texts.{line_at}
use Rattle.apf_cluster_tables.proofs.Lines.{place_next}
use Rattle.apf_cluster_tables.proofs.tables.write_levels.Goals as goal

pub loop-place-preserved : goal.loop-place-preserved
loop-place-preserved g c =
    let text : ℕ → List ℕ = line_at c.args.end (map level_view c.args.levels.now) c.args.tables.now in
    let before = g.W.Write.contents c.args.out.now in
    let so_far = g.W.Write.contents c.loop-place.out in
    let after = g.W.Write.contents c.write_at.new.out in
    let n = c.loop-place.place in
    subst (λ (t : List ℕ). Appends before after t) (sym (place_next text n))
    (Appends-trans before so_far after (flat_map text (range_with_len 0 n)) (text n) c.loop-place.invariant c.in_ok-write_at.ensures)
