-- Requests came to each lane, and one more was closed.
use Rattle.std.proofs.Common.{[], ◌∷◌, ◌++◌, ◌∙◌, length, sym, subst}
use Rattle.std.specs.List.{AllZip}
use Rattle.std.proofs.lemmas.Iterator.Adapters.{YieldsList-from_vec}
use Rattle.std.proofs.lemmas.Iterator.Consumers.{YieldsList-turn}
use Rattle.std.proofs.lemmas.List.Elements.{All-from_recursion}
use Rattle.std.proofs.lemmas.Slice.Zip.{all_zipped_more}
use Rattle.apf_cluster.specs.Runs.{IsAlive, IsClosed}
use Rattle.apf_cluster.proofs.closing.close_all.Goals as goal

pub close-requires : goal.close-requires
close-requires c =
    let gives = c.into_iter-level-iterator.ensures.into_iter_gives in
    let t = YieldsList-turn (YieldsList-from_vec {s = c.into_iter-level-iterator.result} c.args.lanes.items gives.0 (gives.1 ∙ c.args.lanes.ok.0)) c.loop-level.yielded c.loop-level.level-iterator c.loop-level.yielded_by c.next.result c.next.new.self c.in-Some.level c.in-Some.is c.next.ensures.steps in
    subst IsAlive (sym t.1) (All-from_recursion IsAlive c.args.lanes.items c.requires (length c.loop-level.yielded) c.in-Some.level t.0)

pub loop-level-preserved : goal.loop-level-preserved
loop-level-preserved c =
    subst (AllZip (IsClosed c.args.end) (c.loop-level.yielded ++ c.in-Some.level ∷ [])) (sym c.in-Ok.ensures.items)
    (all_zipped_more (IsClosed c.args.end) c.loop-level.yielded c.loop-level.tables.items c.in-Some.level c.in_ok-table.table c.loop-level.invariant c.in_ok-table.ensures)
