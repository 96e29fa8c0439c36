use Rattle.std.proofs.Common.{rules, arith, ◌≡◌, ◌+◌, ◌∷◌, ◌++◌, [], List, length, ap, ◌∙◌}
use Rattle.std.specs.Vec.Iter.{into_iter_items}
use Rattle.std.proofs.lemmas.List.{length_push}
use Rattle.std.proofs.lemmas.List.Elements.{All-rest}
use Rattle.apf_run.specs.RoundsWorkers.{Load, IsReady, held}
use Rattle.apf_run.specs.Crews.{expected}
use Rattle.apf_run.proofs.Crews.{one_more_expected}
use Rattle.apf_run.proofs.rounds.crew.start_all.Goals as goal

pub loop-worker-preserved : goal.loop-worker-preserved
loop-worker-preserved g c =
    let was = c.loop-worker.invariant in
    let worker : Load = c.in-Some.worker in
    let rest : List Load = into_iter_items c.next.new.self in
    let step : into_iter_items c.loop-worker.worker-iterator ≡ worker ∷ rest = search rules in
    let handle = c.in_ok-handle.handle in
    let pushed : c.push.new.self.items ≡ c.loop-worker.handles.items ++ handle ∷ [] = search rules in
    let count : handle.promise.count ≡ length worker.slots = search rules in
    let more : expected c.push.new.self.items ≡ expected c.loop-worker.handles.items + handle.promise.count = ap expected pushed ∙ one_more_expected c.loop-worker.handles.items handle in
    let longer = ap length pushed ∙ length_push c.loop-worker.handles.items handle in
    let left = ap length step in
    let has : held (into_iter_items c.loop-worker.worker-iterator) ≡ length worker.slots + held rest = ap held step in record {
      next = search rules;
      ends = search rules;
      number = omega (arith, was.number, left);
      count = omega (arith, longer, was.count);
      expected_so_far = omega (arith, more, count, has, was.expected_so_far);
      ready = All-rest IsReady worker rest _ step was.ready;
    }
