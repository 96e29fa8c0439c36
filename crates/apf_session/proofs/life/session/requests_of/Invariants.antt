-- The slots so far have the tokens that are gone, in their order, and each token that is left is the level's. All are free.
use Rattle.std.proofs.Common.{◌≡◌, ◌++◌, map, All}
use Rattle.std.specs.Vec.Iter.{into_iter_items}
use Rattle.apf_gate.specs.Tokens.{pass_gate}
use Rattle.apf_session.specs.LifeRequests.{AreFree, free_slot}
use Rattle.apf_session.proofs.life.session.requests_of.Given as goal

abbrev pub invariant-loop-done : goal.invariant-loop-done
invariant-loop-done g l =
    record {
      next : (goal.iterator-loop-done g).can_next l.done-iterator;
      ends : (goal.iterator-loop-done g).is_finite l.done-iterator;
      all : l.requests.items ++ map free_slot (into_iter_items l.done-iterator) ≡ map free_slot l.fn.dones.items;
      own : All (λ t. pass_gate t ≡ g.K.Naming.level.gate) (into_iter_items l.done-iterator);
      free : AreFree l.requests.items;
    }
