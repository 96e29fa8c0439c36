use Rattle.std.proofs.Common.{◌≡◌, ◌++◌, All, map}
use Rattle.std.specs.Vec.Iter.{into_iter_items}
use Rattle.apf_gate.specs.Tokens.{PassToken, pass_gate}
use Rattle.apf_level.specs.UnderLock.{desk_in, IsUnderLockOf}
use Rattle.apf_level.specs.Tokens.{IsDone}
use Rattle.apf_level.specs.Heard.{IsHeard, GoOnFrom, outcome_of}
use Rattle.apf_level.proofs.hearing.gather.Given as goal

abbrev pub invariant-loop-done : goal.invariant-loop-done
invariant-loop-done g l =
    record {
      all : map outcome_of l.passes.items ++ map outcome_of (into_iter_items l.done-iterator) ≡ map outcome_of l.fn.dones.items;
      under_lock : IsUnderLockOf g.K.Naming.level l.under_lock;
      rest : All (λ (t : PassToken). pass_gate t ≡ g.K.Naming.level.gate) (into_iter_items l.done-iterator);
      done : All IsDone l.passes.items;
      heard : All (IsHeard (desk_in l.under_lock).desk) l.passes.items;
      go_on : GoOnFrom l.fn.dones.items l.passes.items (into_iter_items l.done-iterator);
    }
