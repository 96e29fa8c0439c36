-- Each Pass so far has its token, in their order.
use Rattle.std.proofs.Common.{◌≡◌, ◌++◌, All}
use Rattle.std.specs.Vec.Iter.{into_iter_items}
use Rattle.apf_gate.specs.declared.record.State.TheVariants.{Fresh}
use Rattle.apf_gate.specs.Tokens.{PassToken}
use Rattle.apf_level.proofs.life.level.unheld.Given as goal

abbrev pub invariant-loop-pass : goal.invariant-loop-pass
invariant-loop-pass l =
    record {
      all : l.slots.items ++ into_iter_items l.pass-iterator ≡ l.fn.passes.items;
      fresh : All (λ (t : PassToken). t.pass.state ≡ Fresh) (into_iter_items l.pass-iterator);
    }
