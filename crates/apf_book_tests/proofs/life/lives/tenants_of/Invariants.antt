-- Each Pass that is left is fresh, and there are as many tenants as Passes that are gone.
use Rattle.std.proofs.Common.{◌≡◌, ◌+◌, length, All}
use Rattle.apf_gate.specs.declared.record.State.TheVariants.{Fresh}
use Rattle.apf_gate.specs.Tokens.{pass_gate}
use Rattle.apf_book_tests.proofs.life.lives.tenants_of.Given as goal

abbrev pub invariant-loop-pass : goal.invariant-loop-pass
invariant-loop-pass g l =
    (length l.tenants.items + length l.passes.items ≡ length l.fn.passes.items)
    × All (λ t. (pass_gate t ≡ g.K.Mark.gate) × (t.pass.state ≡ Fresh)) l.passes.items

abbrev pub decreases-loop-pass : goal.decreases-loop-pass
decreases-loop-pass g l = length l.passes.items
