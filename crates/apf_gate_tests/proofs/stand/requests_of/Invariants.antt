-- There are as many requests as Passes that are gone, each of the gate.
use Rattle.std.proofs.Common.{◌≡◌, ◌+◌, length, All}
use Rattle.apf_gate.specs.declared.record.State.TheVariants.{Fresh}
use Rattle.apf_gate.specs.Tokens.{pass_gate}
use Rattle.apf_gate_tests.proofs.stand.requests_of.Given as goal

abbrev pub invariant-loop-pass : goal.invariant-loop-pass
invariant-loop-pass g l =
    (length l.requests.items + length l.passes.items ≡ length l.fn.passes.items)
    × All (λ t. (pass_gate t ≡ l.gate) × (t.pass.state ≡ Fresh)) l.passes.items
    × All (λ r. pass_gate r.pass ≡ l.gate) l.requests.items

abbrev pub decreases-loop-pass : goal.decreases-loop-pass
decreases-loop-pass g l = length l.passes.items
