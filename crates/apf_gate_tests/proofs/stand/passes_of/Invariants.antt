-- There are as many Passes as requests that are gone, each of the gate.
use Rattle.std.proofs.Common.{◌≡◌, ◌+◌, length, All}
use Rattle.apf_gate.specs.Tokens.{pass_gate}
use Rattle.apf_gate_tests.proofs.stand.passes_of.Given as goal

abbrev pub invariant-loop-request : goal.invariant-loop-request
invariant-loop-request g l =
    (length l.passes.items + length l.requests.items ≡ length l.fn.requests.items)
    × All (λ r. pass_gate r.pass ≡ l.gate) l.requests.items
    × All (λ t. pass_gate t ≡ l.gate) l.passes.items

abbrev pub decreases-loop-request : goal.decreases-loop-request
decreases-loop-request g l = length l.requests.items
