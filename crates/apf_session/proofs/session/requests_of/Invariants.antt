-- Each Pass that is left is fresh, its number is its place, and the requests are those of the Passes that are gone, the last one first.
use Rattle.std.proofs.Common.{◌≡◌, ℕ, ◌+◌, ◌<◌, length, slice_index_or, All}
use Rattle.apf_gate.specs.declared.record.State.TheVariants.{Fresh}
use Rattle.apf_gate.specs.Tokens.{pass_gate}
use Rattle.apf_session.specs.Requests.{RequestView, ArePassesNumbered, AreAway}
use Rattle.apf_session.proofs.session.requests_of.Given as goal

abbrev pub invariant-loop-pass : goal.invariant-loop-pass
invariant-loop-pass g l =
    record {
      count : length l.requests.items + length l.passes.items ≡ length l.fn.passes.items;
      fresh : All (λ t. (pass_gate t ≡ g.K.Naming.level.gate) × (t.pass.state ≡ Fresh)) l.passes.items;
      rest : ArePassesNumbered l.passes.items;
      numbered : (i : ℕ) (d : RequestView) → i < length l.requests.items → (slice_index_or l.requests.items i d).number + i + 1 ≡ length l.fn.passes.items;
      away : AreAway l.requests.items;
    }

abbrev pub decreases-loop-pass : goal.decreases-loop-pass
decreases-loop-pass g l = length l.passes.items
