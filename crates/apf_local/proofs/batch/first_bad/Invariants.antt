-- The widths so far are in range.
use Rattle.std.proofs.Common.{ℕ, ◌<◌, ◌≡◌, Some}
use Rattle.std.specs.Prelude.{slice_get}
use Rattle.apf_gate.specs.Opens.{IsWidth}
use Rattle.apf_local.specs.declared.answer.Ask.{Ask}
use Rattle.apf_local.proofs.batch.first_bad.Given as goal

abbrev pub invariant-loop-request : goal.invariant-loop-request
invariant-loop-request l = record {
  good : (i : ℕ) (a : Ask) → i < l.request → slice_get l.asks i ≡ Some a → IsWidth a.width;
}
