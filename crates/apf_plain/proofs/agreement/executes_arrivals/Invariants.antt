-- So each request so far.
use Rattle.std.proofs.Common.{◌≡◌, ◌<◌, ℕ, true, false, Some}
use Rattle.apf_words.specs.declared.decision.Decision.TheVariants.{Execute}
use Rattle.apf_plain.specs.Histories.{decision_in, took_in, has_dispatch}
use Rattle.apf_plain.proofs.agreement.executes_arrivals.Given as goal

abbrev pub invariant-loop-request : goal.invariant-loop-request
invariant-loop-request l = (r : ℕ) → r < l.request → decision_in l.decisions r ≡ Some Execute → took_in l.took r ≡ false → has_dispatch l.history r ≡ true
