-- So each request so far.
use Rattle.std.proofs.Common.{◌≡◌, ◌<◌, ℕ, true, Some}
use Rattle.apf_words.specs.declared.decision.Decision.TheVariants.{QueueFull}
use Rattle.apf_plain.specs.Histories.{decision_in, has_full}
use Rattle.apf_plain.proofs.agreement.has_each_full.Given as goal

abbrev pub invariant-loop-request : goal.invariant-loop-request
invariant-loop-request l = (r : ℕ) → r < l.request → decision_in l.decisions r ≡ Some QueueFull → has_full l.history r ≡ true
