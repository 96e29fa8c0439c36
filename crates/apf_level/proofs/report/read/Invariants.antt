use Rattle.std.proofs.Common.{◌≡◌, ◌<◌, ℕ, length}
use Rattle.std.specs.Prelude.{slice_get}
use Rattle.apf_book.specs.Laws.{decision_in}
use Rattle.apf_level.specs.Reports.{AreSums}
use Rattle.apf_level.proofs.report.read.Given as goal

abbrev pub invariant-loop-request : goal.invariant-loop-request
invariant-loop-request l =
    record {
      count : length l.decisions.items ≡ l.request;
      decisions : (r : ℕ) → r < l.request → slice_get l.decisions.items r ≡ decision_in l.fn.words r;
      sums : AreSums l.counts (decision_in l.fn.words) l.request;
    }
