-- What is printed behind the flows: the book of a level, and both sides of the bound.
use Rattle.std.specs.Prelude.{◌≡◌, ℕ, ◌+◌, ◌*◌, List, [], ◌++◌, Option, Some, None, codes, decimal}
use Rattle.apf_bound.specs.declared.bound.Sides.{Sides}
use Rattle.apf_bound.specs.declared.furthest.Furthest.{Furthest}
use Rattle.apf_gate.specs.declared.counts.Counts.{Counts}
use Rattle.apf_line.specs.declared.report.Report.{Report}
use Rattle.apf_rows.specs.declared.sums.Sums.{Sums}
use Rattle.apf_texts.specs.declared.totals.Totals.{Totals}

-- by its word, the numbers of the decisions of all requests, of whom nobody is undecided, and the numbers of all events
abbrev pub book_of : Report → Totals
book_of r =
    record {
      closed = r.words.level.closed;
      seats = r.words.level.seats;
      waiters = r.words.level.waiters;
      counts = r.words.counts;
      undecided = 0;
      entered = r.newest.stats.entered;
      dispatched = r.newest.stats.dispatched;
      struck = r.newest.stats.struck;
    }

-- by the rows just as many requests were executed, rejected and cancelled as by the book
pub record AreOfBook (sums : Sums) (counts : Counts) : Type 0 where
  pub executed : sums.executed ≡ counts.executed
  pub rejected : sums.rejected ≡ counts.queue_full + counts.closed + counts.concurrency_limit
  pub cancelled : sums.cancelled ≡ counts.cancelled

-- the pair of queues that came furthest apart, and by how much
unfoldable pub furthest_text : Furthest → List ℕ
furthest_text f = codes "bound " ++ decimal f.busy ++ codes " " ++ decimal f.other ++ codes " " ++ decimal f.ahead

-- the other side, with what it is made of
unfoldable pub other_text : (cost slack limit : ℕ) → List ℕ
other_text cost slack limit = codes " cost " ++ decimal cost ++ codes " misjudged " ++ decimal slack ++ codes " limit " ++ decimal limit ++ codes "\n"

-- the line of both sides: the other one is twice the largest cost, and three times what requests are misjudged by
abbrev pub sides_line : Option Furthest → Sides → List ℕ
sides_line None s = codes "bound none\n"
sides_line (Some f) s = furthest_text f ++ other_text s.largest_cost s.slack (2 * s.largest_cost + 3 * s.slack)

-- that line, if both sides were kept
abbrev pub sides_text : Option Sides → List ℕ
sides_text None = []
sides_text (Some s) = sides_line s.furthest s
