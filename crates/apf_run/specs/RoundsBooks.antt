-- What the book of a run in rounds says.
use Rattle.apf_line.specs.declared.report.Report.{Report}
use Rattle.apf_texts.specs.declared.totals.Totals.{Totals}

-- by its word, the numbers of the decisions of all requests, of whom nobody is undecided, and the numbers of all events
abbrev pub book_of : Report → Totals
book_of r =
    record {
      closed = r.words.level.closed;
      seats = r.words.level.seats;
      waiters = r.words.level.waiters;
      counts = r.words.counts;
      undecided = 0;
      entered = r.newest.stats.entered;
      dispatched = r.newest.stats.dispatched;
      struck = r.newest.stats.struck;
    }
