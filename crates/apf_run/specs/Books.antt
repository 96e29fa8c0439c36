-- What the book of a level says.
use Rattle.std.specs.Prelude.{ℕ}
use Rattle.apf_words.specs.Level.{Level}
use Rattle.apf_book.specs.declared.life_stats.LifeStats.{LifeStats}
use Rattle.apf_book.specs.declared.stats.Stats.{Stats}
use Rattle.apf_gate.specs.declared.counts.Counts.{Counts}
use Rattle.apf_level.specs.declared.report.Counts.{Counts as BatchCounts}
use Rattle.apf_level.specs.declared.report.Report.{Report}
use Rattle.apf_texts.specs.declared.totals.Totals.{Totals}

-- the numbers of a batch's decisions, as those of a level for life
abbrev pub wide_counts : BatchCounts → Counts
wide_counts counts =
    record {
      executed = counts.executed;
      queue_full = counts.queue_full;
      closed = counts.closed;
      concurrency_limit = counts.concurrency_limit;
      cancelled = counts.cancelled;
    }

-- by its word, the numbers of the decisions, how many are undecided, and the numbers of the log
abbrev pub totals_so_far : Level → BatchCounts → ℕ → LifeStats → Totals
totals_so_far level counts undecided stats =
    record {
      closed = level.closed;
      seats = level.seats;
      waiters = level.waiters;
      counts = wide_counts counts;
      undecided = undecided;
      entered = stats.entered;
      dispatched = stats.dispatched;
      struck = stats.struck;
    }

-- the same, of the log of a level of threads
abbrev pub totals_of : Level → BatchCounts → ℕ → Stats → Totals
totals_of level counts undecided stats = totals_so_far level counts undecided (record { entered = stats.entered; dispatched = stats.dispatched; struck = stats.struck; full = stats.full })

-- of a run: nobody is undecided
abbrev pub book_of : Report → Totals
book_of r = totals_of r.word r.counts 0 r.stats
