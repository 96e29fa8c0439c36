-- How many requests are decided so.
use Rattle.std.specs.Prelude.{◌≡◌, ℕ, ◌+◌, List, [], ◌∷◌, length, Option, Some, None}
use Rattle.apf_words.specs.declared.decision.Decision.{Decision}
use Rattle.apf_words.specs.declared.decision.Decision.TheVariants.{Execute, QueueFull, Closed, Cancelled, ConcurrencyLimit}
use Rattle.apf_model.specs.Outcome.{decided_at}
use Rattle.apf_gate.specs.declared.counts.Counts.{Counts}

-- one decision more
abbrev pub counted : Counts → Decision → Counts
counted c Execute = record c { executed = c.executed + 1 }
counted c QueueFull = record c { queue_full = c.queue_full + 1 }
counted c Closed = record c { closed = c.closed + 1 }
counted c Cancelled = record c { cancelled = c.cancelled + 1 }
counted c ConcurrencyLimit = record c { concurrency_limit = c.concurrency_limit + 1 }

-- and where one was found
abbrev pub counted_if : Counts → Option Decision → Counts
counted_if c None = c
counted_if c (Some decision) = counted c decision

-- two of them together
abbrev pub added : Counts → Counts → Counts
added c e = record {
  executed = c.executed + e.executed;
  queue_full = c.queue_full + e.queue_full;
  closed = c.closed + e.closed;
  concurrency_limit = c.concurrency_limit + e.concurrency_limit;
  cancelled = c.cancelled + e.cancelled;
}

-- all five together: the executed, the rejected and the cancelled
abbrev pub total : Counts → ℕ
total c = c.executed + c.queue_full + c.closed + c.concurrency_limit + c.cancelled

-- how many of these requests are decided so
abbrev pub decided_so : Decision → List (ℕ × Decision) → ℕ
decided_so d [] = 0
decided_so d (one ∷ others) = decided_at d (Some one.1) + decided_so d others

-- the numbers of these decisions, which sum to the number of requests
pub record AreCounts (c : Counts) (decisions : List (ℕ × Decision)) : Type 0 where
  pub executed : c.executed ≡ decided_so Execute decisions
  pub queue_full : c.queue_full ≡ decided_so QueueFull decisions
  pub closed : c.closed ≡ decided_so Closed decisions
  pub concurrency_limit : c.concurrency_limit ≡ decided_so ConcurrencyLimit decisions
  pub cancelled : c.cancelled ≡ decided_so Cancelled decisions
  pub all : total c ≡ length decisions
