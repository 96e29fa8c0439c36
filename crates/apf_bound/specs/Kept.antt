-- What is kept of a log, for both sides of the bound.
use Rattle.std.specs.Prelude.{◌≡◌, ℕ, ◌+◌, ◌*◌, ◌^◌, ◌<◌, ◌≤◌, List, length, count_by}
use Rattle.apf_history.specs.declared.events.Event.{Event}
use Rattle.apf_history.specs.declared.events.LogEntry.{LogEntry}
use Rattle.apf_history.specs.Numbered.{width}
use Rattle.apf_history.specs.History.{waiting, IsLegal}
use Rattle.apf_history.specs.Order.{is_enter_into, is_dispatch_from, is_strike_from}
use Rattle.apf_history.specs.Charged.{IsSettled, AreMeasures, SpendsWithin}
use Rattle.apf_bound.specs.Bounds.{largest_cost}
use Rattle.apf_bound.specs.Stretched.{StretchesView, AreStretchesOf}
use Rattle.apf_bound.specs.Misjudged.{JudgedView, IsJudgedOf}

-- the costs, the measures and what is charged in place of costs are so low, and the log is so short, that no sum of them passes 64 bits
pub record IsRanged (costs : List ℕ) (measure : ℕ → ℕ) (l : List LogEntry) : Type 0 where
  pub most : ℕ
  pub low_costs : (r : ℕ) → width costs r ≤ most
  pub low_measures : (r : ℕ) → measure r ≤ most
  pub low_charges : SpendsWithin most (λ r. 1) l
  pub few : 2 * (length l * most) < 2 ^ 64
  pub short : length l < 2 ^ 64

-- what is stored
pub record BoundView : Type 0 where
  pub stretches : StretchesView
  pub judged : JudgedView
  pub largest_cost : ℕ

-- of how many queues it is
abbrev pub queues_of : BoundView → ℕ
queues_of b = b.stretches.queues

-- something is stored for each queue
pub record IsShaped (b : BoundView) : Type 0 where
  pub waiting : length b.stretches.waiting ≡ b.stretches.queues
  pub waited : length b.stretches.waited ≡ b.stretches.queues
  pub taken : length b.judged.taken ≡ b.stretches.queues
  pub charged : length b.judged.charged ≡ b.stretches.queues

-- both sides, as they are stored, are those of this log
pub record AreSidesOf (costs : List ℕ) (measure : ℕ → ℕ) (l : List LogEntry) (b : BoundView) : Type 0 where
  pub stretches : AreStretchesOf measure l b.stretches
  pub judged : IsJudgedOf costs measure l b.judged
  pub largest_cost : b.largest_cost ≡ largest_cost costs l

-- if this is a settled log, of requests that have these costs and took this, and all of that is in range, then what is stored is that of this log
unfoldable pub IsKeptOf : (costs : List ℕ) (measure : ℕ → ℕ) (hands : ℕ → List ℕ) (limit : ℕ) → List LogEntry → BoundView → Type 0
IsKeptOf costs measure hands limit l b = IsSettled (queues_of b) costs hands limit l → AreMeasures measure l → IsRanged costs measure l → AreSidesOf costs measure l b

-- in every legal history, as many entered a queue as were dispatched from it, were struck out of it, and wait in it
abbrev pub Counts : Type 0
Counts = (hands : ℕ → List ℕ) (limit : ℕ) (h : List Event) (q : ℕ) → IsLegal hands limit h
    → count_by (is_enter_into q) h ≡ count_by (is_dispatch_from q) h + count_by (is_strike_from q) h + length (waiting h q)

-- the same, closed to searches
unfoldable pub CountLaw : Type 0
CountLaw = Counts
