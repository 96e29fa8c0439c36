-- Both sides of the bound on how far the seat-times of two queues come apart: the largest difference that there is in a log, and what it may be. The newest entry of a log comes first.
use Rattle.std.specs.Prelude.{◌≡◌, ◌≢◌, ℕ, ◌+◌, ◌<◌, ◌≤◌, ◌⊎◌, max, List, [], ◌∷◌, ◌++◌, length, Option, Some, None}
use Rattle.apf_history.specs.declared.events.Event.{Event}
use Rattle.apf_history.specs.declared.events.Event.TheVariants.{Enter}
use Rattle.apf_history.specs.declared.events.LogEntry.{LogEntry}
use Rattle.apf_history.specs.declared.events.LogEntry.TheVariants.{Happens, Spends, Settles}
use Rattle.apf_history.specs.Numbered.{width}
use Rattle.apf_history.specs.History.{waiting}
use Rattle.apf_history.specs.Charged.{events, seat_time, AreJudged, IsNeverEmptyIn}
use Rattle.apf_bound.specs.declared.furthest.Furthest.{Furthest}
use Rattle.apf_bound.specs.declared.bound.Sides.{Sides}

-- a stretch of a log in which a is never empty, both ends included
pub record IsStretch (l : List LogEntry) (a : ℕ) (later stretch earlier : List LogEntry) : Type 0 where
  pub is : l ≡ later ++ (stretch ++ earlier)
  pub never_empty : IsNeverEmptyIn (stretch ++ earlier) (length stretch) a

-- in some stretch in which a is never empty, the requests dispatched from b take just so much more seat-time than those dispatched from a
pub record IsAhead (measure : ℕ → ℕ) (l : List LogEntry) (a b ahead : ℕ) : Type 0 where
  pub later : List LogEntry
  pub stretch : List LogEntry
  pub earlier : List LogEntry
  pub is_stretch : IsStretch l a later stretch earlier
  pub by : seat_time measure stretch b ≡ seat_time measure stretch a + ahead

-- of two of these queues it is so, and in no stretch in which any queue is never empty do another one's requests take more than so much more. Of pairs that come equally far it is the first, by its first queue and then by its second
pub record IsFurthest (queues : ℕ) (measure : ℕ → ℕ) (l : List LogEntry) (f : Furthest) : Type 0 where
  pub is_busy : f.busy < queues
  pub is_other : f.other < queues
  pub are_two : f.busy ≢ f.other
  pub attained : IsAhead measure l f.busy f.other f.ahead
  pub most : (a b : ℕ) (later stretch earlier : List LogEntry) → a < queues → b < queues → IsStretch l a later stretch earlier
      → seat_time measure stretch b ≤ seat_time measure stretch a + f.ahead
  pub first : (a b : ℕ) → a < queues → b < queues → a ≢ b → IsAhead measure l a b f.ahead → (f.busy ≤ a) × (f.busy ≡ a → f.other ≤ b)

-- there is no such pair: there is one queue at most, or no queue is ever waited in
abbrev pub NoneIsAhead : ℕ → List LogEntry → Type 0
NoneIsAhead queues l = (queues ≤ 1) ⊎ ((a : ℕ) (later earlier : List LogEntry) → a < queues → l ≡ later ++ earlier → waiting (events earlier) a ≡ [])

-- what came nearest
abbrev pub IsNearest : ℕ → (ℕ → ℕ) → List LogEntry → Option Furthest → Type 0
IsNearest queues measure l None = NoneIsAhead queues l
IsNearest queues measure l (Some f) = IsFurthest queues measure l f

-- the largest cost, after an event
abbrev pub cost_after : List ℕ → Event → ℕ → ℕ
cost_after costs (Enter r q) largest = max largest (width costs r)
cost_after costs _ largest = largest

-- the largest cost of those that entered a queue
abbrev pub largest_cost : List ℕ → List LogEntry → ℕ
largest_cost costs [] = 0
largest_cost costs (Happens e ∷ l) = cost_after costs e (largest_cost costs l)
largest_cost costs (Spends r q old new ∷ l) = largest_cost costs l
largest_cost costs (Settles r q old new ∷ l) = largest_cost costs l

-- what executes is misjudged by at most so much at each place, and by no less
pub record IsLeastSlack (costs : List ℕ) (measure : ℕ → ℕ) (l : List LogEntry) (slack : ℕ) : Type 0 where
  pub judged : AreJudged slack costs measure l
  pub least : (other : ℕ) → AreJudged other costs measure l → slack ≤ other

-- both sides of the bound
pub record AreSides (queues : ℕ) (costs : List ℕ) (measure : ℕ → ℕ) (l : List LogEntry) (s : Sides) : Type 0 where
  pub nearest : IsNearest queues measure l s.furthest
  pub largest_cost : s.largest_cost ≡ largest_cost costs l
  pub slack : IsLeastSlack costs measure l s.slack
