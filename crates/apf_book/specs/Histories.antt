-- The laws of histories, closed: no search looks into them, and a proof that needs one opens them.
use Rattle.std.specs.Prelude.{◌≡◌, ◌≢◌, ℕ, ◌+◌, ◌-◌, ◌*◌, ◌<◌, ◌≤◌, List, ◌∷◌, ◌++◌, length, Contains, Some, None}
use Rattle.apf_history.specs.declared.events.Event.{Event}
use Rattle.apf_history.specs.declared.events.Event.TheVariants.{Enter}
use Rattle.apf_history.specs.declared.events.Charge.{Charge}
use Rattle.apf_history.specs.declared.events.LogEntry.{LogEntry}
use Rattle.apf_history.specs.Standing.{EachNames}
use Rattle.apf_model.specs.Charged.{events, charged_numbers, log_of, runs, charge_of, IsAmong, IsSettled}
use Rattle.apf_model.specs.World.{width}
use Rattle.apf_model.specs.History.{waiting, MayFollow, IsLegal}
use Rattle.apf_model.specs.Fair.{IsFair, numbers, service, IsNeverEmpty, widest, DifferAtMost}
use Rattle.apf_model.specs.Waits.{total_width, granted}
use Rattle.apf_model.specs.Order.{AreInOrder, AreStatuses, AreCounted, Follows}

-- the laws of every legal history
pub record Laws : Type 0 where
  pub beginnings : (hands : ℕ → List ℕ) (limit : ℕ) (later earlier : List Event) → IsLegal hands limit (later ++ earlier) → IsLegal hands limit earlier
  pub order : (hands : ℕ → List ℕ) (limit : ℕ) (h : List Event) → IsLegal hands limit h → AreInOrder limit h
  pub statuses : (hands : ℕ → List ℕ) (limit : ℕ) (h : List Event) → IsLegal hands limit h → AreStatuses h
  pub numbers : (hands : ℕ → List ℕ) (limit : ℕ) (h : List Event) → IsLegal hands limit h → AreCounted h
  pub follows : (hands : ℕ → List ℕ) (limit : ℕ) (h : List Event) (e : Event) → IsLegal hands limit h → MayFollow hands limit h e → Follows h e

-- the same, closed
unfoldable pub LegalLaws : Type 0
LegalLaws = Laws

-- the law of every fair history, of two services
abbrev pub Balanced : Type 0
Balanced = (queues : ℕ) (widths : List ℕ) (hands : ℕ → List ℕ) (limit : ℕ) (later stretch earlier : List Event) (a b : ℕ)
    → IsFair queues widths hands limit (later ++ (stretch ++ earlier)) → a < queues → b < queues
    → IsNeverEmpty (stretch ++ earlier) (length stretch) a → IsNeverEmpty (stretch ++ earlier) (length stretch) b
    → DifferAtMost (2 * widest widths) (service widths stretch a) (service widths stretch b)

-- the same, closed
unfoldable pub FairLaw : Type 0
FairLaw = Balanced

-- the law of every fair history, of a queue that is never empty and another
abbrev pub Isolated : Type 0
Isolated = (queues : ℕ) (widths : List ℕ) (hands : ℕ → List ℕ) (limit : ℕ) (later stretch earlier : List Event) (q other : ℕ)
    → IsFair queues widths hands limit (later ++ (stretch ++ earlier)) → q < queues → other < queues
    → IsNeverEmpty (stretch ++ earlier) (length stretch) q
    → service widths stretch other ≤ service widths stretch q + 2 * widest widths

-- the same, closed
unfoldable pub IsolationLaw : Type 0
IsolationLaw = Isolated

-- the laws of a request that entered and waits still
pub record Waits : Type 0 where
  pub own : (queues : ℕ) (widths : List ℕ) (hands : ℕ → List ℕ) (limit : ℕ) (later stretch earlier : List Event) (q r : ℕ)
      → IsFair queues widths hands limit (later ++ (stretch ++ Enter r q ∷ earlier)) → Contains (waiting (stretch ++ Enter r q ∷ earlier) q) r
      → service widths stretch q ≤ total_width widths (waiting earlier q)
  pub others : (queues : ℕ) (widths : List ℕ) (hands : ℕ → List ℕ) (limit : ℕ) (later stretch earlier : List Event) (q r : ℕ)
      → IsFair queues widths hands limit (later ++ (stretch ++ Enter r q ∷ earlier)) → Contains (waiting (stretch ++ Enter r q ∷ earlier) q) r
      → q < queues → (other : ℕ) → other < queues → service widths stretch other ≤ total_width widths (waiting earlier q) + 2 * widest widths
  pub all : (queues : ℕ) (widths : List ℕ) (hands : ℕ → List ℕ) (limit : ℕ) (later stretch earlier : List Event) (q r : ℕ)
      → IsFair queues widths hands limit (later ++ (stretch ++ Enter r q ∷ earlier)) → Contains (waiting (stretch ++ Enter r q ∷ earlier) q) r
      → q < queues → granted queues widths stretch ≤ total_width widths (waiting earlier q) + (queues - 1) * (total_width widths (waiting earlier q) + 2 * widest widths)

-- the same, closed
unfoldable pub WaitLaws : Type 0
WaitLaws = Waits

-- the laws of every settled log: it stands if the hand or the cost of a request changes that it does not name. What a queue is charged for a request is charged for one that executes from that queue, and is part of the queue's number
pub record Stands : Type 0 where
  pub stands : (queues : ℕ) (costs costs' : List ℕ) (hands hands' : ℕ → List ℕ) (limit : ℕ) (l : List LogEntry)
      → EachNames (λ r. hands' r ≡ hands r) (events l) → EachNames (λ r. width costs' r ≡ width costs r) (events l)
      → IsSettled queues costs hands limit l → IsSettled queues costs' hands' limit l
  pub numbers : (queues : ℕ) (costs costs' : List ℕ) (l : List LogEntry) → EachNames (λ r. width costs' r ≡ width costs r) (events l)
      → charged_numbers queues costs' l ≡ charged_numbers queues costs l
  pub charges : (costs costs' : List ℕ) (l : List LogEntry) → EachNames (λ r. width costs' r ≡ width costs r) (events l)
      → (r : ℕ) → charge_of costs' l r ≡ charge_of costs l r
  pub among : (costs : List ℕ) (l : List LogEntry) (r : ℕ) (c : Charge)
      → charge_of costs l r ≡ Some c → IsAmong r c.amount (runs costs l c.queue)
  pub unnamed : (queues : ℕ) (costs : List ℕ) (hands : ℕ → List ℕ) (limit : ℕ) (l : List LogEntry) (r : ℕ)
      → IsSettled queues costs hands limit l → EachNames (λ j. j ≢ r) (events l) → charge_of costs l r ≡ None
  pub covered : (queues : ℕ) (costs : List ℕ) (hands : ℕ → List ℕ) (limit : ℕ) (l : List LogEntry) (q r k : ℕ)
      → IsSettled queues costs hands limit l → IsAmong r k (runs costs l q)
      → k ≤ (charged_numbers queues costs l).next q
  pub from_queue : (queues : ℕ) (costs : List ℕ) (hands : ℕ → List ℕ) (limit : ℕ) (l : List LogEntry) (r k q : ℕ)
      → IsSettled queues costs hands limit l → IsAmong r k (runs costs l q) → q < queues

-- the same, closed
unfoldable pub StandingLaw : Type 0
StandingLaw = Stands

-- the law of a log in which nothing is settled: it is its history, has its numbers, and is settled only if that is fair
pub record Unsettled : Type 0 where
  pub same : (h : List Event) → events (log_of h) ≡ h
  pub numbers : (queues : ℕ) (costs : List ℕ) (h : List Event) → charged_numbers queues costs (log_of h) ≡ numbers queues costs h
  pub fair : (queues : ℕ) (costs : List ℕ) (hands : ℕ → List ℕ) (limit : ℕ) (h : List Event) → IsSettled queues costs hands limit (log_of h) → IsFair queues costs hands limit h

-- the same, closed
unfoldable pub UnsettledLaw : Type 0
UnsettledLaw = Unsettled
