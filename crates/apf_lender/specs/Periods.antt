-- What the requests of a level ask for, and what the level claims by that.
use Rattle.std.specs.Prelude.{◌≡◌, ℕ, ◌+◌, ◌*◌, ◌<◌, ◌≤◌, List, [], ◌∷◌}
use Rattle.apf_lending.specs.Demands.{AreAsked, DemandView, IsObserved, Stretch, length_of, max_asked, max_period, smoothed_with}
use Rattle.apf_lending.specs.declared.claim.Claim.{Claim}
use Rattle.apf_lending.specs.declared.demand.Observed.{Observed}
use Rattle.apf_lender.specs.Bounds.{AreBounds, claim_of}
use Rattle.apf_lender.specs.declared.bounds.Bounds.{Bounds}

-- What contracts see of a level: its bounds, what its requests ask for in this period, and what they asked for before that, in thousandths of a seat.
pub record AskingView : Type 0 where
  pub bounds : Bounds
  pub demand : DemandView
  pub smoothed : ℕ

pub record IsAsking (a : AskingView) : Type 0 where
  pub bounds : AreBounds a.bounds
  pub few : a.smoothed ≤ 2000 * max_asked

-- from this time on the requests asked for the seats of each stretch, one after another, and each of them lasts
abbrev pub AskFor : (ℕ → ℕ) → ℕ → List Stretch → Type 0
AskFor seats_at from [] = Unit {0}
AskFor seats_at from (s ∷ stretches) = (1 ≤ s.micros) × ((time : ℕ) → from ≤ time → time < from + s.micros → seats_at time ≡ s.seats) × AskFor seats_at (from + s.micros) stretches

-- at each time since the period began the requests asked for so many seats, and from the last change on they ask for as many
pub record Follows (seats_at : ℕ → ℕ) (a : AskingView) : Type 0 where
  pub order : a.demand.began ≤ a.demand.since
  pub stretches : List Stretch
  pub asked : AreAsked stretches a.demand.seats a.demand.since a.demand
  pub before : AskFor seats_at a.demand.began stretches
  pub now : (time : ℕ) → a.demand.since ≤ time → seats_at time ≡ a.demand.seats

-- nobody asked for anything yet
pub record IsNew (bounds : Bounds) (at : ℕ) (a : AskingView) : Type 0 where
  pub same : a.bounds ≡ bounds
  pub began : a.demand.began ≡ at
  pub since : a.demand.since ≡ at
  pub seats : a.demand.seats ≡ 0
  pub none : a.smoothed ≡ 0
  pub nobody : (seats_at : ℕ → ℕ) → ((time : ℕ) → at ≤ time → seats_at time ≡ 0) → Follows seats_at a

-- from this time on the requests of the level ask for these seats
pub record AsksFor (at seats : ℕ) (a a' : AskingView) : Type 0 where
  pub forward : a.demand.since ≤ at
  pub bounds : a'.bounds ≡ a.bounds
  pub smoothed : a'.smoothed ≡ a.smoothed
  pub began : a'.demand.began ≡ a.demand.began
  pub since : a'.demand.since ≡ at
  pub seats_are : a'.demand.seats ≡ seats
  pub follows : (before after : ℕ → ℕ) → Follows before a → ((time : ℕ) → time < at → after time ≡ before time) → ((time : ℕ) → at ≤ time → after time ≡ seats) → Follows after a'

-- the requests ask for so many seats from this time on, and it is neither before the last change nor later than a period may last
pub record MayAsk (at seats : ℕ) (d : DemandView) : Type 0 where
  pub few : seats ≤ max_asked
  pub forward : d.since ≤ at
  pub short : at ≤ d.began + max_period

-- at each time between the two the requests asked for so many seats, and this is what was observed
pub record IsObservedOf (seats_at : ℕ → ℕ) (began at : ℕ) (o : Observed) : Type 0 where
  pub stretches : List Stretch
  pub ask : AskFor seats_at began stretches
  pub whole : began + length_of stretches ≡ at
  pub observed : IsObserved stretches o

-- by what its requests asked for between the two, and before that, the level claims this
pub record Claims (bounds : Bounds) (seats_at : ℕ → ℕ) (began at : ℕ) (before lately : ℕ) (claim : Claim) : Type 0 where
  pub observed : Observed
  pub is : IsObservedOf seats_at began at observed
  pub smoothed : lately ≡ smoothed_with before observed.mean observed.deviation
  pub claims : claim ≡ claim_of bounds observed.high lately

-- the period of the level ends at this time, and the next one begins, in which its requests ask for the same seats at first
pub record EndsPeriod (at : ℕ) (a a' : AskingView) (claim : Claim) : Type 0 where
  pub forward : a.demand.since ≤ at
  pub bounds : a'.bounds ≡ a.bounds
  pub began : a'.demand.began ≡ at
  pub since : a'.demand.since ≡ at
  pub seats : a'.demand.seats ≡ a.demand.seats
  pub follows : (seats_at : ℕ → ℕ) → Follows seats_at a → Follows seats_at a'
  pub claims : (seats_at : ℕ → ℕ) → Follows seats_at a → Claims a.bounds seats_at a.demand.began at a.smoothed a'.smoothed claim

-- the period may end at this time: it is later than its beginning, not before the last change, and not later than a period may last
pub record MayEnd (at : ℕ) (d : DemandView) : Type 0 where
  pub later : d.began < at
  pub forward : d.since ≤ at
  pub short : at ≤ d.began + max_period
