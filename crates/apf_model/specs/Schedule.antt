-- Schedules: steps by any actors in any order, each allowed where it comes. The newest step comes first in the list.
use Rattle.std.specs.Prelude.{◌≡◌, ℕ, ◌<◌, ◌≤◌, ◌==◌, Bool, false, List, [], ◌∷◌, length}
use Rattle.apf_words.specs.Limits.{max_width, max_cost}
use Rattle.apf_model.specs.declared.moves.Move.{Move}
use Rattle.apf_model.specs.declared.moves.Move.TheVariants.{Take, Enter, Grant, Leave, Decide, Release}
use Rattle.apf_model.specs.World.{Opening, World, opening_world, width, seats, IsStanding, Allowed, after}

-- the world after these steps
abbrev pub world : Opening → List Move → World
world o [] = opening_world o
world o (m ∷ ms) = after m (world o ms)

-- each step is allowed in the world that the steps before it made
abbrev pub IsSchedule : Opening → List Move → Type 0
IsSchedule o [] = Unit {0}
IsSchedule o (m ∷ ms) = Allowed o.widths m (world o ms) × IsSchedule o ms

-- the widths that requests have: 1 to 20,000
abbrev pub AreWidths : List ℕ → Type 0
AreWidths widths = (r : ℕ) → r < length widths → (1 ≤ width widths r) × (width widths r ≤ max_width)

-- the costs that requests have: 1 to 4,294,967,295
abbrev pub AreCosts : List ℕ → Type 0
AreCosts costs = (r : ℕ) → r < length costs → (1 ≤ width costs r) × (width costs r ≤ max_cost)

-- r stands, is wider than the largest limit so far, and nobody else stands
pub record StandsAlone (widths : List ℕ) (w : World) (r : ℕ) : Type 0 where
  pub is_request : r < length widths
  pub is_standing : IsStanding w r
  pub is_over_wide : w.largest < width widths r
  pub is_alone : (j : ℕ) → j < length widths → IsStanding w j → j ≡ r

-- if the seats exceed the largest limit so far, exactly one grant stands and its width exceeds that
abbrev pub Alone : List ℕ → World → Type 0
Alone widths w = w.largest < seats widths w → (r : ℕ) × StandsAlone widths w r

-- the steps of one request, by kind
abbrev pub takes : ℕ → Move → Bool
takes r (Take j) = j == r
takes r _ = false

abbrev pub enters : ℕ → Move → Bool
enters r (Enter j) = j == r
enters r _ = false

-- a Take or an Enter
abbrev pub arrives : ℕ → Move → Bool
arrives r (Take j) = j == r
arrives r (Enter j) = j == r
arrives r _ = false

abbrev pub is_granted : ℕ → Move → Bool
is_granted r (Grant j) = j == r
is_granted r _ = false

abbrev pub leaves : ℕ → Move → Bool
leaves r (Leave j) = j == r
leaves r _ = false

abbrev pub is_decided : ℕ → Move → Bool
is_decided r (Decide j d) = j == r
is_decided r _ = false

abbrev pub releases : ℕ → Move → Bool
releases r (Release j) = j == r
releases r _ = false
