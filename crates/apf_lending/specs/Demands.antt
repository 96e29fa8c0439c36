-- What the requests of a level asked for.
use Rattle.std.specs.Prelude.{ℕ, zero, suc, ◌++◌, ◌+◌, ◌*◌, ◌-◌, ◌/◌, ◌≡◌, ◌≤◌, ◌<◌, List, [], ◌∷◌, max}
use Rattle.apf_lending.specs.declared.demand.Observed.{Observed}

-- the longest period in microseconds, and the most seats that requests ask for at once
abbrev pub max_period : ℕ
max_period = 1000000000

abbrev pub max_asked : ℕ
max_asked = 17179869184

-- for how long the requests asked for how many seats
pub record Stretch : Type 0 where
  pub seats : ℕ
  pub micros : ℕ

-- the seats of each stretch times its length
abbrev pub area_of : List Stretch → ℕ
area_of [] = 0
area_of (s ∷ rest) = s.seats * s.micros + area_of rest

-- the squares of the seats of each stretch times its length
abbrev pub squares_of : List Stretch → ℕ
squares_of [] = 0
squares_of (s ∷ rest) = s.seats * s.seats * s.micros + squares_of rest

-- the most seats of all
abbrev pub high_of : List Stretch → ℕ
high_of [] = 0
high_of (s ∷ rest) = max s.seats (high_of rest)

-- how long all of them are
abbrev pub length_of : List Stretch → ℕ
length_of [] = 0
length_of (s ∷ rest) = s.micros + length_of rest

-- What contracts see of a demand.
pub record DemandView : Type 0 where
  pub seats : ℕ
  pub since : ℕ
  pub began : ℕ
  pub high : ℕ
  pub area : ℕ
  pub squares : ℕ

-- the bounds of what a demand keeps
pub record IsKept (d : DemandView) : Type 0 where
  pub few : d.seats ≤ max_asked
  pub high : d.high ≤ max_asked
  pub order : d.began ≤ d.since
  pub short : d.since ≤ d.began + max_period
  pub area : d.area ≤ max_asked * (d.since - d.began)
  pub squares : d.squares ≤ max_asked * max_asked * (d.since - d.began)

-- these are the stretches of the period so far, and now the requests ask for these seats
pub record AreAsked (stretches : List Stretch) (seats since : ℕ) (d : DemandView) : Type 0 where
  pub now : d.seats ≡ seats
  pub until : d.since ≡ since
  pub whole : length_of stretches ≡ d.since - d.began
  pub high : d.high ≡ high_of stretches
  pub area : d.area ≡ area_of stretches
  pub squares : d.squares ≡ squares_of stretches

-- these, and then these seats for so long, which is a stretch of its own only if it lasts
abbrev pub then_asked : List Stretch → (seats micros : ℕ) → List Stretch
then_asked stretches seats zero = stretches
then_asked stretches seats (suc n) = stretches ++ record { seats = seats; micros = suc n } ∷ []

-- r is the square root of n, rounded down
pub record IsRoot (n r : ℕ) : Type 0 where
  pub within : r * r ≤ n
  pub above : n < (r + 1) * (r + 1)

-- what the requests asked for: the most seats at once, the mean over time in thousandths of a seat, and the root of the mean of the
-- squares less the square of the mean
pub record IsObserved (stretches : List Stretch) (o : Observed) : Type 0 where
  pub high : o.high ≡ high_of stretches
  pub mean : o.mean ≡ area_of stretches * 1000 / length_of stretches
  pub deviation : IsRoot (squares_of stretches * 1000000 / length_of stretches - o.mean * o.mean) o.deviation

-- what requests asked for lately, by what they asked for before the last period, its mean and its deviation
abbrev pub smoothed_with : (smoothed mean deviation : ℕ) → ℕ
smoothed_with smoothed mean deviation = max (mean + deviation) ((977 * smoothed + 23 * (mean + deviation)) / 1000)
