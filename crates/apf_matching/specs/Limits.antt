-- The limits of levels.
use Rattle.std.specs.Prelude.{ℕ, zero, suc, ◌+◌, ◌*◌, ◌/◌, List, [], ◌∷◌, Option, Some, None}
use Rattle.apf_objects.specs.Levels.{LevelSaid}
use Rattle.apf_objects.specs.declared.level.LevelSettings.{LevelSettings}
use Rattle.apf_matching.specs.declared.limits.LevelLimits.{LevelLimits}

-- the most seats of a server
abbrev pub max_seats : ℕ
max_seats = 1000000

-- the shares of all levels together
abbrev pub sum_of_shares : List LevelSaid → ℕ
sum_of_shares [] = 0
sum_of_shares (level ∷ levels) = level.settings.shares + sum_of_shares levels

-- a part of the seats, as the shares are a part of all shares, rounded up; nobody has seats where nobody has shares
abbrev pub nominal_of : (seats shares all : ℕ) → ℕ
nominal_of seats shares zero = 0
nominal_of seats shares (suc n) = (seats * shares + n) / suc n

-- this many per cent of a number, halves rounded up
abbrev pub percent_of : (number percent : ℕ) → ℕ
percent_of number percent = (number * percent + 50) / 100

-- how many seats a level borrows at most, and all that there are where nothing is said
abbrev pub borrowing_of : (seats nominal : ℕ) → Option ℕ → ℕ
borrowing_of seats nominal (Some percent) = percent_of nominal percent
borrowing_of seats nominal None = seats

-- the limits of a level of a server with this many seats, where all levels have this many shares
abbrev pub limits_of : LevelSettings → (seats all : ℕ) → LevelLimits
limits_of settings seats all = record {
  nominal = nominal_of seats settings.shares all;
  lendable = percent_of (nominal_of seats settings.shares all) settings.lendable_percent;
  borrowing = borrowing_of seats (nominal_of seats settings.shares all) settings.borrowing_percent;
}

-- the nominal limits of these levels together, where all levels have this many shares
abbrev pub sum_of_parts : (seats all : ℕ) → List LevelSaid → ℕ
sum_of_parts seats all [] = 0
sum_of_parts seats all (level ∷ levels) = nominal_of seats level.settings.shares all + sum_of_parts seats all levels

-- the nominal limits of all levels together
abbrev pub sum_of_nominal : (seats : ℕ) → List LevelSaid → ℕ
sum_of_nominal seats levels = sum_of_parts seats (sum_of_shares levels) levels
