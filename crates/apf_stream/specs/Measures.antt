-- How much is left to be done with those who are there.
use Rattle.std.specs.Prelude.{ℕ, ◌+◌, List, [], ◌∷◌, Option, Some, None}
use Rattle.apf_calendar.specs.declared.guest.Guest.{Guest}
use Rattle.apf_calendar.specs.declared.guest.Stay.{Stay}
use Rattle.apf_calendar.specs.declared.guest.Stay.TheVariants.{Waits, Impatient, Holds}

-- the end of its patience, its leaving or its seats, and its finish
abbrev pub left_of : Stay → ℕ
left_of Waits = 3
left_of Impatient = 2
left_of (Holds since) = 1

abbrev pub left_in : Option Guest → ℕ
left_in None = 0
left_in (Some g) = left_of g.stay

abbrev pub left : List (Option Guest) → ℕ
left [] = 0
left (x ∷ xs) = left_in x + left xs
