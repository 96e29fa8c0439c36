-- The steps on the cell, in order, each with the pass that made it: the newest stands first.
use Rattle.std.specs.Prelude.{◌≡◌, ◌≢◌, ℕ, ◌<◌, List, [], ◌∷◌, ◌++◌, Option, Some, None}
use Rattle.apf_stats.specs.declared.board.Entry.{Entry}
use Rattle.apf_stats.specs.Numbers.{nothing, IsBelow}

-- one step of a pass: it published these numbers, or it read
abbrev pub entry : ℕ → Option (List ℕ) → Entry
entry who published = record { by = who; published = published }

-- what the cell says after a step, and what it said before
abbrev pub after_step : Option (List ℕ) → List ℕ → List ℕ
after_step None before = before
after_step (Some numbers) before = numbers

-- the numbers that were published last; before any publication, that nothing happened
abbrev pub shown : List Entry → List ℕ
shown [] = nothing
shown (newest ∷ trace) = after_step newest.published (shown trace)

-- none of these steps is the pass's own
abbrev pub NoneOf : ℕ → List Entry → Type 0
NoneOf who [] = Unit {0}
NoneOf who (newest ∷ trace) = (newest.by ≢ who) × NoneOf who trace

-- the trace goes on from what the pass saw, by steps of others
abbrev pub GoesOn : List Entry → ℕ → List Entry → Type 0
GoesOn trace who saw = (later : List Entry) × (later ++ saw ≡ trace) × NoneOf who later

-- the pass made this step next: after what it saw come steps of others, and then its own
abbrev pub IsNext : ℕ → Option (List ℕ) → List Entry → List Entry → Type 0
IsNext who published saw trace = (later : List Entry) × (trace ≡ entry who published ∷ (later ++ saw)) × NoneOf who later

-- each step is of one of this many passes; the first of them alone publishes; and no number goes down
abbrev pub AreMade : ℕ → List Entry → Type 0
AreMade count [] = Unit {0}
AreMade count (newest ∷ trace) = (newest.by < count) × (newest.published ≢ None → newest.by ≡ 0)
    × IsBelow (shown trace) (shown (newest ∷ trace)) × AreMade count trace
