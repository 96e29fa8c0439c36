-- What is kept of the stretches of a log, for each pair of queues.
use Rattle.std.specs.Prelude.{◌≡◌, ◌≢◌, ℕ, ◌+◌, ◌-◌, ◌<◌, ◌≤◌, nat_le, nat_lt, ◌==◌, ◌&&◌, ◌||◌, not, min, max, Bool, true, false, if◌then◌else◌, List, [], ◌∷◌, length, slice_index, slice_index_or, Option, Some, None}
use Rattle.apf_history.specs.declared.events.LogEntry.{LogEntry}
use Rattle.apf_history.specs.History.{waiting}
use Rattle.apf_history.specs.Charged.{events, seat_time}
use Rattle.apf_bound.specs.declared.furthest.Furthest.{Furthest}
use Rattle.apf_bound.specs.Pairs.{PairsView, cell}

-- someone waits in q
abbrev pub is_waited_in : List LogEntry → ℕ → Bool
is_waited_in l q = nat_lt 0 (length (waiting (events l) q))

-- someone waits in q, or did at an earlier place
abbrev pub was_waited_in : List LogEntry → ℕ → Bool
was_waited_in [] q = false
was_waited_in (x ∷ l) q = is_waited_in (x ∷ l) q || was_waited_in l q

-- by how much more the requests dispatched from b took than those from a, in the stretch until now in which a is never empty and in which that is most. 0 if a is empty
abbrev pub ahead_now : (ℕ → ℕ) → List LogEntry → ℕ → ℕ → ℕ
ahead_now measure [] a b = 0
ahead_now measure (x ∷ l) a b = if is_waited_in (x ∷ l) a then ahead_now measure l a b + seat_time measure (x ∷ []) b - seat_time measure (x ∷ []) a else 0

-- the same, in any stretch
abbrev pub most_ahead : (ℕ → ℕ) → List LogEntry → ℕ → ℕ → ℕ
most_ahead measure [] a b = 0
most_ahead measure (x ∷ l) a b = max (most_ahead measure l a b) (ahead_now measure (x ∷ l) a b)

-- what is stored
pub record StretchesView : Type 0 where
  pub queues : ℕ
  pub waiting : List ℕ
  pub waited : List Bool
  pub ahead : PairsView
  pub most : PairsView

-- the largest number that is stored
abbrev pub largest : ℕ
largest = 18446744073709551615

-- so much more
abbrev pub raised : ℕ → ℕ → ℕ
raised by n = min (n + by) largest

-- b is this queue, and a is another one in which someone waits
abbrev pub is_passed : StretchesView → (from a b : ℕ) → Bool
is_passed s from a b = (b == from) && (not (a == from) && nat_lt 0 (slice_index s.waiting a))

-- how far b is ahead of a when a request is dispatched from a queue, which takes so much
abbrev pub ahead_after : StretchesView → (from measured a b : ℕ) → ℕ
ahead_after s from measured a b =
    if a == from then if nat_lt 1 (slice_index s.waiting from) then cell s.ahead a b - measured else 0
    else if is_passed s from a b then raised measured (cell s.ahead a b) else cell s.ahead a b

-- it is that of this log
pub record AreStretchesOf (measure : ℕ → ℕ) (l : List LogEntry) (s : StretchesView) : Type 0 where
  pub waiting : (q : ℕ) → q < s.queues → slice_index s.waiting q ≡ length (waiting (events l) q)
  pub waited : (q : ℕ) → q < s.queues → slice_index_or s.waited q false ≡ was_waited_in l q
  pub ahead : (a b : ℕ) → a < s.queues → b < s.queues → cell s.ahead a b ≡ ahead_now measure l a b
  pub most : (a b : ℕ) → a < s.queues → b < s.queues → cell s.most a b ≡ most_ahead measure l a b

-- what is best of some pairs, by a number for each: a pair that has the largest one, and among equals the first by its first queue and then by its second
pub record IsBest (number : ℕ → ℕ → ℕ) (Among : ℕ → ℕ → Type 0) (f : Furthest) : Type 0 where
  pub among : Among f.busy f.other
  pub is : f.ahead ≡ number f.busy f.other
  pub most : (a b : ℕ) → Among a b → number a b ≤ f.ahead
  pub first : (a b : ℕ) → Among a b → number a b ≡ f.ahead → (f.busy ≤ a) × (f.busy ≡ a → f.other ≤ b)

-- the best of some pairs, if there is any
abbrev pub IsBestOf : (ℕ → ℕ → ℕ) → (ℕ → ℕ → Type 0) → Option Furthest → Type 0
IsBestOf number Among None = (a b : ℕ) → ¬ Among a b
IsBestOf number Among (Some f) = IsBest number Among f

-- the further one, and the first of two that are equally far
abbrev pub further_of : Option Furthest → Furthest → Furthest
further_of None one = one
further_of (Some best) one = if nat_le one.ahead best.ahead then best else one

-- two queues, of which the first was waited in
pub record IsPair (s : StretchesView) (a b : ℕ) : Type 0 where
  pub first : a < s.queues
  pub second : b < s.queues
  pub two : a ≢ b
  pub waited : slice_index_or s.waited a false ≡ true

-- those of the first this many queues
abbrev pub IsPairBelow : StretchesView → ℕ → ℕ → ℕ → Type 0
IsPairBelow s low a b = IsPair s a b × (a < low)

-- and those of the next one with the first this many queues
abbrev pub IsPairUntil : StretchesView → (low until : ℕ) → ℕ → ℕ → Type 0
IsPairUntil s low until a b = IsPair s a b × (a ≤ low) × (a ≡ low → b < until)
