-- The order of places, and what a window hands out.
use Rattle.std.specs.Prelude.{◌≡◌, ℕ, ◌<◌, ◌≤◌, Bool, false, List, [], ◌∷◌, ◌++◌, length, map, Option, Some, None, IsPermutation}
use Rattle.std.specs.declared.cmp.Ordering.{Ordering}
use Rattle.std.specs.declared.cmp.Reverse.{Reverse}
use Rattle.std.specs.List.{AllByRecursion}
use Rattle.std.specs.Ordering.{nat_cmp, ordering_then, is_lt}
use Rattle.apf_times.specs.declared.window.Place.{Place}
use Rattle.apf_times.specs.declared.window.Arrival.{Arrival}

-- What contracts see of a window.
pub record WindowView (T : Type 0) : Type 0 where
  -- what it holds, in no particular order
  pub held : List (Arrival T)
  -- the place of what was handed out last
  pub last : Option Place
  -- how many it holds at most
  pub size : ℕ
  -- how many it has room for
  pub room : ℕ

-- by the time of arrival, then by the line
abbrev pub place_cmp : Place → Place → Ordering
place_cmp a b = ordering_then (nat_cmp a.arrives_at b.arrives_at) (nat_cmp a.line b.line)

-- whether a is before b
abbrev pub precedes : Place → Place → Bool
precedes a b = is_lt (place_cmp a b)

-- whether it is before what was handed out last
abbrev pub is_late : Place → Option Place → Bool
is_late place None = false
is_late place (Some last) = precedes place last

-- what stands behind `Reverse`
abbrev pub unwrapped : {T : Type 0} → List (Reverse (Arrival T)) → List (Arrival T)
unwrapped xs = map (λ x. x.0) xs

-- all that is held: what came in order, and what came late
abbrev pub all_held : {T : Type 0} → List (Arrival T) → List (Reverse (Arrival T)) → List (Arrival T)
all_held in_order late = in_order ++ unwrapped late

-- none of these is before it
abbrev pub NoneBefore : {T : Type 0} → Arrival T → List (Arrival T) → Type 0
NoneBefore x xs = AllByRecursion (λ y. precedes y.place x.place ≡ false) xs

-- the first of these is handed out, and the others stay
pub record HandsOut {T : Type 0} (from : List (Arrival T)) (first : Arrival T) (v : WindowView T) : Type 0 where
  pub same : IsPermutation from (first ∷ v.held)
  pub is_first : NoneBefore first v.held
  pub last : v.last ≡ Some first.place

-- the first of these leaves, if there is one, and the others stay
abbrev pub IsHandedOut : {T : Type 0} → List (Arrival T) → Option (Arrival T) → List (Arrival T) → Type 0
IsHandedOut from None held = (from ≡ []) × (held ≡ from)
IsHandedOut from (Some first) held = IsPermutation from (first ∷ held) × NoneBefore first held

-- One more came: it is held, or, where the window holds its size, the first of all is handed out.
abbrev pub IsPushed : {T : Type 0} → Arrival T → WindowView T → Option (Arrival T) → WindowView T → Type 0
IsPushed x u None v = (length u.held < u.size) × IsPermutation (x ∷ u.held) v.held × (v.last ≡ u.last)
IsPushed x u (Some first) v = (u.size ≤ length u.held) × HandsOut (x ∷ u.held) first v

-- the first is handed out, if there is one
abbrev pub IsPopped : {T : Type 0} → WindowView T → Option (Arrival T) → WindowView T → Type 0
IsPopped u None v = (u.held ≡ []) × (v ≡ u)
IsPopped u (Some first) v = HandsOut u.held first v
