-- The calls of a window, from its opening on.
use Rattle.std.specs.Prelude.{◌≡◌, ◌≢◌, ℕ, ◌≤◌, ◌==◌, false, List, [], ◌∷◌, ◌++◌, count_by, Option, Some, None}
use Rattle.std.specs.Option.{option_to_list}
use Rattle.apf_times.specs.declared.window.Place.{Place}
use Rattle.apf_times.specs.declared.window.Arrival.{Arrival}
use Rattle.apf_times.specs.Windows.{WindowView, NoneBefore, IsPopped, IsPushed, is_late, precedes}

-- one call: what came, or nothing once all has come, and what was handed out
pub record Call (T : Type 0) : Type 0 where
  pub came : Option (Arrival T)
  pub out : Option (Arrival T)

-- One call leads from a window to the next. What came was not late.
abbrev pub IsCallOf : {T : Type 0} → Option (Arrival T) → WindowView T → Option (Arrival T) → WindowView T → Type 0
IsCallOf None u out v = IsPopped u out v
IsCallOf (Some x) u out v = (is_late x.place u.last ≡ false) × IsPushed x u out v

-- these calls, the newest first, lead from a window of this size that holds nothing to this one
abbrev pub IsWindowRun : {T : Type 0} → ℕ → List (Call T) → WindowView T → Type 0
IsWindowRun size [] v = (v.held ≡ []) × (v.last ≡ None) × (v.size ≡ size)
IsWindowRun {T} size (call ∷ calls) v = (u : WindowView T) × IsWindowRun size calls u × IsCallOf call.came u call.out v × (v.size ≡ u.size)

-- all that came, in the order in which it came
abbrev pub all_came : {T : Type 0} → List (Call T) → List (Arrival T)
all_came [] = []
all_came (call ∷ calls) = all_came calls ++ option_to_list call.came

-- all that was handed out, in the order in which it was
abbrev pub all_out : {T : Type 0} → List (Call T) → List (Arrival T)
all_out [] = []
all_out (call ∷ calls) = all_out calls ++ option_to_list call.out

-- none is before one that stands in front of it
abbrev pub AreInPlace : {T : Type 0} → List (Arrival T) → Type 0
AreInPlace [] = Unit {0}
AreInPlace (x ∷ xs) = NoneBefore x xs × AreInPlace xs

-- each call brought something
abbrev pub AllPushed : {T : Type 0} → List (Call T) → Type 0
AllPushed [] = Unit {0}
AllPushed (call ∷ calls) = (call.came ≢ None) × AllPushed calls

-- how many of these a place is before
abbrev pub number_behind : {T : Type 0} → Place → List (Arrival T) → ℕ
number_behind place xs = count_by (λ x. precedes place x.place) xs

-- no two of these have one line
abbrev pub HaveOwnLines : {T : Type 0} → List (Arrival T) → Type 0
HaveOwnLines xs = (line : ℕ) → count_by (λ x. x.place.line == line) xs ≤ 1
