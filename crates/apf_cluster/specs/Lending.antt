-- The seats of a server, which are lent to its levels anew every ten seconds.
use Rattle.std.specs.Prelude.{◌≡◌, ℕ, suc, ◌+◌, ◌-◌, ◌*◌, ◌≤◌, min, max, nat_le, Bool, true, false, List, [], ◌∷◌, ◌++◌, length, slice_get, Option, Some, None, if◌then◌else◌}
use Rattle.apf_times.specs.declared.window.Arrival.{Arrival}
use Rattle.apf_traces.specs.declared.request.TraceRequest.{TraceRequest}
use Rattle.apf_stream.specs.declared.deed.NewLimit.{NewLimit}
use Rattle.apf_stream.specs.declared.ended.Ended.{Ended}
use Rattle.apf_objects.specs.declared.level.LevelSettings.{LevelSettings}
use Rattle.apf_matching.specs.declared.limits.LevelLimits.{LevelLimits}
use Rattle.apf_lending.specs.Claims.{max_limit as most_seats}
use Rattle.apf_lending.specs.Divisions.{IsDivision}
use Rattle.apf_lending.specs.declared.claim.Claim.{Claim}
use Rattle.apf_lender.specs.Periods.{AskingView, Claims, Follows}
use Rattle.apf_lender.specs.declared.bounds.Bounds.{Bounds}
use Rattle.apf_lender.specs.declared.bounds.Bounds.TheVariants.{Exempt, Limited}
use Rattle.apf_cluster_tables.specs.Limits.{limit_of}

-- how long the limits stay, in microseconds
abbrev pub period : ℕ
period = 10000000

-- one division of the seats: what each level claimed, and the limit that it was given, in the order of the levels
pub record Adjustment : Type 0 where
  pub claims : List Claim
  pub limits : List ℕ

-- the widths of those that came by this time
abbrev pub came_by : List (Arrival TraceRequest) → ℕ → ℕ
came_by [] time = 0
came_by (x ∷ came) time = (if nat_le x.item.arrives_at time then x.item.width else 0) + came_by came time

-- the widths of those that were over by this time
abbrev pub over_by : List Ended → ℕ → ℕ
over_by [] time = 0
over_by (e ∷ told) time = (if nat_le e.over_at time then e.hold.asked.width else 0) + over_by told time

-- For how many seats the requests ask at this time, of which these came and these are over at some time: the widths of those that came, and are not over
abbrev pub asked_at : List (Arrival TraceRequest) → List Ended → ℕ → ℕ
asked_at came told time = came_by came time - over_by told time

-- the greatest limit of a level: its nominal one, and what it borrows at most
abbrev pub greatest_of : LevelLimits → ℕ
greatest_of l = min (l.nominal + l.borrowing) most_seats

-- the nominal one
abbrev pub nominal_of : LevelLimits → ℕ
nominal_of l = min l.nominal most_seats

-- between which limits a level is lent seats
abbrev pub bounds_of : LevelSettings → LevelLimits → Bounds
bounds_of s l = if s.is_exempt then Exempt (nominal_of l - l.lendable) (nominal_of l) else Limited (nominal_of l - l.lendable) (nominal_of l) (greatest_of l)

-- a number, or none
abbrev pub or_none : Option ℕ → ℕ
or_none None = 0
or_none (Some n) = n

-- the limit of the level at this place by an adjustment, as its lane is set it
abbrev pub given : ℕ → Adjustment → ℕ
given i a = limit_of (or_none (slice_get a.limits i))

-- The limits that the lane of this place is set by these adjustments, of which the last comes first: one at the end of each period. None where it is set none
abbrev pub set_limits : Bool → ℕ → List Adjustment → List NewLimit
set_limits false i adjustments = []
set_limits true i [] = []
set_limits true i (a ∷ earlier) = set_limits true i earlier ++ record { at = period * suc (length earlier); limit = given i a } ∷ []

-- the least limit from a time on, once this one is set, where it was that before: this one, if no other was in force since
abbrev pub least_then : (since at limit before : ℕ) → ℕ
least_then since at limit before = if nat_le at since then limit else min limit before

-- the greatest
abbrev pub greatest_then : (since at limit before : ℕ) → ℕ
greatest_then since at limit before = if nat_le at since then limit else max limit before

-- the least limit of the lane from a time on, which began with this one
abbrev pub least_set : Bool → (since i first : ℕ) → List Adjustment → ℕ
least_set false since i first adjustments = first
least_set true since i first [] = first
least_set true since i first (a ∷ earlier) = least_then since (period * suc (length earlier)) (given i a) (least_set true since i first earlier)

-- the greatest
abbrev pub greatest_set : Bool → (since i first : ℕ) → List Adjustment → ℕ
greatest_set false since i first adjustments = first
greatest_set true since i first [] = first
greatest_set true since i first (a ∷ earlier) = greatest_then since (period * suc (length earlier)) (given i a) (greatest_set true since i first earlier)

-- At the end of each period the level at this place claimed by what its requests asked for in that period, and before. The last adjustment comes first
abbrev pub HasClaimed : ℕ → Bounds → (ℕ → ℕ) → List Adjustment → ℕ → Type 0
HasClaimed i bounds seats_at [] lately = lately ≡ 0
HasClaimed i bounds seats_at (a ∷ earlier) lately =
    (before : ℕ) × (claim : Claim) × HasClaimed i bounds seats_at earlier before × (slice_get a.claims i ≡ Some claim)
    × Claims bounds seats_at (period * length earlier) (period * suc (length earlier)) before lately claim

-- the seats were divided by what each of so many levels claimed
pub record IsAdjustment (seats levels : ℕ) (a : Adjustment) : Type 0 where
  pub many : length a.claims ≡ levels
  pub divided : IsDivision seats a.claims a.limits

-- these came, these were told to be over, and the level at this place claimed by that, and follows it
pub record IsAsked (i : ℕ) (bounds : Bounds) (adjustments : List Adjustment) (came : List (Arrival TraceRequest)) (told : List Ended) (v : AskingView) : Type 0 where
  pub bounds_are : v.bounds ≡ bounds
  pub began : v.demand.began ≡ period * length adjustments
  pub follows : Follows (asked_at came told) v
  pub enough : (time : ℕ) → v.demand.since ≤ time → over_by told time ≤ came_by came time
  pub claimed : HasClaimed i bounds (asked_at came told) adjustments v.smoothed

-- whatever came and was told before: this one came too
abbrev pub AsksToo : Arrival TraceRequest → AskingView → AskingView → Type 0
AsksToo x v v' = (i : ℕ) (bounds : Bounds) (adjustments : List Adjustment) (came : List (Arrival TraceRequest)) (told : List Ended)
    → IsAsked i bounds adjustments came told v → IsAsked i bounds adjustments (came ++ x ∷ []) told v'

-- whatever came and was told before: these are over too
abbrev pub AreOver : List Ended → AskingView → AskingView → Type 0
AreOver ends v v' = (i : ℕ) (bounds : Bounds) (adjustments : List Adjustment) (came : List (Arrival TraceRequest)) (told : List Ended)
    → IsAsked i bounds adjustments came told v → IsAsked i bounds adjustments came (told ++ ends) v'

-- whatever came and was told before: its period ended at this time, and this is what the level claims
abbrev pub ClaimsAt : ℕ → Claim → AskingView → AskingView → Type 0
ClaimsAt at claim v v' = (i : ℕ) (bounds : Bounds) (adjustments : List Adjustment) (came : List (Arrival TraceRequest)) (told : List Ended) (a : Adjustment)
    → IsAsked i bounds adjustments came told v → at ≡ period * suc (length adjustments) → slice_get a.claims i ≡ Some claim → IsAsked i bounds (a ∷ adjustments) came told v'
