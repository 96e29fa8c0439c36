-- What every schedule keeps.
use Rattle.std.specs.Prelude.{◌≡◌, ◌⊎◌, ℕ, ◌+◌, ◌<◌, ◌≤◌, List, ◌∷◌, ◌++◌, length, Some, None, count_by}
use Rattle.apf_words.specs.Limits.{max_width}
use Rattle.apf_words.specs.declared.decision.Decision.TheVariants.{Execute, Cancelled}
use Rattle.apf_model.specs.declared.moves.Stage.{Stage}
use Rattle.apf_model.specs.declared.moves.Move.{Move}
use Rattle.apf_model.specs.declared.moves.Move.TheVariants.{Take, Grant, Decide, Close}
use Rattle.apf_model.specs.World.{Opening, World, put, width, seats, seats_at, waiters, waits_at, FitsIn, IsStanding, IsWaiting}
use Rattle.apf_model.specs.Schedule.{world, IsSchedule, AreWidths, Alone, enters, arrives, is_granted, leaves, is_decided, releases}

-- a schedule is safe: the newest step stands first, so each of its beginnings is an ending of the list, and what is said of its world holds at every place
pub record IsSafe (o : Opening) (schedule : List Move) : Type 0 where
  -- each of its beginnings is a schedule
  pub beginnings : (later earlier : List Move) → later ++ earlier ≡ schedule → IsSchedule o earlier
  -- each request is decided at most once, and released at most once
  pub one_decide : (r : ℕ) → count_by (is_decided r) schedule ≤ 1
  pub one_release : (r : ℕ) → count_by (releases r) schedule ≤ 1
  -- it takes its seats or enters at most once, and not both; it is granted at most once, and only after it entered
  pub one_arrival : (r : ℕ) → count_by (arrives r) schedule ≤ 1
  pub one_grant : (r : ℕ) → count_by (is_granted r) schedule ≤ 1
  pub grant_after_enter : (later earlier : List Move) (r : ℕ) → later ++ Grant r ∷ earlier ≡ schedule → count_by (enters r) earlier ≡ 1
  -- a request decided execute stood when it was decided; of one that left, there is no place at which it stands
  pub executed_stood : (r : ℕ) → (world o schedule).decision r ≡ Some Execute → (later : List Move) × ((earlier : List Move) × (schedule ≡ later ++ Decide r Execute ∷ earlier) × IsStanding (world o earlier) r)
  pub left_never_stood : (later earlier : List Move) (r : ℕ) → later ++ earlier ≡ schedule → 1 ≤ count_by (leaves r) schedule → ¬ IsStanding (world o earlier) r
  -- one that waits is undecided or cancelled
  pub waiting_undecided_or_cancelled : (r : ℕ) → IsWaiting (world o schedule) r → ((world o schedule).decision r ≡ None) ⊎ ((world o schedule).decision r ≡ Some Cancelled)
  -- after a Close no request takes its seats or enters
  pub no_arrival_after_close : (later earlier : List Move) (r : ℕ) → later ++ Close ∷ earlier ≡ schedule → count_by (arrives r) later ≡ 0
  -- each Take and each Grant fits the limit of its moment
  pub take_fits_its_limit : (later earlier : List Move) (r : ℕ) → later ++ Take r ∷ earlier ≡ schedule → FitsIn o.widths (world o earlier) r
  pub grant_fits_its_limit : (later earlier : List Move) (r : ℕ) → later ++ Grant r ∷ earlier ≡ schedule → FitsIn o.widths (world o earlier) r
  -- the seats pass the largest limit so far only for one over-wide grant standing alone, so they are at most the greater of that limit and the widest width
  pub alone : AreWidths o.widths → Alone o.widths (world o schedule)
  pub bounded : (most : ℕ) → AreWidths o.widths → (world o schedule).largest ≤ most → max_width ≤ most → seats o.widths (world o schedule) ≤ most

-- the sums of a world: its seats and its waiters
pub record AreSums (widths : List ℕ) (w : World) : Type 0 where
  -- a request that goes from one stage to another changes them by its own part alone
  pub change : (r : ℕ) (from to : Stage) → r < length widths → w.stage r ≡ from
      → (seats widths (record w { stage = put w.stage r to }) + seats_at from (width widths r) ≡ seats widths w + seats_at to (width widths r))
      × (waiters widths (record w { stage = put w.stage r to }) + waits_at from ≡ waiters widths w + waits_at to)
  pub few_wait : waiters widths w ≤ length widths
  pub nobody_waits : ((r : ℕ) → r < length widths → ¬ IsWaiting w r) → waiters widths w ≡ 0
  pub nobody_stands : ((r : ℕ) → r < length widths → ¬ IsStanding w r) → seats widths w ≡ 0
