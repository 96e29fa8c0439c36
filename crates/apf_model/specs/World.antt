-- The world of a level, and the steps that change it. Requests are named by their numbers.
use Rattle.std.specs.Prelude.{◌≡◌, ◌≢◌, ℕ, ◌<◌, max, Bool, true, false, List, length, Option, Some, None}
use Rattle.apf_words.specs.Fits.{Fits}
use Rattle.apf_words.specs.declared.decision.Decision.{Decision}
use Rattle.apf_words.specs.declared.decision.Decision.TheVariants.{Execute, QueueFull, Closed, Cancelled, ConcurrencyLimit}
use Rattle.apf_model.specs.declared.response.Response.{Response}
use Rattle.apf_model.specs.declared.response.Response.TheVariants.{Queue, Reject}
use Rattle.apf_model.specs.declared.moves.Stage.{Stage}
use Rattle.apf_model.specs.declared.moves.Stage.TheVariants.{Away, Waits, Stands, Gone}
use Rattle.apf_model.specs.declared.moves.Move.{Move}
use Rattle.apf_model.specs.declared.moves.Move.TheVariants.{Take, Enter, Grant, Leave, Decide, Release, Close, SetLimit, See}
use Rattle.apf_history.specs.Tally.{tally}
pub use Rattle.apf_history.specs.Numbered.{put, width}

-- what a level is opened with: its limit, its response, and the widths of its requests in order
pub record Opening : Type 0 where
  pub limit : ℕ
  pub response : Response
  pub widths : List ℕ

-- the world of a level. The three sets of those that came, wait and stand are one stage for each request
pub record World : Type 0 where
  pub is_open : Bool
  pub limit : ℕ
  -- the largest limit so far
  pub largest : ℕ
  pub response : Response
  pub stage : ℕ → Stage
  pub saw_no_room : ℕ → Bool
  pub decision : ℕ → Option Decision

-- it is open, has the opening limit for both limits, and all else is empty
abbrev pub opening_world : Opening → World
opening_world o =
    record {
      is_open = true;
      limit = o.limit;
      largest = o.limit;
      response = o.response;
      stage = λ _. Away;
      saw_no_room = λ _. false;
      decision = λ _. None;
    }

-- the requests that have not come
abbrev pub HasNotCome : World → ℕ → Type 0
HasNotCome w r = w.stage r ≡ Away

-- the requests that wait
abbrev pub IsWaiting : World → ℕ → Type 0
IsWaiting w r = w.stage r ≡ Waits

-- the requests whose grant stands
abbrev pub IsStanding : World → ℕ → Type 0
IsStanding w r = w.stage r ≡ Stands

-- the seats that a request of this stage and width has
abbrev pub seats_at : Stage → ℕ → ℕ
seats_at Stands k = k
seats_at _ k = 0

-- the sum of the widths of the standing grants
abbrev pub seats : List ℕ → World → ℕ
seats widths w = tally (λ r. seats_at (w.stage r) (width widths r)) (length widths)

-- 1 for a request that waits
abbrev pub waits_at : Stage → ℕ
waits_at Waits = 1
waits_at _ = 0

-- how many wait
abbrev pub waiters : List ℕ → World → ℕ
waiters widths w = tally (λ r. waits_at (w.stage r)) (length widths)

-- the request's width fits the seats, under the limit of this world
abbrev pub FitsIn : List ℕ → World → ℕ → Type 0
FitsIn widths w r = Fits (seats widths w) w.limit (width widths r)

-- an arrival takes its seats: the level is open, it has not come, nobody waits, and it fits
pub record MayTake (widths : List ℕ) (w : World) (r : ℕ) : Type 0 where
  pub is_request : r < length widths
  pub is_open : w.is_open ≡ true
  pub has_not_come : HasNotCome w r
  pub nobody_waits : waiters widths w ≡ 0
  pub fits : FitsIn widths w r

-- an arrival enters: the level has queues and is open, it has not come and is not decided queue-full
pub record MayEnter (widths : List ℕ) (w : World) (r : ℕ) : Type 0 where
  pub is_request : r < length widths
  pub has_queues : w.response ≡ Queue
  pub is_open : w.is_open ≡ true
  pub has_not_come : HasNotCome w r
  pub is_not_full : w.decision r ≢ Some QueueFull

-- a waiting request is granted: it fits
pub record MayGrant (widths : List ℕ) (w : World) (r : ℕ) : Type 0 where
  pub is_request : r < length widths
  pub is_waiting : IsWaiting w r
  pub fits : FitsIn widths w r

-- a waiting request leaves: it is decided cancelled
pub record MayLeave (widths : List ℕ) (w : World) (r : ℕ) : Type 0 where
  pub is_request : r < length widths
  pub is_waiting : IsWaiting w r
  pub is_cancelled : w.decision r ≡ Some Cancelled

-- what a decision asks of the world, beside that the request is undecided
abbrev pub MayBe : Decision → World → ℕ → Type 0
MayBe Execute w r = IsStanding w r
MayBe QueueFull w r = HasNotCome w r
MayBe Closed w r = HasNotCome w r × (w.is_open ≡ false)
MayBe ConcurrencyLimit w r = (w.response ≡ Reject) × HasNotCome w r × (w.saw_no_room r ≡ true)
MayBe Cancelled w r = Unit {0}

-- a request is decided: it is undecided, and this decision may be
pub record MayDecide (widths : List ℕ) (w : World) (r : ℕ) (d : Decision) : Type 0 where
  pub is_request : r < length widths
  pub is_undecided : w.decision r ≡ None
  pub may_be : MayBe d w r

-- a standing request releases its seats: it is decided
pub record MayRelease (widths : List ℕ) (w : World) (r : ℕ) : Type 0 where
  pub is_request : r < length widths
  pub is_standing : IsStanding w r
  pub is_decided : w.decision r ≢ None

-- an arrival sees no room: the level is open, it has not come, and it does not fit
pub record MaySee (widths : List ℕ) (w : World) (r : ℕ) : Type 0 where
  pub is_request : r < length widths
  pub is_open : w.is_open ≡ true
  pub has_not_come : HasNotCome w r
  pub has_no_room : ¬ FitsIn widths w r

-- when a step is allowed
abbrev pub Allowed : List ℕ → Move → World → Type 0
Allowed widths (Take r) w = MayTake widths w r
Allowed widths (Enter r) w = MayEnter widths w r
Allowed widths (Grant r) w = MayGrant widths w r
Allowed widths (Leave r) w = MayLeave widths w r
Allowed widths (Decide r d) w = MayDecide widths w r d
Allowed widths (Release r) w = MayRelease widths w r
Allowed widths Close w = Unit {0}
Allowed widths (SetLimit n) w = Unit {0}
Allowed widths (See r) w = MaySee widths w r

-- the world after a step. What isn't named stays
abbrev pub after : Move → World → World
after (Take r) w = record w { stage = put w.stage r Stands }
after (Enter r) w = record w { stage = put w.stage r Waits }
after (Grant r) w = record w { stage = put w.stage r Stands }
after (Leave r) w = record w { stage = put w.stage r Gone }
after (Decide r d) w = record w { decision = put w.decision r (Some d) }
after (Release r) w = record w { stage = put w.stage r Gone }
after Close w = record w { is_open = false }
after (SetLimit n) w = record w { limit = n; largest = max w.largest n }
after (See r) w = record w { saw_no_room = put w.saw_no_room r true }
