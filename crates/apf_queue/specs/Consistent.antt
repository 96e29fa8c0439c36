-- What the fields of the queues keep true of one another.
use Rattle.std.specs.Prelude.{◌≡◌, ℕ, ◌+◌, ◌<◌, ◌≤◌, List, length, slice_index, slice_get, Contains, Option, Some, None}
use Rattle.apf_words.specs.Limits.{max_cost}
use Rattle.apf_model.specs.World.{width}
use Rattle.apf_least.specs.Least.{no_number}
use Rattle.apf_queue.specs.RingsView.{RingsView, ring}
use Rattle.apf_queue.specs.TimeView.{TimeView}
use Rattle.apf_queue.specs.View.{IsQueueShape, latest_time, max_charge}

-- the rings, the numbers and the length limit fit one another
pub record AreConsistent (rings : RingsView) (time : TimeView) (length_limit : ℕ) : Type 0 where
  pub shape : IsQueueShape (length rings.queues) length_limit (length rings.costs)
  pub one_cost_each : length rings.costs ≡ rings.requests
  pub one_next_each : length time.next ≡ length rings.queues
  pub robin_is_queue : time.robin < length rings.queues
  pub within_limit : (q : ℕ) → length (ring rings q) ≤ length_limit
  pub low : (r : ℕ) → width rings.costs r ≤ max_cost
  -- who stands in a queue is one of the requests
  pub are_requests : (q r : ℕ) → Contains (ring rings q) r → r < length rings.costs
  -- a dispatch or a settlement may bring them past the latest time by one charge
  pub next_within : (q : ℕ) → slice_index time.next q ≤ latest_time + max_charge
  pub time_within : time.virtual_time ≤ latest_time + max_charge

-- the finish of a queue with this first request, if any
abbrev pub finish_with : List ℕ → ℕ → Option ℕ → ℕ
finish_with costs next None = no_number
finish_with costs next (Some r) = next + width costs r

-- the finish of queue q, if anything waits there
abbrev pub finish_at : RingsView → TimeView → ℕ → ℕ
finish_at rings time q = finish_with rings.costs (slice_index time.next q) (slice_get (ring rings q) 0)

-- these are the finishes of the queues, and of the queues past the last, where nothing waits
pub record AreFinishes (rings : RingsView) (time : TimeView) (finishes : List ℕ) : Type 0 where
  pub room : length rings.queues ≤ length finishes
  pub each : (q : ℕ) → q < length finishes → slice_index finishes q ≡ finish_at rings time q

-- what the fields of the queues keep
pub record AreKept (rings : RingsView) (time : TimeView) (finishes : List ℕ) (length_limit : ℕ) : Type 0 where
  pub consistent : AreConsistent rings time length_limit
  pub finishes_are : AreFinishes rings time finishes
