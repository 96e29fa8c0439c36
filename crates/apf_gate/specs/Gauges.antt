-- The shape of a gate, and what the model says of its sums.
use Rattle.std.specs.Prelude.{◌≡◌, ℕ, zero, suc, ◌+◌, ◌^◌, ◌<◌, ◌≤◌, Bool, true, false, List, [], ◌∷◌, ◌++◌, length, slice_index_or}
use Rattle.apf_words.specs.Limits.{max_limit, max_requests, max_width, max_stations}
use Rattle.apf_model.specs.declared.moves.Move.{Move}
use Rattle.apf_model.specs.declared.moves.Stage.{Stage}
use Rattle.apf_model.specs.declared.response.Response.{Response}
use Rattle.apf_model.specs.World.{World, put, width, seats, seats_at, waiters, waits_at, IsWaiting, IsStanding}
use Rattle.apf_model.specs.Schedule.{world, IsSchedule, AreWidths}
use Rattle.apf_gate.specs.declared.record.Shape.{Shape}
use Rattle.apf_gate.specs.Slots.{coded_width}
use Rattle.apf_gate.specs.Traces.{opening_of}

-- a batch: each slot has one request, whose number is the slot's
abbrev pub shape_of : ℕ → Response → List ℕ → ℕ → Shape
shape_of limit response widths stations = record { limit = limit; response = response; widths = widths; slots = length widths; stations = stations }

-- the widths of the first n numbers: those of the first requests, one for each slot, and then each number says its request's width
unfoldable pub spread : List ℕ → ℕ → List ℕ
spread widths zero = []
spread widths (suc n) = spread widths n ++ slice_index_or widths n (coded_width n) ∷ []

-- how many numbers of requests a gate has whose slots are used again
abbrev pub max_numbers : ℕ
max_numbers = 37778931862957161709568

-- the shape of a gate: a batch, or slots that are used again, with this many numbers of requests
abbrev pub all_widths : Bool → ℕ → List ℕ → List ℕ
all_widths false numbers widths = widths
all_widths true numbers widths = spread widths numbers

abbrev pub shape_in : Bool → ℕ → ℕ → Response → List ℕ → ℕ → Shape
shape_in lives numbers limit response widths stations = record { limit = limit; response = response; widths = all_widths lives numbers widths; slots = length widths; stations = stations }

-- the shapes that a gate may have: a limit of 1 to 10,000 seats, at most 10,000 requests of 1 to 20,000 seats, and at most 64 Stations
pub record IsShape (s : Shape) : Type 0 where
  pub some_limit : 1 ≤ s.limit
  pub small_limit : s.limit ≤ max_limit
  pub widths : AreWidths s.widths
  pub few_slots : s.slots ≤ max_requests
  pub all_slots : s.slots ≤ length s.widths
  -- each number is one of 75 bits, so that its mark has 61
  pub few_numbers : length s.widths ≤ 2 ^ 75
  pub few_stations : s.stations ≤ max_stations

-- what every schedule keeps of the sums of a level of this shape
pub record AreLaws (s : Shape) : Type 0 where
  pub sums : (w : World) (r : ℕ) (from to : Stage) → r < length s.widths → w.stage r ≡ from
      → (seats s.widths (record w { stage = put w.stage r to }) + seats_at from (width s.widths r) ≡ seats s.widths w + seats_at to (width s.widths r))
      × (waiters s.widths (record w { stage = put w.stage r to }) + waits_at from ≡ waiters s.widths w + waits_at to)
  pub few_wait : (w : World) → waiters s.widths w ≤ length s.widths
  pub nobody_waits : (w : World) → ((r : ℕ) → r < length s.widths → ¬ IsWaiting w r) → waiters s.widths w ≡ 0
  pub nobody_stands : (w : World) → ((r : ℕ) → r < length s.widths → ¬ IsStanding w r) → seats s.widths w ≡ 0
  pub bounded : (ms : List Move) → IsSchedule (opening_of s) ms → (world (opening_of s) ms).largest ≤ max_width → seats s.widths (world (opening_of s) ms) ≤ max_width

-- what a gate's fields keep: its table has the words, no slots, and the shape as its key
pub record IsGate (words slots : ℕ) (key own : Shape) : Type 0 where
  pub has_words : words ≡ own.slots + 1
  pub no_slots : slots ≡ 0
  pub same_key : key ≡ own
  pub shape : IsShape own
  pub laws : AreLaws own
