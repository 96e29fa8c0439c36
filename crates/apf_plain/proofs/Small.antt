-- A step that is allowed keeps the seats at most 20,000.
use Rattle.std.proofs.Common.{◌≡◌, ℕ, ◌+◌, ◌<◌, ◌≤◌, List, length, ⊎_elim, arith}
use Rattle.apf_model.specs.declared.moves.Stage.{Stage}
use Rattle.apf_model.specs.declared.moves.Stage.TheVariants.{Stands}
use Rattle.apf_history.specs.Tally.{tally}
use Rattle.apf_model.specs.World.{World, put, seats_at, width, seats, FitsIn}
use Rattle.apf_model.specs.Schedule.{AreWidths}
use Rattle.apf_model.specs.Safety.{AreSums}

-- a request that fits comes to stand
pub stands_small : (widths : List ℕ) (w : World) → AreSums widths w → (r : ℕ) (from : Stage) → AreWidths widths → w.limit ≤ 10000 → r < length widths → w.stage r ≡ from → seats_at from (width widths r) ≡ 0 → FitsIn widths w r
    → tally (λ j. seats_at (put w.stage r Stands j) (width widths j)) (length widths) ≤ 20000
stands_small widths w sums r from wide low l is zero fits =
    let m : tally (λ j. seats_at (put w.stage r Stands j) (width widths j)) (length widths) + seats_at from (width widths r) ≡ seats widths w + width widths r = (sums.change r from Stands l is).0 in let narrow = (wide r l).1 in
    ⊎_elim (λ (f : seats widths w + width widths r ≤ w.limit). omega arith) (λ (f : (w.limit < width widths r) × (seats widths w ≡ 0)). omega arith) fits

-- a request goes on to where it does not stand
pub goes_small : (widths : List ℕ) (w : World) → AreSums widths w → (r : ℕ) (from to : Stage) → r < length widths → w.stage r ≡ from → seats_at to (width widths r) ≡ 0 → seats widths w ≤ 20000
    → tally (λ j. seats_at (put w.stage r to j) (width widths j)) (length widths) ≤ 20000
goes_small widths w sums r from to l is zero small =
    let m : tally (λ j. seats_at (put w.stage r to j) (width widths j)) (length widths) + seats_at from (width widths r) ≡ seats widths w + seats_at to (width widths r) = (sums.change r from to l is).0 in omega arith
