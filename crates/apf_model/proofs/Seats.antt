-- The seats of a schedule's world: past the largest limit so far one over-wide grant stands alone.
use Rattle.std.proofs.Common.{◌≡◌, ℕ, ◌+◌, ◌<◌, ◌≤◌, List, [], ◌∷◌, length, sym, refl, ap, ◌∙◌, ⊎_elim, arith}
use Rattle.std.specs.Prelude.{max}
use mathlib.Core.Logic.{dite}
use native.Mathlib.Decide.{ℕ_discrete}
use Rattle.std.proofs.Math.Decide.{dec_le}
use Rattle.apf_model.specs.declared.moves.Stage.{Stage}
use Rattle.apf_model.specs.declared.moves.Stage.TheVariants.{Away, Waits, Stands, Gone}
use Rattle.apf_model.specs.declared.moves.Move.{Move}
use Rattle.apf_model.specs.declared.moves.Move.TheVariants.{Take, Enter, Grant, Leave, Decide, Release, Close, SetLimit, See}
use Rattle.apf_history.specs.Tally.{tally}
use Rattle.apf_model.specs.World.{Opening, World, put, seats_at, width, seats, after, FitsIn}
use Rattle.apf_model.specs.Schedule.{world, IsSchedule, AreWidths, StandsAlone, Alone}
use Rattle.apf_model.proofs.Sums.{put_here, put_else, tally_member, tally_nothing, tally_one, moved}

not_standing : (s : Stage) (k : ℕ) → (s ≡ Stands → ⊥) → seats_at s k ≡ 0
not_standing Away k n = refl
not_standing Waits k n = refl
not_standing Stands k n = absurd (n refl)
not_standing Gone k n = refl

-- a standing request's width is among the seats
counts : (widths : List ℕ) (w : World) (j : ℕ) → j < length widths → w.stage j ≡ Stands → width widths j ≤ seats widths w
counts widths w j l is = let one : seats_at (w.stage j) (width widths j) ≤ seats widths w = tally_member (λ r. seats_at (w.stage r) (width widths r)) (length widths) j l in
    let e : seats_at (w.stage j) (width widths j) ≡ width widths j = ap (λ (s : Stage). seats_at s (width widths j)) is in omega arith

-- a request that stands alone has all the seats
pub alone_seats : (widths : List ℕ) (w : World) (r : ℕ) → StandsAlone widths w r → seats widths w ≡ width widths r
alone_seats widths w r a =
    tally_one (λ j. seats_at (w.stage j) (width widths j)) (length widths) r a.is_request (λ j l other. not_standing (w.stage j) (width widths j) (λ st. other (a.is_alone j l st)))
    ∙ ap (λ (s : Stage). seats_at s (width widths r)) a.is_standing

-- nobody goes on to stand
kept : (widths : List ℕ) (w : World) (r : ℕ) (to : Stage) → (w.stage r ≡ Stands → ⊥) → (to ≡ Stands → ⊥)
    → (o : ℕ) → StandsAlone widths w o → StandsAlone widths (record w { stage = put w.stage r to }) o
kept widths w r to off off' o s =
    record {
      is_request = s.is_request;
      is_standing = put_else w.stage r to o (λ e. off (ap w.stage (sym e) ∙ s.is_standing)) ∙ s.is_standing;
      is_over_wide = s.is_over_wide;
      is_alone = λ j l st. dite (ℕ_discrete j r)
          (λ e. absurd (off' (sym (put_here w.stage r to) ∙ (ap (put w.stage r to) (sym e) ∙ st))))
          (λ other. s.is_alone j l (sym (put_else w.stage r to j other) ∙ st));
    }

module _ (widths : List ℕ) (wide : AreWidths widths) where
  -- r stands now, and nothing else did
  first_alone : (w : World) (r : ℕ) → r < length widths → seats widths w ≡ 0 → w.largest < width widths r → StandsAlone widths (record w { stage = put w.stage r Stands }) r
  first_alone w r l none over =
      record {
        is_request = l;
        is_standing = put_here w.stage r Stands;
        is_over_wide = over;
        is_alone = λ j k is. dite (ℕ_discrete j r) (λ e. e)
            (λ other. let c : width widths j ≤ seats widths w = counts widths w j k (sym (put_else w.stage r Stands j other) ∙ is) in let d : 1 ≤ width widths j = (wide j k).0 in absurd (omega arith));
      }

  -- a request comes to stand that fits
  fits_alone : (w : World) (r : ℕ) (from : Stage) → w.limit ≤ w.largest → r < length widths → w.stage r ≡ from → seats_at from (width widths r) ≡ 0 → FitsIn widths w r
      → Alone widths (record w { stage = put w.stage r Stands })
  fits_alone w r from low l is zero fits over =
      let m = (moved widths w r from Stands l is).0 in
      ⊎_elim (λ (f : seats widths w + width widths r ≤ w.limit). absurd (omega arith))
      (λ (f : (w.limit < width widths r) × (seats widths w ≡ 0)). (r, first_alone w r l f.1 (let u = f.1 in omega arith))) fits

  -- a request that did not stand goes on to where it does not stand
  still_alone : (w : World) (r : ℕ) (from to : Stage) → r < length widths → w.stage r ≡ from → (from ≡ Stands → ⊥) → (to ≡ Stands → ⊥)
      → Alone widths w → Alone widths (record w { stage = put w.stage r to })
  still_alone w r from to l is off off' alone over =
      let m = (moved widths w r from to l is).0 in let a = not_standing from (width widths r) off in let b = not_standing to (width widths r) off' in
      let s = alone (omega arith) in (s.0, kept widths w r to (λ st. off (sym is ∙ st)) off' s.0 s.1)

  -- a standing request releases
  less_alone : (w : World) (r : ℕ) → r < length widths → w.stage r ≡ Stands → Alone widths w → Alone widths (record w { stage = put w.stage r Gone })
  less_alone w r l is alone over =
      let m = (moved widths w r Stands Gone l is).0 in
      let s = alone (omega arith) in
      let same : r ≡ s.0 = s.1.is_alone r l is in
      let all : seats widths w ≡ width widths s.0 = alone_seats widths w s.0 s.1 in
      let e : width widths r ≡ width widths s.0 = ap (width widths) same in
      absurd (omega arith)

  -- another limit
  limit_alone : (w : World) (n : ℕ) → Alone widths w → Alone widths (record w { limit = n; largest = max w.largest n })
  limit_alone w n alone over =
      let s = alone (omega arith) in let all : seats widths w ≡ width widths s.0 = alone_seats widths w s.0 s.1 in
      (s.0, record { is_request = s.1.is_request; is_standing = s.1.is_standing; is_over_wide = omega arith; is_alone = s.1.is_alone })

  -- neither a stage nor a limit changes
  same_alone : (w : World) (m : Move) → (after m w).stage ≡ w.stage → (after m w).largest ≡ w.largest → Alone widths w → Alone widths (after m w)
  same_alone w m stages largests alone over =
      let e : seats widths (after m w) ≡ seats widths w = ap (λ (f : ℕ → Stage). tally (λ r. seats_at (f r) (width widths r)) (length widths)) stages in
      let s = alone (omega arith) in (
        s.0,
        record {
          is_request = s.1.is_request;
          is_standing = ap (λ (f : ℕ → Stage). f s.0) stages ∙ s.1.is_standing;
          is_over_wide = let over_wide = s.1.is_over_wide in omega arith;
          is_alone = λ j l st. s.1.is_alone j l (sym (ap (λ (f : ℕ → Stage). f j) stages) ∙ st);
        },
      )

-- the limit is at most the largest so far
pub limit-le-largest : (o : Opening) (ms : List Move) → (world o ms).limit ≤ (world o ms).largest
limit-le-largest o [] = omega arith
limit-le-largest o (Take r ∷ ms) = limit-le-largest o ms
limit-le-largest o (Enter r ∷ ms) = limit-le-largest o ms
limit-le-largest o (Grant r ∷ ms) = limit-le-largest o ms
limit-le-largest o (Leave r ∷ ms) = limit-le-largest o ms
limit-le-largest o (Decide r d ∷ ms) = limit-le-largest o ms
limit-le-largest o (Release r ∷ ms) = limit-le-largest o ms
limit-le-largest o (Close ∷ ms) = limit-le-largest o ms
limit-le-largest o (SetLimit n ∷ ms) = omega arith
limit-le-largest o (See r ∷ ms) = limit-le-largest o ms

pub is_alone : (o : Opening) (ms : List Move) → AreWidths o.widths → IsSchedule o ms → Alone o.widths (world o ms)
is_alone o [] wide s = λ over. let e : seats o.widths (world o []) ≡ 0 = tally_nothing (λ r. seats_at ((world o []).stage r) (width o.widths r)) (length o.widths) (λ j l. refl) in absurd (omega arith)
is_alone o (Take r ∷ ms) wide s = fits_alone o.widths wide (world o ms) r Away (limit-le-largest o ms) s.0.is_request s.0.has_not_come refl s.0.fits
is_alone o (Enter r ∷ ms) wide s = still_alone o.widths wide (world o ms) r Away Waits s.0.is_request s.0.has_not_come (λ e. cc) (λ e. cc) (is_alone o ms wide s.1)
is_alone o (Grant r ∷ ms) wide s = fits_alone o.widths wide (world o ms) r Waits (limit-le-largest o ms) s.0.is_request s.0.is_waiting refl s.0.fits
is_alone o (Leave r ∷ ms) wide s = still_alone o.widths wide (world o ms) r Waits Gone s.0.is_request s.0.is_waiting (λ e. cc) (λ e. cc) (is_alone o ms wide s.1)
is_alone o (Decide r d ∷ ms) wide s = same_alone o.widths wide (world o ms) (Decide r d) refl refl (is_alone o ms wide s.1)
is_alone o (Release r ∷ ms) wide s = less_alone o.widths wide (world o ms) r s.0.is_request s.0.is_standing (is_alone o ms wide s.1)
is_alone o (Close ∷ ms) wide s = same_alone o.widths wide (world o ms) Close refl refl (is_alone o ms wide s.1)
is_alone o (SetLimit n ∷ ms) wide s = limit_alone o.widths wide (world o ms) n (is_alone o ms wide s.1)
is_alone o (See r ∷ ms) wide s = same_alone o.widths wide (world o ms) (See r) refl refl (is_alone o ms wide s.1)

-- so the seats are at most the greater of that limit and the widest width
pub seats_bounded : (o : Opening) (ms : List Move) (most : ℕ) → AreWidths o.widths → IsSchedule o ms → (world o ms).largest ≤ most → 20000 ≤ most → seats o.widths (world o ms) ≤ most
seats_bounded o ms most wide s low high = dite (dec_le (seats o.widths (world o ms)) most) (λ e. e)
    (λ past. let a = is_alone o ms wide s (omega arith) in let all : seats o.widths (world o ms) ≡ width o.widths a.0 = alone_seats o.widths (world o ms) a.0 a.1 in
    let narrow : width o.widths a.0 ≤ 20000 = (wide a.0 a.1.is_request).1 in absurd (omega arith))
