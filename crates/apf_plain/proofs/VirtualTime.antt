-- How large the numbers of a history can be.
use Rattle.std.proofs.Common.{◌≡◌, ℕ, suc, ◌+◌, ◌*◌, ◌≤◌, List, [], ◌∷◌, length, slice_index, ap, subst, arith}
use Rattle.std.proofs.Math.Decide.{dec_lt}
use Rattle.std.proofs.lemmas.List.{get_or_past}
use Rattle.std.specs.Prelude.{max}
use mathlib.Core.Logic.{dite}
use native.Mathlib.Decide.{ℕ_discrete}
use Rattle.apf_history.specs.declared.events.Event.{Event}
use Rattle.apf_history.specs.declared.events.Event.TheVariants.{Enter, Full, Dispatch, Strike}
use Rattle.apf_history.specs.Numbered.{put, width}
use Rattle.apf_history.specs.History.{waiting}
use Rattle.apf_history.specs.Fair.{Numbers, after_enter, after_event, numbers}
use Rattle.apf_plain.specs.declared.virtual_time.Numbers.{Numbers as PlainNumbers}
use Rattle.apf_plain.specs.Histories.{AreNumbers}
use Rattle.apf_plain.proofs.Sums.{put_here, put_else}

-- no number is above this
pub record AreBelow (most : ℕ) (v : Numbers) : Type 0 where
  pub next : (q : ℕ) → v.next q ≤ most
  pub virtual_time : v.virtual_time ≤ most

put_below : (f : ℕ → ℕ) (p x most : ℕ) → ((q : ℕ) → f q ≤ most) → x ≤ most → (q : ℕ) → put f p x q ≤ most
put_below f p x most h l q = dite (ℕ_discrete q p)
    (λ e. let a : put f p x q ≡ put f p x p = ap (put f p x) e in let b = put_here f p x in omega arith)
    (λ other. let a = put_else f p x q other in let b = h q in omega arith)

enter_below : (q : ℕ) (queue : List ℕ) (v : Numbers) (most : ℕ) → AreBelow most v → AreBelow most (after_enter q queue v)
enter_below q [] v most b = record { next = put_below v.next q (max (v.next q) v.virtual_time) most b.next (let c = b.next q in let d = b.virtual_time in omega arith); virtual_time = b.virtual_time }
enter_below q (r ∷ rs) v most b = b

follow_below : (widths : List ℕ) (h : List Event) (e : Event) (v : Numbers) (most widest : ℕ) → ((r : ℕ) → width widths r ≤ widest) → AreBelow most v → AreBelow (most + widest) (after_event widths h e v)
follow_below widths h (Enter r q) v most widest w b = let c = enter_below q (waiting h q) v most b in
    record { next = λ p. (let d = c.next p in omega arith); virtual_time = let d = c.virtual_time in omega arith }
follow_below widths h (Full r q) v most widest w b = record { next = λ p. (let d = b.next p in omega arith); virtual_time = let d = b.virtual_time in omega arith }
follow_below widths h (Dispatch r q) v most widest w b =
    let now = b.virtual_time in let from = b.next q in let wide = w r in
    record {
      next = put_below v.next q (v.next q + width widths r) (most + widest) (λ p. (let d = b.next p in omega arith)) (omega arith);
      virtual_time = omega arith;
    }
follow_below widths h (Strike r q) v most widest w b = record { next = λ p. (let d = b.next p in omega arith); virtual_time = let d = b.virtual_time in omega arith }

-- each event adds one width at most
pub numbers_below : (queues : ℕ) (widths : List ℕ) (widest : ℕ) → ((r : ℕ) → width widths r ≤ widest) → (h : List Event) → AreBelow (length h * widest) (numbers queues widths h)
numbers_below queues widths widest w [] = record { next = λ q. omega arith; virtual_time = omega arith }
numbers_below queues widths widest w (e ∷ h) = let b = numbers_below queues widths widest w h in
    let more : AreBelow (length h * widest + widest) (after_event widths h e (numbers queues widths h)) = follow_below widths h e (numbers queues widths h) (length h * widest) widest w b in
    let same : length h * widest + widest ≡ suc (length h) * widest = omega arith in
    subst (λ (n : ℕ). AreBelow n (numbers queues widths (e ∷ h))) same more

-- so are the plain numbers of each queue
pub items_below : (queues most : ℕ) (v : Numbers) (p : PlainNumbers) → AreNumbers queues v p → AreBelow most v → (q : ℕ) → slice_index p.next.items q ≤ most
items_below queues most v p same below q = dite (dec_lt q queues)
    (λ inside. let e = same.next q inside in let b = below.next q in omega arith)
    (λ past. let e = get_or_past p.next.items q 0 (let n = same.one_for_each in omega arith) in omega arith)
