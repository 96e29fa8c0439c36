-- The area under spans is what they have for themselves, if they are over by its end.
use Rattle.std.proofs.Common.{◌≡◌, ℕ, zero, suc, ◌+◌, ◌*◌, ◌-◌, ◌≤◌, true, false, List, [], ◌∷◌, cond, Option, Some, None, refl, sym, ap, ◌∙◌, subst, arith}
use Rattle.std.specs.List.{AllByRecursion}
use Rattle.std.proofs.lemmas.Bool.{lt-leb, le-leb, lt-ltb, le-ltb, and_left, and_right, and_from}
use Rattle.std.proofs.Math.Nat.{le-max_left, le-max_right}
use Rattle.apf_words.specs.declared.decision.Decision.{Decision}
use Rattle.apf_times.specs.declared.course.Times.{Times}
use Rattle.apf_stream.specs.declared.ended.Ended.{Ended}
use Rattle.apf_stream.specs.Runs.{IsCourse, IsHonoured}
use Rattle.apf_stream.specs.Waits.{wait_of, waited_until}
use Rattle.apf_rows.specs.Accounts.{AreSums, greatest, seat_time_of, taken, total}
use Rattle.apf_rows.specs.Areas.{AreAreas, Span, counts_at, area, held, holdings, waits}
use Rattle.apf_rows.specs.declared.sums.Sums.{Sums}

-- the sum of what each span has for itself
sum_of : List Span → ℕ
sum_of [] = 0
sum_of (s ∷ spans) = s.height * s.length + sum_of spans

-- the area under one span
one : ℕ → Span → ℕ
one zero s = 0
one (suc time) s = one time s + cond (counts_at time s) s.height 0

-- the area is a sum over the spans
split : (time : ℕ) (s : Span) (spans : List Span) → area time (s ∷ spans) ≡ one time s + area time spans
unfolding one
split zero s spans = refl
split (suc time) s spans = (let e = split time s spans in omega arith)

none : (time : ℕ) → area time [] ≡ 0
none zero = refl
none (suc time) = (let e = none time in omega arith)

-- there is none before the span
nothing_before : (time : ℕ) (s : Span) → time ≤ s.from → one time s ≡ 0
unfolding one
nothing_before zero s h = refl
nothing_before (suc time) s h =
    let off : counts_at time s ≡ false = and_left _ _ (lt-leb s.from time (omega arith)) in
    let e = nothing_before time s (omega arith) in
    rw off (omega arith)

-- it grows while the span lasts
rising : (s : Span) (k : ℕ) → k ≤ s.length → one (s.from + k) s ≡ s.height * k
unfolding one
rising s zero h =
    let same : s.from + 0 ≡ s.from = omega arith in
    ap (λ time. one time s) same ∙ (nothing_before s.from s (omega arith) ∙ omega arith)
rising s (suc k) h =
    let same : s.from + suc k ≡ suc (s.from + k) = omega arith in
    let on : counts_at (s.from + k) s ≡ true = and_from _ _ (le-leb s.from (s.from + k) (omega arith)) (lt-ltb (s.from + k) (s.from + s.length) (omega arith)) in
    let e = rising s k (omega arith) in
    let grown : one (suc (s.from + k)) s ≡ one (s.from + k) s + s.height = rw on refl in
    ap (λ time. one time s) same ∙ (grown ∙ omega arith)

-- it stays after the span
staying : (s : Span) (k : ℕ) → one (s.from + s.length + k) s ≡ s.height * s.length
unfolding one
staying s zero =
    let same : s.from + s.length + 0 ≡ s.from + s.length = omega arith in
    ap (λ time. one time s) same ∙ rising s s.length (omega arith)
staying s (suc k) =
    let same : s.from + s.length + suc k ≡ suc (s.from + s.length + k) = omega arith in
    let off : counts_at (s.from + s.length + k) s ≡ false = and_right _ _ (le-ltb (s.from + s.length + k) (s.from + s.length) (omega arith)) in
    let stayed : one (suc (s.from + s.length + k)) s ≡ one (s.from + s.length + k) s + 0 = rw off refl in
    let e = staying s k in
    ap (λ time. one time s) same ∙ (stayed ∙ omega arith)

whole : (time : ℕ) (s : Span) → s.from + s.length ≤ time → one time s ≡ s.height * s.length
whole time s over =
    let same : time ≡ s.from + s.length + (time - (s.from + s.length)) = omega arith in
    ap (λ t. one t s) same ∙ staying s (time - (s.from + s.length))

area_is_sum : (time : ℕ) (spans : List Span) → AllByRecursion (λ s. s.from + s.length ≤ time) spans → area time spans ≡ sum_of spans
unfolding sum_of
area_is_sum time [] over = none time
area_is_sum time (s ∷ spans) over =
    let e = whole time s over.0 in
    let rest = area_is_sum time spans over.1 in
    split time s spans ∙ omega arith

-- what the spans of requests have for themselves
waits_sum : (told : List Ended) → sum_of (waits told) ≡ total wait_of told
unfolding sum_of
waits_sum [] = refl
waits_sum (e ∷ told) = let rest = waits_sum told in omega arith

held_sum : (since : Option ℕ) (runs_for width : ℕ) (spans : List Span) → sum_of (held since runs_for width spans) ≡ taken since (width * runs_for) + sum_of spans
unfolding sum_of
held_sum None runs_for width spans = omega arith
held_sum (Some since) runs_for width spans = omega arith

holdings_sum : (told : List Ended) → sum_of (holdings told) ≡ total seat_time_of told
unfolding sum_of
holdings_sum [] = refl
holdings_sum (e ∷ told) =
    let rest = holdings_sum told in
    let first = held_sum e.since e.hold.asked.times.runs_for e.hold.asked.width (holdings told) in
    omega arith

-- a wait is over by the end of its request
wait_over : (patience : ℕ) (times : Times) (decision : Decision) (since : Option ℕ) (over : ℕ) → IsCourse patience times decision since over → times.arrives_at + (waited_until since over - times.arrives_at) ≤ over
wait_over patience times decision None over is = let c = is.2.came in omega arith
wait_over patience times decision (Some since) over is = let c = is.2.came in let o = is.1 in omega arith

held_over : (patience : ℕ) (times : Times) (decision : Decision) (since : Option ℕ) (over time width : ℕ) (spans : List Span) → IsCourse patience times decision since over → over ≤ time
    → AllByRecursion (λ s. s.from + s.length ≤ time) spans → AllByRecursion (λ s. s.from + s.length ≤ time) (held since times.runs_for width spans)
held_over patience times decision None over time width spans is low rest = rest
held_over patience times decision (Some since) over time width spans is low rest = let o = is.1 in (omega arith, rest)

waits_over : (patience time : ℕ) (told : List Ended) → greatest (λ e. e.over_at) told ≤ time → AllByRecursion (IsHonoured patience) told → AllByRecursion (λ s. s.from + s.length ≤ time) (waits told)
waits_over patience time [] low all = tt
waits_over patience time (e ∷ told) low all =
    let a = le-max_left e.over_at (greatest (λ x. x.over_at) told) in
    let b = le-max_right e.over_at (greatest (λ x. x.over_at) told) in
    let w = wait_over patience e.hold.asked.times e.decision e.since e.over_at all.0 in
    (omega arith, waits_over patience time told (omega arith) all.1)

holdings_over : (patience time : ℕ) (told : List Ended) → greatest (λ e. e.over_at) told ≤ time → AllByRecursion (IsHonoured patience) told → AllByRecursion (λ s. s.from + s.length ≤ time) (holdings told)
holdings_over patience time [] low all = tt
holdings_over patience time (e ∷ told) low all =
    let a = le-max_left e.over_at (greatest (λ x. x.over_at) told) in
    let b = le-max_right e.over_at (greatest (λ x. x.over_at) told) in
    held_over patience e.hold.asked.times e.decision e.since e.over_at time e.hold.asked.width (holdings told) all.0 (omega arith) (holdings_over patience time told (omega arith) all.1)

pub are_areas : (patience : ℕ) (told : List Ended) (s : Sums) → AllByRecursion (IsHonoured patience) told → AreSums told s → AreAreas told s
are_areas patience told s all sums =
    let last = sums.last in
    record {
      waited = sums.waited ∙ (sym (waits_sum told) ∙ sym (area_is_sum s.last (waits told) (waits_over patience s.last told (omega arith) all)));
      seat_time = sums.seat_time ∙ (sym (holdings_sum told) ∙ sym (area_is_sum s.last (holdings told) (holdings_over patience s.last told (omega arith) all)));
    }
