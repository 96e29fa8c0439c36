-- What has begun until a time without what has ended is what there is then.
use Rattle.std.proofs.Common.{◌≡◌, ℕ, zero, suc, ◌+◌, ◌<◌, ◌≤◌, max, List, [], ◌∷◌, length, get_or, Bool, true, false, cond, ◌⊎◌, inl, inr, refl, sym, ◌∙◌, ap, arith}
use Rattle.std.specs.Prelude.{map, take, ◌&&◌, not, nat_le, nat_lt, IsPermutation}
use Rattle.std.specs.List.{AllWithin}
use Rattle.std.proofs.lemmas.Bool.{cases_lt, le-leb, lt-leb, lt-ltb, le-ltb, cond-true, cond-false}
use Rattle.std.proofs.lemmas.List.FromFn.{length-map-range_with_len, get_or-map-range_with_len}
use Rattle.std.proofs.lemmas.List.Sums.{sum_by-cons}
use Rattle.std.proofs.lemmas.List.Sorted.{sum_by-IsPermutation}
use Rattle.apf_picture.specs.declared.span.Span.{Span}
use Rattle.apf_picture.specs.declared.totals.Change.{Change}
use Rattle.apf_picture.specs.Changes.{amount_of, amount_until, sum_until, sum_of_first, AreSums, beginning_of, end_of}
use Rattle.apf_picture.specs.Spans.{held_at, held}

-- a span has ended if it has begun and is no longer there
ended_by : (from to time : ℕ) → (time < from) ⊎ (from ≤ time) → (time < to) ⊎ (to ≤ time) → nat_le (max from to) time ≡ (nat_le from time && not (nat_lt time to))
ended_by from to time (inl early) k =
    lt-leb (max from to) time (omega (arith, early)) ∙ sym (ap (λ (b : Bool). b && not (nat_lt time to)) (lt-leb from time early))
ended_by from to time (inr begun) (inl there) =
    lt-leb (max from to) time (omega (arith, there)) ∙ sym (ap (λ (b : Bool). b && not (nat_lt time to)) (le-leb from time begun) ∙ ap (λ (b : Bool). true && not b) (lt-ltb time to there))
ended_by from to time (inr begun) (inr late) =
    le-leb (max from to) time (omega (arith, begun, late)) ∙ sym (ap (λ (b : Bool). b && not (nat_lt time to)) (le-leb from time begun) ∙ ap (λ (b : Bool). true && not b) (le-ltb time to late))

split : (begun there : Bool) (amount : ℕ) → cond (begun && there) amount 0 + cond (begun && not there) amount 0 ≡ cond begun amount 0
split false there amount = omega arith
split true true amount = omega arith
split true false amount = omega arith

span_same : (time : ℕ) (span : Span) → held_at time span + amount_until time (end_of span) ≡ amount_until time (beginning_of span)
span_same time span =
    ap (λ (ended : Bool). held_at time span + cond ended span.amount 0) (ended_by span.from span.to time (cases_lt time span.from) (cases_lt time span.to))
    ∙ split (nat_le span.from time) (nat_lt time span.to) span.amount

spans_same : (spans : List Span) (time : ℕ) → held spans time + sum_until time (map end_of spans) ≡ sum_until time (map beginning_of spans)
spans_same [] time = omega arith
spans_same (s ∷ ss) time =
    let ends = sum_by-cons (amount_until time) (end_of s) (map end_of ss) in
    let beginnings = sum_by-cons (amount_until time) (beginning_of s) (map beginning_of ss) in
    omega (arith, span_same time s, spans_same ss time, sum_by-cons (held_at time) s ss, ends, beginnings)

-- the same of the beginnings and the ends in any order
pub timeline_same : (spans : List Span) (begun ended : List Change) → IsPermutation (map beginning_of spans) begun → IsPermutation (map end_of spans) ended
    → (time : ℕ) → held spans time + sum_until time ended ≡ sum_until time begun
timeline_same spans begun ended beginnings ends time =
    omega (arith, spans_same spans time, sum_by-IsPermutation (amount_until time) (map beginning_of spans) begun beginnings, sum_by-IsPermutation (amount_until time) (map end_of spans) ended ends)

none_until : (changes : List Change) (time : ℕ) → AllWithin (λ (it : Change). nat_le it.time time ≡ false) changes 0 (length changes) → sum_until time changes ≡ 0
none_until [] time later = refl
none_until (it ∷ rest) time later =
    let here = cond-false (nat_le it.time time) it.amount 0 (later 0 it (omega arith) (omega arith)) in
    omega (arith, sum_by-cons (amount_until time) it rest, here, none_until rest time (λ k d low high. later (suc k) d (omega arith) (omega arith)))

-- the changes up to the last one that comes until the time are those until the time
pub sum_at_point : (changes : List Change) (count time : ℕ) → AllWithin (λ (it : Change). nat_le it.time time ≡ true) changes 0 count → AllWithin (λ (it : Change). nat_le it.time time ≡ false) changes count (length changes)
    → count ≤ length changes → sum_of_first changes count ≡ sum_until time changes
sum_at_point changes zero time before after within = sym (none_until changes time after)
sum_at_point [] (suc count) time before after within = refl
sum_at_point (it ∷ rest) (suc count) time before after within =
    let here = cond-true (nat_le it.time time) it.amount 0 (before 0 it (omega arith) (omega arith)) in
    let more = sum_at_point rest count time (λ k d low high. before (suc k) d (omega arith) (omega arith)) (λ k d low high. after (suc k) d (omega arith) (omega arith)) (omega arith) in
    omega (arith, sum_by-cons amount_of it (take count rest), sum_by-cons (amount_until time) it rest, here, more)

-- the sum at a place
pub sums_count : (changes : List Change) (sums : List ℕ) → AreSums changes sums → length sums ≡ length changes + 1
sums_count changes sums are = ap length are ∙ length-map-range_with_len (sum_of_first changes) 0 (length changes + 1)

pub sum_at : (changes : List Change) (sums : List ℕ) (count d : ℕ) → AreSums changes sums → count ≤ length changes → get_or sums count d ≡ sum_of_first changes count
sum_at changes sums count d are within =
    ap (λ (ns : List ℕ). get_or ns count d) are ∙ get_or-map-range_with_len (sum_of_first changes) 0 (length changes + 1) count count d (omega arith) (omega arith)
