-- What names share at their beginning, and its last separator.
use Rattle.std.proofs.Common.{◌≡◌, ℕ, ◌+◌, ◌≤◌, List, [], ◌∷◌, length, Bool, true, false, true≢false, refl, sym, ◌∙◌, ap, ◌<◌, suc, get_or, drop, drop-cons, arith}
use Rattle.std.specs.Prelude.{◌||◌, if◌then◌else◌}
use Rattle.apf_picture.specs.Labels.{Called}
use Rattle.apf_picture.specs.Cuttings.{common_to_all, is_separator, has_separator, behind_separator}

-- no more is shared than the first name has
pub at_most_all : (first : List ℕ) (labels : List Called) → common_to_all first labels ≤ length first
at_most_all first [] = omega arith
at_most_all first (label ∷ labels) = omega (arith, at_most_all first labels)

-- without a separator there is nothing up to it
none_by : (s h : Bool) (n : ℕ) → (s || h) ≡ false → (if (s || h) then n + 1 else 0) ≡ 0
none_by true h n e = absurd (true≢false e)
none_by false true n e = absurd (true≢false e)
none_by false false n e = refl

pub none_behind : (text : List ℕ) → has_separator text ≡ false → behind_separator text ≡ 0
none_behind [] e = refl
none_behind (c ∷ cs) e = none_by (is_separator c) (has_separator cs) (behind_separator cs) e

whole_by : (h : Bool) (n : ℕ) → (h ≡ false → n ≡ 0) → (if h then n + 0 else 0) ≡ n
whole_by true n z = omega arith
whole_by false n z = omega (arith, z refl)

-- at first all is left
pub whole_behind : (text : List ℕ) → (if has_separator text then behind_separator text + 0 else 0) ≡ behind_separator text
whole_behind text = whole_by (has_separator text) (behind_separator text) (none_behind text)

-- one character more that is a separator, and one that is none
separator_by : (s h : Bool) (n p b : ℕ) → s ≡ true → (h ≡ false → n ≡ 0) → (if h then n + (p + 1) else p + 1) ≡ (if (s || h) then (if (s || h) then n + 1 else 0) + p else b)
separator_by true true n p b e z = omega arith
separator_by true false n p b e z = omega (arith, z refl)
separator_by false h n p b e z = absurd (true≢false (sym e))

other_by : (s h : Bool) (n p b : ℕ) → s ≡ false → (if h then n + (p + 1) else b) ≡ (if (s || h) then (if (s || h) then n + 1 else 0) + p else b)
other_by false true n p b e = omega arith
other_by false false n p b e = refl
other_by true h n p b e = absurd (true≢false e)

pub separator_more : (c p b : ℕ) (cs : List ℕ) → is_separator c ≡ true
    → (if has_separator cs then behind_separator cs + (p + 1) else p + 1) ≡ (if has_separator (c ∷ cs) then behind_separator (c ∷ cs) + p else b)
separator_more c p b cs e = separator_by (is_separator c) (has_separator cs) (behind_separator cs) p b e (none_behind cs)

pub other_more : (c p b : ℕ) (cs : List ℕ) → is_separator c ≡ false
    → (if has_separator cs then behind_separator cs + (p + 1) else b) ≡ (if has_separator (c ∷ cs) then behind_separator (c ∷ cs) + p else b)
other_more c p b cs e = other_by (is_separator c) (has_separator cs) (behind_separator cs) p b e

-- the characters from a place on are that at the place, and those behind it
from_place : (text : List ℕ) (p c : ℕ) → p < length text → c ≡ get_or text p c → drop p text ≡ c ∷ drop (p + 1) text
from_place text p c within is =
    let next : suc p ≡ p + 1 = omega arith in
    drop-cons text p c within ∙ ap (λ (d : ℕ). d ∷ drop (suc p) text) (sym is) ∙ ap (λ (k : ℕ). c ∷ drop k text) next

abbrev pub behind_or : List ℕ → (place behind : ℕ) → ℕ
behind_or text place behind = if has_separator text then behind_separator text + place else behind

pub separator_at : (text : List ℕ) (p c b new whole : ℕ) → p < length text → c ≡ get_or text p c → is_separator c ≡ true → new ≡ p + 1
    → behind_or (drop p text) p b ≡ whole → behind_or (drop (p + 1) text) (p + 1) new ≡ whole
separator_at text p c b new whole within is e n h =
    ap (behind_or (drop (p + 1) text) (p + 1)) n ∙ separator_more c p b (drop (p + 1) text) e ∙ sym (ap (λ (t : List ℕ). behind_or t p b) (from_place text p c within is)) ∙ h

pub other_at : (text : List ℕ) (p c b new whole : ℕ) → p < length text → c ≡ get_or text p c → is_separator c ≡ false → new ≡ b
    → behind_or (drop p text) p b ≡ whole → behind_or (drop (p + 1) text) (p + 1) new ≡ whole
other_at text p c b new whole within is e n h =
    ap (behind_or (drop (p + 1) text) (p + 1)) n ∙ other_more c p b (drop (p + 1) text) e ∙ sym (ap (λ (t : List ℕ). behind_or t p b) (from_place text p c within is)) ∙ h
