-- The most of spans is that at the beginning of one of them.
use Rattle.std.proofs.Common.{◌≡◌, ℕ, suc, ◌+◌, ◌<◌, ◌≤◌, max, List, [], ◌∷◌, length, get_or, drop, drop-cons, Bool, true, false, cond, ◌⊎◌, inl, inr, refl, sym, ◌∙◌, ap, subst, arith, le_refl, le_of_eq}
use Rattle.std.specs.Prelude.{map, ◌&&◌, nat_le, nat_lt}
use Rattle.std.proofs.lemmas.Bool.{cases_lt, and_parts, and_from, leb-true, ltb-true, le-leb, lt-ltb, cond-true}
use Rattle.std.proofs.lemmas.List.Sums.{sum_by-cons}
use Rattle.apf_picture.specs.declared.life.Life.{Life}
use Rattle.apf_picture.specs.declared.span.Span.{Span}
use Rattle.apf_picture.specs.Columns.{IsMost, seats_at, length_at, seats_held, stands, is_in, columns, time_of, tops_of, lengths_of}
use Rattle.apf_picture.specs.Spans.{held_at, held, columns_of, before_seats, seat_spans, before_wait, wait_spans}

-- the most at the beginnings of some of the spans
abbrev pub most_from : List Span → List Span → ℕ
most_from all [] = 0
most_from all (span ∷ spans) = max (held all span.from) (most_from all spans)

abbrev is_there : ℕ → Span → Bool
is_there time span = nat_le span.from time && nat_lt time span.to

-- the last beginning of those that are there at the time
abbrev latest_by : Bool → ℕ → ℕ → ℕ
latest_by true from rest = max from rest
latest_by false from rest = rest

abbrev latest : ℕ → List Span → ℕ
latest time [] = 0
latest time (span ∷ spans) = latest_by (is_there time span) span.from (latest time spans)

-- what is there at a time is there from its beginning until then
there_from : (b : Bool) (time u rest : ℕ) (s : Span) → is_there time s ≡ b → latest_by b s.from rest ≤ u → u ≤ time → cond b s.amount 0 ≤ held_at u s
there_from false time u rest s e h k = omega arith
there_from true time u rest s e h k =
    let parts = and_parts (nat_le s.from time) (nat_lt time s.to) e in
    let last = ltb-true time s.to parts.1 in
    let begun : s.from ≤ u = omega (arith, h) in
    let goes_on : u < s.to = omega (arith, last, k) in
    le_of_eq (sym (cond-true (is_there u s) s.amount 0 (and_from (nat_le s.from u) (nat_lt u s.to) (le-leb s.from u begun) (lt-ltb u s.to goes_on))))

rest_below : (b : Bool) (from rest u : ℕ) → latest_by b from rest ≤ u → rest ≤ u
rest_below true from rest u h = omega (arith, h)
rest_below false from rest u h = h

held_from : (spans : List Span) (time u : ℕ) → latest time spans ≤ u → u ≤ time → held spans time ≤ held spans u
held_from [] time u h k = le_refl 0
held_from (s ∷ ss) time u h k =
    let here : held_at time s ≤ held_at u s = there_from (is_there time s) time u (latest time ss) s refl h k in
    let rest = held_from ss time u (rest_below (is_there time s) s.from (latest time ss) u h) k in
    omega (arith, here, rest, sum_by-cons (held_at time) s ss, sum_by-cons (held_at u) s ss)

within_by : (b : Bool) (time rest : ℕ) (s : Span) → is_there time s ≡ b → rest ≤ time → latest_by b s.from rest ≤ time
within_by true time rest s e h = omega (arith, h, leb-true s.from time (and_parts (nat_le s.from time) (nat_lt time s.to) e).0)
within_by false time rest s e h = h

latest_within : (spans : List Span) (time : ℕ) → latest time spans ≤ time
latest_within [] time = omega arith
latest_within (s ∷ ss) time = within_by (is_there time s) time (latest time ss) s refl (latest_within ss time)

-- none of the spans is there, or as much as at the last beginning is at one of the beginnings
abbrev IsFound : (all : List Span) (last there most : ℕ) → Type 0
IsFound all last there most = ((last ≡ 0) × (there ≡ 0)) ⊎ (held all last ≤ most)

pick : (all : List Span) (from last most : ℕ) → (from < last) ⊎ (last ≤ from) → held all last ≤ most → held all (max from last) ≤ max (held all from) most
pick all from last most (inl less) is =
    let e : last ≡ max from last = omega (arith, less) in
    subst (λ (t : ℕ). held all t ≤ max (held all from) most) e (omega (arith, is))
pick all from last most (inr more) is =
    let e : from ≡ max from last = omega (arith, more) in
    subst (λ (t : ℕ). held all t ≤ max (held all from) most) e (omega arith)

found_more : (b : Bool) (all : List Span) (s : Span) (last there most : ℕ) → IsFound all last there most
    → IsFound all (latest_by b s.from last) (cond b s.amount 0 + there) (max (held all s.from) most)
found_more false all s last there most (inl none) = inl (none.0, omega (arith, none.1))
found_more false all s last there most (inr is) = inr (omega (arith, is))
found_more true all s last there most (inl none) =
    let e : s.from ≡ max s.from last = omega (arith, none.0) in
    inr (subst (λ (t : ℕ). held all t ≤ max (held all s.from) most) e (omega arith))
found_more true all s last there most (inr is) = inr (pick all s.from last most (cases_lt s.from last) is)

found : (all spans : List Span) (time : ℕ) → IsFound all (latest time spans) (held spans time) (most_from all spans)
found all [] time = inl (refl, refl)
found all (s ∷ ss) time =
    subst (λ (n : ℕ). IsFound all (latest time (s ∷ ss)) n (most_from all (s ∷ ss))) (sym (sum_by-cons (held_at time) s ss))
    (found_more (is_there time s) all s (latest time ss) (held ss time) (most_from all ss) (found all ss time))

above_by : (spans : List Span) (time : ℕ) → IsFound spans (latest time spans) (held spans time) (most_from spans spans) → held spans time ≤ most_from spans spans
above_by spans time (inl none) = omega (arith, none.1)
above_by spans time (inr is) = omega (arith, is, held_from spans time (latest time spans) (le_refl (latest time spans)) (latest_within spans time))

-- the most at the beginnings is at one of them
reached_by : (all : List Span) (from most : ℕ) → (most < held all from) ⊎ (held all from ≤ most) → ((time : ℕ) × (held all time ≡ most)) → (time : ℕ) × (held all time ≡ max (held all from) most)
reached_by all from most (inl less) at = (from, omega (arith, less))
reached_by all from most (inr more) at = (at.0, omega (arith, more, at.1))

reached : (all : List Span) (s : Span) (ss : List Span) → (time : ℕ) × (held all time ≡ most_from all (s ∷ ss))
reached all s [] = (s.from, omega arith)
reached all s (t ∷ ts) = reached_by all s.from (most_from all (t ∷ ts)) (cases_lt (most_from all (t ∷ ts)) (held all s.from)) (reached all t ts)

pub most_is : (spans : List Span) → IsMost (held spans) (most_from spans spans)
most_is [] = record { above = λ time. le_refl 0; time = 0; reached = refl }
most_is (s ∷ ss) = record {
  above = λ time. above_by (s ∷ ss) time (found (s ∷ ss) (s ∷ ss) time);
  time = (reached (s ∷ ss) s ss).0;
  reached = (reached (s ∷ ss) s ss).1;
}

-- the spans of seats have the seats, and those of waits the length of the queue
seats_more : (b : Bool) (life : Life) (spans : List Span) (time : ℕ) → held (before_seats b life spans) time ≡ cond (b && nat_le life.until time && nat_lt time life.ends) life.seats 0 + held spans time
seats_more true life spans time = sum_by-cons (held_at time) (record { from = life.until; to = life.ends; amount = life.seats }) spans
seats_more false life spans time = omega arith

pub seats_same : (lives : List Life) (row time : ℕ) → held (seat_spans lives row) time ≡ seats_at lives row time
seats_same [] row time = refl
seats_same (life ∷ lives) row time =
    seats_more (nat_le life.row row) life (seat_spans lives row) time
    ∙ ap (λ (n : ℕ). seats_held row time life + n) (seats_same lives row time)
    ∙ sym (sum_by-cons (seats_held row time) life lives)

waits_more : (b : Bool) (life : Life) (spans : List Span) (time : ℕ) → held (before_wait b life spans) time ≡ cond (b && nat_le life.arrives time && nat_lt time life.until) 1 0 + held spans time
waits_more true life spans time = sum_by-cons (held_at time) (record { from = life.arrives; to = life.until; amount = 1 }) spans
waits_more false life spans time = omega arith

pub waits_same : (lives : List Life) (queue time : ℕ) → held (wait_spans lives queue) time ≡ length_at lives queue time
waits_same [] queue time = refl
waits_same (life ∷ lives) queue time =
    waits_more (is_in queue life.queue) life (wait_spans lives queue) time
    ∙ ap (λ (n : ℕ). cond (stands queue time life) 1 0 + n) (waits_same lives queue time)
    ∙ sym (sum_by-cons (λ (l : Life). cond (stands queue time l) 1 0) life lives)

map_same : (f g : ℕ → ℕ) → ((n : ℕ) → f n ≡ g n) → (ns : List ℕ) → map f ns ≡ map g ns
map_same f g same [] = refl
map_same f g same (n ∷ ns) = ap (λ (m : ℕ). m ∷ map f ns) (same n) ∙ ap (λ (ms : List ℕ). g n ∷ ms) (map_same f g same ns)

pub columns_of_seats : (lives : List Life) (end row : ℕ) → columns_of (held (seat_spans lives row)) end ≡ tops_of lives end row
unfolding columns_of tops_of
columns_of_seats lives end row =
    map_same (λ (column : ℕ). held (seat_spans lives row) (time_of end column)) (λ (column : ℕ). seats_at lives row (time_of end column)) (λ column. seats_same lives row (time_of end column)) columns

pub columns_of_waits : (lives : List Life) (end queue : ℕ) → columns_of (held (wait_spans lives queue)) end ≡ lengths_of lives end queue
unfolding columns_of lengths_of
columns_of_waits lives end queue =
    map_same (λ (column : ℕ). held (wait_spans lives queue) (time_of end column)) (λ (column : ℕ). length_at lives queue (time_of end column)) (λ column. waits_same lives queue (time_of end column)) columns

most_same : (f g : ℕ → ℕ) → ((n : ℕ) → f n ≡ g n) → (most : ℕ) → IsMost f most → IsMost g most
most_same f g same most is = record {
  above = λ time. subst (λ (n : ℕ). n ≤ most) (same time) (is.above time);
  time = is.time;
  reached = sym (same is.time) ∙ is.reached;
}

pub most_of_seats : (lives : List Life) (row most : ℕ) → IsMost (held (seat_spans lives row)) most → IsMost (seats_at lives row) most
most_of_seats lives row most is = most_same (held (seat_spans lives row)) (seats_at lives row) (seats_same lives row) most is

pub most_of_waits : (lives : List Life) (queue most : ℕ) → IsMost (held (wait_spans lives queue)) most → IsMost (length_at lives queue) most
most_of_waits lives queue most is = most_same (held (wait_spans lives queue)) (length_at lives queue) (waits_same lives queue) most is

-- the most at the beginnings that are left, by the next of them
pub most_drop : (all spans : List Span) (i : ℕ) (d : Span) → i < length spans → most_from all (drop i spans) ≡ max (held all (get_or spans i d).from) (most_from all (drop (i + 1) spans))
most_drop all spans i d within =
    let next : suc i ≡ i + 1 = omega arith in
    ap (most_from all) (drop-cons spans i d within) ∙ ap (λ (k : ℕ). max (held all (get_or spans i d).from) (most_from all (drop k spans))) next
