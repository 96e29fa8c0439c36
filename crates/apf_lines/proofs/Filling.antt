-- What is read comes behind what was read and is not yet cut off.
use Rattle.std.proofs.Common.{◌≡◌, ◌≢◌, ℕ, ◌+◌, ◌-◌, ◌<◌, ◌≤◌, List, [], ◌++◌, Bool, true, false, length, take, drop, refl, ap, ◌∙◌, subst, arith}
use Rattle.std.specs.Prelude.{nat_lt, ◌||◌, if◌then◌else◌}
use Rattle.std.proofs.Math.Seq.{take-add}
use Rattle.std.proofs.lemmas.Bool.Decides.{nat_tests}
use Rattle.std.proofs.lemmas.List.{append_assoc, append-nil, length-append, length-take, length-drop}
use Rattle.std.proofs.lemmas.List.Elements.{All-append}
use Rattle.apf_lines.specs.Lines.{lf, HasNoLf, AreUncut, AreDropped}
use Rattle.apf_lines.specs.Buffer.{between}

-- what was dropped, and what is kept of the same line and dropped now
dropped_more : (longest : ℕ) (kept : List ℕ) (is_skipped : Bool) (dropped : List ℕ) → HasNoLf kept → longest < length dropped + length kept → AreDropped longest is_skipped dropped
    → AreDropped longest true (dropped ++ kept)
dropped_more longest kept true dropped whole long are = (omega (arith, length-append dropped kept, are.0), All-append (λ b. b ≢ lf) dropped kept are.1 whole)
dropped_more longest kept false dropped whole long are = rw are (omega (arith, long, ap length are), whole)

-- bytes come behind those that are kept
pub kept_more : (longest : ℕ) (last kept given rest : List ℕ) (is_skipped : Bool) → AreUncut rest (record { longest = longest; line = last; kept = kept; is_skipped = is_skipped })
    → AreUncut (rest ++ given) (record { longest = longest; line = []; kept = kept ++ given; is_skipped = is_skipped })
kept_more longest last kept given rest is_skipped u = record {
  dropped = u.dropped;
  are = u.are;
  both = ap (λ (r : List ℕ). r ++ given) u.both ∙ append_assoc u.dropped kept given;
}

-- bytes come behind those that are dropped now
pub dropped_before : (longest : ℕ) (last kept given rest : List ℕ) (is_skipped : Bool) → HasNoLf kept → ((dropped : List ℕ) → AreDropped longest is_skipped dropped → longest < length dropped + length kept)
    → AreUncut rest (record { longest = longest; line = last; kept = kept; is_skipped = is_skipped })
    → AreUncut (rest ++ given) (record { longest = longest; line = []; kept = given; is_skipped = true })
dropped_before longest last kept given rest is_skipped whole long u = record {
  dropped = u.dropped ++ kept;
  are = dropped_more longest kept is_skipped u.dropped whole (long u.dropped u.are) u.are;
  both = ap (λ (r : List ℕ). r ++ given) u.both;
}

-- a buffer whose first bytes are those that were kept: of this many bytes more
kept_in : (start kept count : ℕ) (old moved new : List ℕ) → take kept moved ≡ take kept (drop start old) → take kept new ≡ take kept moved
    → take (kept + count) new ≡ take kept (drop start old) ++ take count (drop kept new)
kept_in start kept count old moved new m s = take-add kept count new ∙ ap (λ (xs : List ℕ). xs ++ take count (drop kept new)) (s ∙ m)

long_by : (longest : ℕ) (kept : List ℕ) (size : ℕ) (is_skipped : Bool) → length kept ≡ size → true ≡ (is_skipped || nat_lt longest size) → (dropped : List ℕ) → AreDropped longest is_skipped dropped → longest < length dropped + length kept
long_by longest kept size true same long dropped are = omega (arith, are.0)
long_by longest kept size false same long dropped are =
    let more : longest < size = grind (arith, nat_tests) in
    omega (arith, more, same)

-- what a buffer holds that is to be filled: whether a beginning was dropped, how many bytes are kept in front, and the bytes
pub record IsReady (longest start end : ℕ) (old : List ℕ) (was_skipped is_skipped : Bool) (kept : ℕ) (new : List ℕ) : Type 0 where
  pub order : start ≤ end
  pub inside : end ≤ length old
  pub skips : is_skipped ≡ (was_skipped || nat_lt longest (end - start))
  pub keeps : kept ≡ (if is_skipped then 0 else end - start)
  pub moved : take kept new ≡ take kept (drop start old)

filled_front : (longest start end : ℕ) (last old : List ℕ) (was_skipped is_skipped : Bool) (kept count : ℕ) (new rest : List ℕ)
    → IsReady longest start end old was_skipped is_skipped kept new → HasNoLf (between start end old)
    → AreUncut rest (record { longest = longest; line = last; kept = between start end old; is_skipped = was_skipped })
    → AreUncut (rest ++ take count (drop kept new)) (record { longest = longest; line = []; kept = take (kept + count) new; is_skipped = is_skipped })
filled_front longest start end last old was_skipped true kept count new rest is whole u =
    let size : length (between start end old) ≡ end - start = omega (arith, length-take (end - start) (drop start old), length-drop start old, is.order, is.inside) in
    let gone : kept ≡ 0 = is.keeps in
    let so_many : kept + count ≡ count = omega (arith, gone) in
    rw (so_many, gone) (dropped_before longest last (between start end old) (take count new) rest was_skipped whole (long_by longest (between start end old) (end - start) was_skipped size is.skips) u)
filled_front longest start end last old true false kept count new rest is whole u = absurd cc
filled_front longest start end last old false false kept count new rest is whole u =
    let same : take kept (drop start old) ≡ between start end old = ap (λ n. take n (drop start old)) is.keeps in
    rw (kept_in start kept count old new new is.moved refl, same) (kept_more longest last (between start end old) (take count (drop kept new)) rest false u)

-- the bytes up to a place are those from the front to it
up_to : (n : ℕ) (bytes : List ℕ) → take n bytes ≡ between 0 n bytes
up_to n bytes = ap (λ (m : ℕ). take m bytes) (omega arith)

pub filled : (longest start end : ℕ) (last old : List ℕ) (was_skipped is_skipped : Bool) (kept count : ℕ) (new rest : List ℕ)
    → IsReady longest start end old was_skipped is_skipped kept new → HasNoLf (between start end old)
    → AreUncut rest (record { longest = longest; line = last; kept = between start end old; is_skipped = was_skipped })
    → AreUncut (rest ++ take count (drop kept new)) (record { longest = longest; line = []; kept = between 0 (kept + count) new; is_skipped = is_skipped })
filled longest start end last old was_skipped is_skipped kept count new rest is whole u =
    subst (λ (all : List ℕ). AreUncut (rest ++ take count (drop kept new)) (record { longest = longest; line = []; kept = all; is_skipped = is_skipped })) (up_to (kept + count) new)
    (filled_front longest start end last old was_skipped is_skipped kept count new rest is whole u)

-- what came behind is as long as the reader said
pub came : (kept count : ℕ) (new : List ℕ) → kept + count ≤ length new → length (take count (drop kept new)) ≡ count
came kept count new inside = omega (arith, length-take count (drop kept new), length-drop kept new, inside)

-- a reader that failed gave nothing
pub stayed : (longest start end : ℕ) (last old : List ℕ) (was_skipped is_skipped : Bool) (kept : ℕ) (new rest : List ℕ)
    → IsReady longest start end old was_skipped is_skipped kept new → HasNoLf (between start end old)
    → AreUncut rest (record { longest = longest; line = last; kept = between start end old; is_skipped = was_skipped })
    → AreUncut rest (record { longest = longest; line = []; kept = between 0 kept new; is_skipped = is_skipped })
stayed longest start end last old was_skipped is_skipped kept new rest is whole u =
    let all = filled longest start end last old was_skipped is_skipped kept 0 new rest is whole u in
    subst (λ (r : List ℕ). AreUncut r (record { longest = longest; line = []; kept = between 0 kept new; is_skipped = is_skipped })) (append-nil rest)
    (subst (λ (n : ℕ). AreUncut (rest ++ []) (record { longest = longest; line = []; kept = between 0 n new; is_skipped = is_skipped })) (omega arith) all)
