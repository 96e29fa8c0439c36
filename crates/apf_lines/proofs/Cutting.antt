-- The first line is cut off what was read.
use Rattle.std.proofs.Common.{◌≡◌, ◌≢◌, ℕ, ◌+◌, ◌-◌, ◌<◌, ◌≤◌, List, [], ◌∷◌, ◌++◌, Bool, true, false, length, take, drop, refl, sym, ap, ◌∙◌, arith}
use Rattle.std.proofs.lemmas.List.{append_assoc, length-append, length-take, length-drop, take-take, drop-drop, drop-take}
use Rattle.std.proofs.lemmas.List.Elements.{All-append}
use Rattle.std.specs.Prelude.{nat_lt, ◌||◌, if◌then◌else◌}
use Rattle.std.proofs.lemmas.Bool.Decides.{nat_tests}
use Rattle.apf_lines.specs.declared.lines.Cut.{Cut}
use Rattle.apf_lines.specs.declared.lines.Cut.TheVariants.{Line, TooLong}
use Rattle.apf_lines.specs.Lines.{lf, LinesView, AreUncut, CutsLine, CutsOff}
use Rattle.apf_lines.specs.Buffer.{between, IsFirstLf}

few : (start end : ℕ) (bytes : List ℕ) (count : ℕ) → count < length (between start end bytes) → count < end - start
few start end bytes count within = omega (arith, length-take (end - start) (drop start bytes), within)

-- a line of this many bytes in front of what is kept
pub front : (start end count : ℕ) (bytes : List ℕ) → count < length (between start end bytes)
    → between start (start + count) bytes ≡ take count (between start end bytes)
front start end count bytes within =
    let so_many : start + count - start ≡ count = omega arith in
    rw so_many (sym (take-take count (end - start) (drop start bytes) (omega (arith, few start end bytes count within))))

-- what stands behind it and its LF
pub behind : (start end count : ℕ) (bytes : List ℕ) → count < length (between start end bytes)
    → between (start + count + 1) end bytes ≡ drop (count + 1) (between start end bytes)
behind start end count bytes within =
    let less = few start end bytes count within in
    let place : start + count + 1 ≡ start + (count + 1) = omega arith in
    let rest : end - (start + (count + 1)) ≡ end - start - (count + 1) = omega arith in
    let whole : end - start ≡ count + 1 + (end - start - (count + 1)) = omega (arith, less) in
    rw (place, rest) (ap (take (end - start - (count + 1))) (sym (drop-drop (count + 1) start bytes))
    ∙ sym (drop-take (count + 1) (end - start - (count + 1)) (drop start bytes))
    ∙ ap (λ n. drop (count + 1) (take n (drop start bytes))) (sym whole))

-- a view of what is kept after a line, and of the line
abbrev pub after : (longest : ℕ) (line kept : List ℕ) → LinesView
after longest line kept = record { longest = longest; line = line; kept = kept; is_skipped = false }

uncut : (longest : ℕ) (line kept : List ℕ) → AreUncut kept (after longest line kept)
uncut longest line kept = record { dropped = []; are = refl; both = refl }

-- the line that is kept in front, where nothing was dropped
pub cuts_kept : (longest count : ℕ) (last kept rest : List ℕ) → IsFirstLf kept count → AreUncut rest (record { longest = longest; line = last; kept = kept; is_skipped = false })
    → CutsLine rest (take count kept) (after longest (take count kept) (drop (count + 1) kept))
cuts_kept longest count last kept rest is u = record {
  later = drop (count + 1) kept;
  first = u.both ∙ ap (λ (d : List ℕ). d ++ kept) u.are ∙ is.parts;
  whole = is.whole;
  left = uncut longest (take count kept) (drop (count + 1) kept);
}

-- the line of which the beginning was dropped
pub cuts_dropped : (longest count : ℕ) (last kept rest : List ℕ) → IsFirstLf kept count → (u : AreUncut rest (record { longest = longest; line = last; kept = kept; is_skipped = true }))
    → CutsLine rest (u.dropped ++ take count kept) (after longest (take count kept) (drop (count + 1) kept))
cuts_dropped longest count last kept rest is u = record {
  later = drop (count + 1) kept;
  first = u.both ∙ ap (λ (k : List ℕ). u.dropped ++ k) is.parts ∙ sym (append_assoc u.dropped (take count kept) (lf ∷ drop (count + 1) kept));
  whole = All-append (λ b. b ≢ lf) u.dropped (take count kept) u.are.1 is.whole;
  left = uncut longest (take count kept) (drop (count + 1) kept);
}

-- fewer bytes are kept behind a line
fewer : (count : ℕ) (kept : List ℕ) → IsFirstLf kept count → length (drop (count + 1) kept) < length kept
fewer count kept is = omega (arith, length-drop (count + 1) kept, is.inside)

pub line_off : (longest count : ℕ) (last kept : List ℕ) → IsFirstLf kept count → count ≤ longest
    → CutsOff (record { longest = longest; line = last; kept = kept; is_skipped = false }) Line (after longest (take count kept) (drop (count + 1) kept))
line_off longest count last kept is short = record {
  of_each = λ rest u. (omega (arith, length-take count kept, short), cuts_kept longest count last kept rest is u);
  none = λ e. absurd cc;
  shorter = λ other. fewer count kept is;
  longest = refl;
}

pub long_off : (longest count : ℕ) (last kept : List ℕ) → IsFirstLf kept count → longest < count
    → CutsOff (record { longest = longest; line = last; kept = kept; is_skipped = false }) TooLong (after longest (take count kept) (drop (count + 1) kept))
long_off longest count last kept is long = record {
  of_each = λ rest u. record {
    line = take count kept;
    long = omega (arith, length-take count kept, is.inside, long);
    cuts = cuts_kept longest count last kept rest is u;
  };
  none = λ e. absurd cc;
  shorter = λ other. fewer count kept is;
  longest = refl;
}

pub dropped_off : (longest count : ℕ) (last kept : List ℕ) → IsFirstLf kept count
    → CutsOff (record { longest = longest; line = last; kept = kept; is_skipped = true }) TooLong (after longest (take count kept) (drop (count + 1) kept))
dropped_off longest count last kept is = record {
  of_each = λ rest u. record {
    line = u.dropped ++ take count kept;
    long = omega (arith, length-append u.dropped (take count kept), u.are.0);
    cuts = cuts_dropped longest count last kept rest is u;
  };
  none = λ e. absurd cc;
  shorter = λ other. fewer count kept is;
  longest = refl;
}

-- a line is too long by what was dropped of it, or by how many bytes of it are kept
pub cut_off : (longest count : ℕ) (last kept : List ℕ) (is_skipped is_long : Bool) (cut : Cut) → IsFirstLf kept count
    → (is_long ≡ is_skipped || nat_lt longest count) → (cut ≡ if is_long then TooLong else Line)
    → CutsOff (record { longest = longest; line = last; kept = kept; is_skipped = is_skipped }) cut (after longest (take count kept) (drop (count + 1) kept))
cut_off longest count last kept true true cut is long told = rw told (dropped_off longest count last kept is)
cut_off longest count last kept true false cut is long told = absurd cc
cut_off longest count last kept false true cut is long told =
    let more : longest < count = grind (arith, nat_tests) in
    rw told (long_off longest count last kept is more)
cut_off longest count last kept false false cut is long told =
    let short : count ≤ longest = grind (arith, nat_tests) in
    rw told (line_off longest count last kept is short)
