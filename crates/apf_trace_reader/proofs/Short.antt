-- A trace that is read as a whole is read alike in pieces.
use Rattle.std.proofs.Common.{◌≡◌, ◌≢◌, ℕ, ◌+◌, ◌<◌, ◌≤◌, Bool, true, false, List, [], ◌∷◌, ◌++◌, length, Result, Ok, Err, refl, sym, ap, ◌∙◌, arith}
use Rattle.std.specs.Prelude.{count_by, nat_le}
use Rattle.std.proofs.lemmas.Bool.Decides.{nat_tests}
use Rattle.std.proofs.lemmas.List.{length-append}
use Rattle.std.proofs.lemmas.List.Sums.{count_by-le-length}
use Rattle.apf_files.specs.FirstFault.{◌>>=◌, before, with_front}
use Rattle.apf_times.specs.declared.window.Place.{Place}
use Rattle.apf_times.specs.Windows.{precedes}
use Rattle.apf_traces.specs.TraceFile.{Line, demand, judged_line, judged_text, judged_within, lines_of, max_lines, trace_from, trace_of}
use Rattle.apf_traces.specs.TraceValue.{Entry}
use Rattle.apf_traces.specs.declared.fault.TraceFault.{TraceFault}
use Rattle.apf_traces.specs.declared.fault.TraceFault.TheVariants.{TooMany}
use Rattle.apf_trace_reader.specs.Timely.{in_time, judged_after, most_lines, number_after, place_of, requests_from, requests_of}

-- the answer, where there are not too many lines
abbrev pub IsFew : {A : Type 0} → Result A TraceFault → Type 0
IsFew answer = (line : ℕ) → answer ≢ Err (TooMany line)

-- one before the others is one that was put in front
front_before : (e : Entry) (rest : Result (List Entry) TraceFault) → with_front (e ∷ []) rest ≡ before (Ok e) rest
front_before e (Ok others) = refl
front_before e (Err fault) = refl

-- a line that is not above the most lines has no other fault by its number
few_number : (number : ℕ) (line : Line) (b : Bool) → nat_le number max_lines ≡ b → IsFew (demand (TooMany number) b >>= λ few. judged_text number line) → number ≤ max_lines
few_number number line true is few = grind (arith, nat_tests)
few_number number line false is few = absurd (few number refl)

within : (number : ℕ) (line : Line) → number ≤ max_lines → judged_within most_lines number line ≡ judged_within max_lines number line
within number line few =
    let one : nat_le number max_lines ≡ true = grind (arith, nat_tests) in
    let other : nat_le number most_lines ≡ true = grind (arith, nat_tests) in
    rw (one, other) refl

-- no request of the first lines is late
timely : (size : ℕ) (earlier : List Place) (number : ℕ) (e : Entry) → length earlier ≤ size → in_time size earlier number e ≡ Ok e
timely size earlier number e few =
    let less = count_by-le-length (λ other. precedes (place_of number e) other) earlier in
    let yes : nat_le (number_after (place_of number e) earlier) size ≡ true = grind (arith, nat_tests) in
    rw yes refl

-- a line is judged alike
judged_alike : (size : ℕ) (earlier : List Place) (number : ℕ) (line : Line) (r : Result Entry TraceFault) → judged_within max_lines number line ≡ r → number ≤ max_lines → length earlier ≤ size
    → judged_after size earlier number line ≡ r
judged_alike size earlier number line (Ok e) is few short = ap (λ (r : Result Entry TraceFault). r >>= in_time size earlier number) (within number line few ∙ is) ∙ timely size earlier number e short
judged_alike size earlier number line (Err fault) is few short = ap (λ (r : Result Entry TraceFault). r >>= in_time size earlier number) (within number line few ∙ is)

few_rest : (e : Entry) (rest : Result (List Entry) TraceFault) → IsFew (before (Ok e) rest) → IsFew rest
few_rest e (Ok others) few line is = absurd cc
few_rest e (Err fault) few line is = few line (ap (λ (r : Result (List Entry) TraceFault). before (Ok e) r) is)

few_first : (r : Result Entry TraceFault) (rest : Result (List Entry) TraceFault) → IsFew (before r rest) → IsFew r
few_first (Ok e) rest few line is = absurd cc
few_first (Err fault) rest few line is = few line (ap (λ (s : Result Entry TraceFault). before s rest) is)

-- a line and the lines behind it are judged alike
alike_line : (size : ℕ) (earlier : List Place) (number : ℕ) (line : Line) (lines : List Line) (r : Result Entry TraceFault) → judged_within max_lines number line ≡ r → number ≤ max_lines → length earlier ≤ size
    → ((e : Entry) → r ≡ Ok e → requests_from size (earlier ++ place_of number e ∷ []) (number + 1) lines ≡ trace_from (number + 1) lines)
    → (judged_after size earlier number line >>= λ e. with_front (e ∷ []) (requests_from size (earlier ++ place_of number e ∷ []) (number + 1) lines)) ≡ before r (trace_from (number + 1) lines)
alike_line size earlier number line lines (Ok e) is few short rest =
    ap (λ (r : Result Entry TraceFault). r >>= λ x. with_front (x ∷ []) (requests_from size (earlier ++ place_of number x ∷ []) (number + 1) lines)) (judged_alike size earlier number line (Ok e) is few short)
    ∙ ap (with_front (e ∷ [])) (rest e refl)
    ∙ front_before e (trace_from (number + 1) lines)
alike_line size earlier number line lines (Err fault) is few short rest =
    ap (λ (r : Result Entry TraceFault). r >>= λ x. with_front (x ∷ []) (requests_from size (earlier ++ place_of number x ∷ []) (number + 1) lines)) (judged_alike size earlier number line (Err fault) is few short)

few_behind : (r : Result Entry TraceFault) (rest : Result (List Entry) TraceFault) (e : Entry) → r ≡ Ok e → IsFew (before r rest) → IsFew rest
few_behind (Ok x) rest e is few = few_rest x rest few
few_behind (Err fault) rest e is few = absurd cc

alike : (size : ℕ) (earlier : List Place) (number : ℕ) (lines : List Line) → max_lines ≤ size → length earlier + 1 ≡ number → IsFew (trace_from number lines) → requests_from size earlier number lines ≡ trace_from number lines
unfolding judged_line
alike size earlier number [] most is few = refl
alike size earlier number (line ∷ lines) most is few =
    let r : Result Entry TraceFault = judged_within max_lines number line in
    let rest : Result (List Entry) TraceFault = trace_from (number + 1) lines in
    let low : number ≤ max_lines = few_number number line (nat_le number max_lines) refl (few_first r rest few) in
    alike_line size earlier number line lines r refl low (omega arith)
    (λ e is_e. alike size (earlier ++ place_of number e ∷ []) (number + 1) lines most (omega (arith, length-append earlier (place_of number e ∷ []))) (few_behind r rest e is_e few))

pub read_alike : (size : ℕ) (bytes : List ℕ) (answer : Result (List Entry) TraceFault) → max_lines ≤ size → trace_of bytes ≡ answer → IsFew answer → requests_of size bytes ≡ answer
unfolding trace_of requests_of
read_alike size bytes answer most is few =
    alike size [] 1 (lines_of bytes) most refl (λ line e. few line (sym is ∙ e)) ∙ is
