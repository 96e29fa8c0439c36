-- The lines of bytes that are cut one after the other.
use Rattle.std.proofs.Common.{◌≡◌, ◌≢◌, ℕ, ◌<◌, List, [], ◌∷◌, ◌++◌, length, ap, arith, true, false, refl}
use Rattle.std.specs.Prelude.{nat_eq}
use Rattle.std.specs.List.{AllByRecursion}
use Rattle.std.proofs.lemmas.Bool.Decides.{nat_tests}
use Rattle.std.proofs.lemmas.List.Elements.{recursion_from_All}
use Rattle.apf_lines.specs.Lines.{HasNoLf}
use Rattle.apf_traces.specs.TraceFile.{Line, lines_of}

-- a line that an LF ends
abbrev pub ended : List ℕ → Line
ended bytes = record { bytes = bytes; is_ended = true }

no_lf : (b : ℕ) → b ≢ 10 → nat_eq b 10 ≡ false
no_lf b h = grind (arith, nat_tests)

ended_first : (line later : List ℕ) → AllByRecursion (λ b. b ≢ 10) line → lines_of (line ++ 10 ∷ later) ≡ ended line ∷ lines_of later
ended_first [] later whole = ap (λ ls. ended [] ∷ ls) refl
ended_first (b ∷ line) later whole =
    let other : nat_eq b 10 ≡ false = no_lf b whole.0 in
    rw (other, ended_first line later whole.1) refl

-- a line with its LF is the first
pub lines_of-line : (line later : List ℕ) → HasNoLf line → lines_of (line ++ 10 ∷ later) ≡ ended line ∷ lines_of later
lines_of-line line later whole = ended_first line later (recursion_from_All (λ b. b ≢ 10) line whole)

last_rest : (rest : List ℕ) → AllByRecursion (λ b. b ≢ 10) rest → 0 < length rest → lines_of rest ≡ record { bytes = rest; is_ended = false } ∷ []
last_rest [] whole some = absurd (omega arith)
last_rest (b ∷ []) whole some =
    let other : nat_eq b 10 ≡ false = no_lf b whole.0 in
    rw other refl
last_rest (b ∷ c ∷ rest) whole some =
    let other : nat_eq b 10 ≡ false = no_lf b whole.0 in
    rw (other, last_rest (c ∷ rest) whole.1 (omega arith)) refl

-- bytes without an LF are a line that no LF ends
pub lines_of-rest : (rest : List ℕ) → HasNoLf rest → 0 < length rest → lines_of rest ≡ record { bytes = rest; is_ended = false } ∷ []
lines_of-rest rest whole some = last_rest rest (recursion_from_All (λ b. b ≢ 10) rest whole) some
