-- A script line by line.
use Rattle.std.proofs.Common.{inl, inr, ◌≡◌, ◌≢◌, ℕ, zero, suc, ◌+◌, ◌-◌, ◌<◌, ◌≤◌, List, [], ◌∷◌, ◌++◌, length, get_or, take, drop, append_assoc, length-append, refl, ◌∙◌, ap, arith, Err, Some, true, false}
use Rattle.std.specs.Prelude.{nat_lt, nat_eq}
use Rattle.std.proofs.lemmas.Bool.Decides.{nat_tests}
use Rattle.std.proofs.lemmas.List.{append-nil}
use Rattle.apf_files.specs.FirstFault.{before}
use Rattle.apf_files.specs.ScriptFile.{command_of, lines_from, judged_line, line_of, max_lines}
use Rattle.apf_files.specs.ScriptLine.{line_from, line_of_number, number_in, found_number, IsOfNumber, IsFoundIn, IsFoundAt}
use Rattle.apf_files.specs.declared.script.Command.{Command}
use Rattle.apf_files.specs.declared.script.InScript.{InScript}
use Rattle.apf_files.specs.declared.script.ScriptFault.{ScriptFault}
use Rattle.apf_files.specs.declared.script.ScriptFault.TheVariants.{TooLong, Truncated}

few : (line : ℕ) → line ≤ max_lines → nat_lt max_lines line ≡ false
few line h = grind (arith, nat_tests)

many : (line : ℕ) → max_lines < line → nat_lt max_lines line ≡ true
many line h = grind (arith, nat_tests)

no_lf : (b : ℕ) → b ≢ 10 → nat_eq b 10 ≡ false
no_lf b h = grind (arith, nat_tests)

-- bytes beyond the last line that is allowed
pub lines_from-too_long : (requests line : ℕ) (bs : List ℕ) → max_lines < line → 0 < length bs
    → lines_from requests line [] bs ≡ Err (TooLong line)
lines_from-too_long requests line [] h some = absurd (omega arith)
lines_from-too_long requests line (b ∷ bs) h some = rw (many line h) refl

-- a line that ends at k
pub lines_from-line : (requests line : ℕ) (begun bs : List ℕ) (k : ℕ) → line ≤ max_lines → k < length bs → get_or bs k 0 ≡ 10
    → ((j : ℕ) → j < k → get_or bs j 0 ≢ 10)
    → lines_from requests line begun bs
    ≡ before (judged_line requests line (begun ++ take k bs)) (lines_from requests (line + 1) [] (drop (k + 1) bs))
lines_from-line requests line begun [] k small within lf none = absurd (omega arith)
lines_from-line requests line begun (b ∷ bs) zero small within lf none =
    let is_lf : nat_eq b 10 ≡ true = rw lf refl in
    rw (few line small, is_lf, append-nil begun) refl
lines_from-line requests line begun (b ∷ bs) (suc k) small within lf none =
    let not_lf : nat_eq b 10 ≡ false = no_lf b (none 0 (omega arith)) in
    let later = lines_from-line requests line (begun ++ b ∷ []) bs k small (omega arith) lf (λ j h. none (suc j) (omega arith)) in
    let next : suc k + 1 ≡ suc (k + 1) = omega arith in
    rw (few line small, not_lf, next) (later ∙ rw (append_assoc begun (b ∷ []) (take k bs)) refl)

-- bytes with no end of a line
pub lines_from-truncated : (requests line : ℕ) (begun bs : List ℕ) → line ≤ max_lines → 0 < length begun + length bs
    → ((j : ℕ) → j < length bs → get_or bs j 0 ≢ 10) → lines_from requests line begun bs ≡ Err (Truncated line)
lines_from-truncated requests line [] [] small some none = absurd (omega arith)
lines_from-truncated requests line (x ∷ begun) [] small some none = refl
lines_from-truncated requests line begun (b ∷ bs) small some none =
    let not_lf : nat_eq b 10 ≡ false = no_lf b (none 0 (omega arith)) in
    rw (few line small, not_lf)
    (lines_from-truncated requests line (begun ++ b ∷ []) bs small (rw length-append (omega arith)) (λ j h. none (suc j) (omega arith)))

-- ---- the line of a number

-- past a line that ends at k
pub line_from-past : (earlier : ℕ) (begun bs : List ℕ) (k : ℕ) → k < length bs → get_or bs k 0 ≡ 10 → ((j : ℕ) → j < k → get_or bs j 0 ≢ 10)
    → line_from (suc earlier) begun bs ≡ line_from earlier [] (drop (k + 1) bs)
line_from-past earlier begun [] k within is none = absurd (omega arith)
line_from-past earlier begun (b ∷ bs) zero within is none =
    let is_lf : nat_eq b 10 ≡ true = rw is refl in
    rw is_lf refl
line_from-past earlier begun (b ∷ bs) (suc k) within is none =
    let not_lf : nat_eq b 10 ≡ false = no_lf b (none 0 (omega arith)) in
    let next : suc k + 1 ≡ suc (k + 1) = omega arith in
    rw (not_lf, next) (line_from-past earlier (begun ++ b ∷ []) bs k (omega arith) is (λ j h. none (suc j) (omega arith)))

-- a line that ends at k
pub line_from-here : (begun bs : List ℕ) (k : ℕ) → k < length bs → get_or bs k 0 ≡ 10 → ((j : ℕ) → j < k → get_or bs j 0 ≢ 10)
    → line_from zero begun bs ≡ Some (begun ++ take k bs)
line_from-here begun [] k within is none = absurd (omega arith)
line_from-here begun (b ∷ bs) zero within is none =
    let is_lf : nat_eq b 10 ≡ true = rw is refl in
    rw (is_lf, append-nil begun) refl
line_from-here begun (b ∷ bs) (suc k) within is none =
    let not_lf : nat_eq b 10 ≡ false = no_lf b (none 0 (omega arith)) in
    rw not_lf (line_from-here (begun ++ b ∷ []) bs k (omega arith) is (λ j h. none (suc j) (omega arith)) ∙ ap Some (append_assoc begun (b ∷ []) (take k bs)))

-- the line of the next number
pub next_line : (bytes rest : List ℕ) (line k end : ℕ) → 1 ≤ line → ((j : ℕ) → line_from (line - 1 + j) [] bytes ≡ line_from j [] rest)
    → end < length rest → get_or rest end 0 ≡ 10 → ((j : ℕ) → j < end → get_or rest j 0 ≢ 10)
    → line_from (line + 1 - 1 + k) [] bytes ≡ line_from k [] (drop (end + 1) rest)
next_line bytes rest line k end some place within lf none =
    let next : line + 1 - 1 + k ≡ line - 1 + suc k = omega arith in
    ap (λ (n : ℕ). line_from n [] bytes) next ∙ place (suc k) ∙ line_from-past k [] rest end within lf none

-- the line of this number
pub this_line : (bytes rest : List ℕ) (line end : ℕ) → ((j : ℕ) → line_from (line - 1 + j) [] bytes ≡ line_from j [] rest)
    → end < length rest → get_or rest end 0 ≡ 10 → ((j : ℕ) → j < end → get_or rest j 0 ≢ 10)
    → line_of_number line bytes ≡ Some (take end rest)
this_line bytes rest line end place within lf none =
    let here : line - 1 ≡ line - 1 + 0 = omega arith in
    ap (λ (n : ℕ). line_from n [] bytes) here ∙ place 0 ∙ line_from-here [] rest end within lf none

-- what was found in the line of a fault
pub found_at : (bytes line : List ℕ) (number : ℕ) (fault : ScriptFault) (it : InScript) → line_of fault ≡ Some number → line_of_number number bytes ≡ Some line
    → IsFoundIn (Some line) fault it → IsFoundAt bytes fault it
found_at bytes line number fault it place is found = rw (place, is) found

-- the line of a fault of a number
pub number_placed : (line : ℕ) (fault : ScriptFault) → IsOfNumber line fault → line_of fault ≡ Some line
number_placed line fault (inl is) = rw is refl
number_placed line fault (inr is) = rw is refl

-- the number of a command that was found in a line
pub number_found : (bytes : List ℕ) (line : ℕ) (command : Command) (fault : ScriptFault) (it : InScript) → IsOfNumber line fault → command_of bytes ≡ Some command
    → found_number it ≡ number_in command → IsFoundIn (Some bytes) fault it
number_found bytes line command fault it (inl is) read found = rw is (rw read found)
number_found bytes line command fault it (inr is) read found = rw is (rw read found)
