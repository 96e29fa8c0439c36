-- A text is shown if it is short and UTF-8.
use Rattle.std.proofs.Common.{◌≡◌, ℕ, ◌<◌, ◌≤◌, List, Some, None, Result, Ok, Err, Bor, length, true, false, refl, ap, ◌∙◌, arith}
use Rattle.std.specs.Prelude.{nat_le, option_map, MatchResult}
use Rattle.std.specs.Result.{result_ok}
use Rattle.std.specs.Str.{is_utf8, IsUtf8}
use Rattle.std.proofs.lemmas.Bool.{false_from_ne_true}
use Rattle.std.proofs.lemmas.Bool.Decides.{nat_tests}
use Rattle.std.proofs.lemmas.Str.{IsUtf8-from_is_utf8, is_utf8-from_IsUtf8}
use Rattle.apf_cluster_text.specs.Said.{shown_of}
use Rattle.apf_cluster_text.proofs.said.shown.Goals as goal

short : (n : ℕ) → n ≤ 256 → nat_le n 256 ≡ true
short n h = grind (arith, nat_tests)

long : (n : ℕ) → 256 < n → nat_le n 256 ≡ false
long n h = grind (arith, nat_tests)

none_of_long : (line : List ℕ) → 256 < length line → None ≡ shown_of line
unfolding shown_of
none_of_long line h = rw (long (length line) h) refl

some_of_utf8 : (line : List ℕ) → length line ≤ 256 → IsUtf8 line → Some line ≡ shown_of line
unfolding shown_of
some_of_utf8 line h utf8 = rw (short (length line) h, is_utf8-from_IsUtf8 line utf8) refl

none_of_others : (line : List ℕ) → length line ≤ 256 → ¬ (IsUtf8 line) → None ≡ shown_of line
unfolding shown_of
none_of_others line h other =
    let no : is_utf8 line ≡ false = false_from_ne_true (is_utf8 line) (λ e. other (IsUtf8-from_is_utf8 line e)) in
    rw (short (length line) h, no) refl

by_reading : {E : Type 0} (line : List ℕ) (r : Result (Bor (List ℕ)) E) (P : E → Type 0) → length line ≤ 256
    → MatchResult r (λ s. (s.now ≡ line) × IsUtf8 line) (λ e. (¬ (IsUtf8 line)) × P e)
    → option_map (λ text. text.now) (result_ok r) ≡ shown_of line
by_reading line (Ok s) P h read = ap Some read.0 ∙ some_of_utf8 line h read.1
by_reading line (Err e) P h read = none_of_others line h read.0

pub returns-then-bytes-gt-LONGEST : goal.returns-then-bytes-gt-LONGEST
returns-then-bytes-gt-LONGEST c = none_of_long c.args.bytes.now c.if-bytes-gt-LONGEST.true

pub returns : goal.returns
returns c =
    ap (option_map (λ (text : Bor (List ℕ)). text.now)) c.ok.ensures.value
    ∙ by_reading c.args.bytes.now c.from_utf8.result _ c.if-bytes-gt-LONGEST.false c.from_utf8.ensures.cases
