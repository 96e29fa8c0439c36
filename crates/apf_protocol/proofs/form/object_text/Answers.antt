-- The text of an object is UTF-8.
use Rattle.std.proofs.Common.{◌≡◌, ℕ, List, [], ◌∷◌, Some, None, Result, Ok, Err, Bor, true, false, refl, ap, rules, ◌∙◌}
use Rattle.std.specs.Prelude.{nat_eq, option_map, MatchResult}
use Rattle.std.specs.List.{starts_with}
use Rattle.std.specs.Result.{result_ok}
use Rattle.std.specs.Str.{is_utf8, IsUtf8}
use Rattle.std.proofs.lemmas.Bool.{false_from_ne_true}
use Rattle.std.proofs.lemmas.Str.{IsUtf8-from_is_utf8, is_utf8-from_IsUtf8}
use Rattle.apf_protocol.specs.Lines.{object_text}
use Rattle.apf_protocol.proofs.form.object_text.Goals as goal

text_of : (bytes : List ℕ) → starts_with nat_eq bytes (123 ∷ []) ≡ true → IsUtf8 bytes → Some bytes ≡ object_text bytes
unfolding object_text
text_of bytes begins utf8 = rw (begins, is_utf8-from_IsUtf8 bytes utf8) refl

no_text : (bytes : List ℕ) → starts_with nat_eq bytes (123 ∷ []) ≡ true → ¬ (IsUtf8 bytes) → None ≡ object_text bytes
unfolding object_text
no_text bytes begins other =
    let no : is_utf8 bytes ≡ false = false_from_ne_true (is_utf8 bytes) (λ e. other (IsUtf8-from_is_utf8 bytes e)) in
    rw (begins, no) refl

by_reading : {E : Type 0} (bytes : List ℕ) (r : Result (Bor (List ℕ)) E) (P : E → Type 0) → starts_with nat_eq bytes (123 ∷ []) ≡ true
    → MatchResult r (λ s. (s.now ≡ bytes) × IsUtf8 bytes) (λ e. (¬ (IsUtf8 bytes)) × P e)
    → option_map (λ text. text.now) (result_ok r) ≡ object_text bytes
by_reading bytes (Ok s) P begins read = ap Some read.0 ∙ text_of bytes begins read.1
by_reading bytes (Err e) P begins read = no_text bytes begins read.0

pub returns : goal.returns
returns c =
    let begins : starts_with nat_eq c.args.bytes.now (123 ∷ []) ≡ true = search rules in
    ap (option_map (λ (text : Bor (List ℕ)). text.now)) c.ok.ensures.value
    ∙ by_reading c.args.bytes.now c.from_utf8.result _ begins c.from_utf8.ensures.cases
