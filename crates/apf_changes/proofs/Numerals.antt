-- The number of a text.
use Rattle.std.proofs.Common.{◌≡◌, ◌∙◌, ℕ, ◌<◌, ◌^◌, List, [], ◌∷◌, length, Bool, true, false, Some, None, Result, Ok, Err, refl, sym, ap}
use Rattle.std.specs.Prelude.{if◌then◌else◌, ◌&&◌, nat_lt}
use Rattle.std.specs.Char.{is_ascii_digit}
use Rattle.std.specs.List.{list_all}
use Rattle.std.specs.Result.{OkIff, result_ok}
use Rattle.std.specs.Str.{all_ascii_digits}
use Rattle.std.specs.Str.Parse.{ParsesUnsigned, digits_value}
use Rattle.std.proofs.lemmas.Bool.Decides.{Decides-ltb}
use Rattle.std.proofs.lemmas.Str.Parse.{IsNumeralModel, numerals_by_value, tells_all_ascii_digits, parse_digits}
use Rattle.apf_changes.specs.Amounts.{number_of}

own : IsNumeralModel (λ ds. all_ascii_digits ds ≡ true) (digits_value 10)
own = numerals_by_value _ tells_all_ascii_digits

-- the test of each byte
pub all_digits : (bytes : List ℕ) → list_all is_ascii_digit bytes ≡ all_ascii_digits bytes
all_digits [] = refl
all_digits (byte ∷ bytes) = ap (λ b. is_ascii_digit byte && b) (all_digits bytes)

number_by : (a b c : Bool) (n v : ℕ) → a ≡ true → b ≡ true → c ≡ true → n ≡ v → Some n ≡ (if a && b && c then Some v else None)
number_by true true true n v are some small same = ap Some same
number_by false b c n v are some small same = cc
number_by true false c n v are some small same = cc
number_by true true false n v are some small same = cc

no_number_by : (a b c : Bool) (v : ℕ) → (b ≡ true → c ≡ true → ⊥) → None ≡ (if a && b && c then Some v else None)
no_number_by false b c v never = refl
no_number_by true false c v never = refl
no_number_by true true false v never = refl
no_number_by true true true v never = absurd (never refl refl)

-- what `parse` gives of digits
pub parsed : {E : Type 0} (text : List ℕ) (r : Result ℕ E) → OkIff r ((0 < length text) × (digits_value 10 text < 2 ^ 32)) (digits_value 10 text)
    → all_ascii_digits text ≡ true → result_ok r ≡ number_of text
parsed text (Ok n) is are =
    number_by (all_ascii_digits text) (nat_lt 0 (length text)) (nat_lt (digits_value 10 text) (2 ^ 32)) n (digits_value 10 text) are
    ((Decides-ltb 0 (length text)).1 is.0.0) ((Decides-ltb (digits_value 10 text) (2 ^ 32)).1 is.0.1) is.1
parsed text (Err e) is are =
    no_number_by (all_ascii_digits text) (nat_lt 0 (length text)) (nat_lt (digits_value 10 text) (2 ^ 32)) (digits_value 10 text)
    (λ some small. is ((Decides-ltb 0 (length text)).0 some, (Decides-ltb (digits_value 10 text) (2 ^ 32)).0 small))

pub number_is : {E : Type 0} (text : List ℕ) (r : Result ℕ E) → ParsesUnsigned 32 10 text r → list_all is_ascii_digit text ≡ true
    → result_ok r ≡ number_of text
number_is text r parses are =
    let digits : all_ascii_digits text ≡ true = sym (all_digits text) ∙ are in
    parsed text r (parse_digits own 32 text r parses digits) digits

no_digits_by : (a b : Bool) (v : ℕ) → a ≡ false → None ≡ (if a && b then Some v else None)
no_digits_by true b v is = cc
no_digits_by false b v is = refl
