-- The whole number that a numeral writes.
use Rattle.std.proofs.Common.{◌≡◌, ℕ, ◌^◌, ◌<◌, List, [], ◌∷◌, length, Bool, true, false, not, Option, Some, None, option_map, option_and_then, refl, sym, ap, ◌∙◌, subst, rules, arith}
use Rattle.std.specs.Prelude.{◌&&◌, ◌==◌, nat_eq, nat_lt, nat_le, SomeIff, is_some}
use Rattle.std.specs.List.{starts_with}
use Rattle.std.specs.Float.{binary64, float_is_finite}
use Rattle.std.proofs.lemmas.Bool.Decides.{nat_tests}
use Rattle.fast_float.specs.Text.{scan, IsInteger, Parts, digits_of, nearest, with_sign}
use Rattle.serde_json.specs.Data.{Num, unsigned, negative, float}
use Rattle.serde_json.specs.Find.{as_u64}
use Rattle.serde_json.specs.Read.{float_of, is_integer, number_from, number_of}
use Rattle.apf_values.specs.Usual.{whole_of_text}

abbrev chosen : {A : Type 0} → Bool → A → A → A
chosen true a b = a
chosen false a b = b

no_float : (sign : Bool) (p : Parts) → option_and_then as_u64 (float_of sign p) ≡ None
no_float sign p = go (float_is_finite (nearest binary64 sign p)) refl
  where
    go : (b : Bool) → float_is_finite (nearest binary64 sign p) ≡ b → option_and_then as_u64 (float_of sign p) ≡ None
    go true e = rw e refl
    go false e = rw e refl

-- with a sign
pub none_signed : (p : Parts) → option_and_then as_u64 (number_from true p) ≡ None
none_signed p = go (is_integer p && nat_lt 0 (digits_of p) && nat_le (digits_of p) (2 ^ 63)) refl
  where
    go : (b : Bool) → (is_integer p && nat_lt 0 (digits_of p) && nat_le (digits_of p) (2 ^ 63)) ≡ b → option_and_then as_u64 (number_from true p) ≡ None
    go true e = rw e refl
    go false e = rw e (no_float true p)

is_whole : (p : Parts) → (is_integer p && nat_lt (digits_of p) (2 ^ 64)) ≡ true → IsInteger p × (digits_of p < 2 ^ 64)
is_whole p e = search (e, rules, nat_tests)

-- without one
pub whole_unsigned : (p : Parts) (o : Option ℕ) → SomeIff o (IsInteger p × (digits_of p < 2 ^ 64)) (digits_of p) → o ≡ option_and_then as_u64 (number_from false p)
whole_unsigned p (Some n) h =
    let some : nat_lt 0 (length p.whole) ≡ true = search (h.0.0.0, rules, nat_tests) in
    let none : (length p.exponent == 0) ≡ true = search (h.0.0.2, rules, nat_tests) in
    let small : nat_lt (digits_of p) (2 ^ 64) ≡ true = search (h.0.1, rules, nat_tests) in
    rw (some, h.0.0.1, none, small, h.1) refl
whole_unsigned p None h = go (is_integer p && nat_lt (digits_of p) (2 ^ 64)) refl
  where
    go : (b : Bool) → (is_integer p && nat_lt (digits_of p) (2 ^ 64)) ≡ b → None ≡ option_and_then as_u64 (number_from false p)
    go true e = absurd (h (is_whole p e))
    go false e = rw e (sym (no_float false p))

-- the first byte is the sign
pub signed : (text : List ℕ) → starts_with nat_eq text (45 ∷ []) ≡ true → None ≡ whole_of_text text
unfolding whole_of_text number_of
signed [] e = absurd cc
signed (x ∷ xs) e =
    let first : (x == 45) ≡ true = grind (e, arith, nat_tests) in
    rw first (sym (none_signed (scan xs)))

pub not_signed : (text : List ℕ) → starts_with nat_eq text (45 ∷ []) ≡ false → whole_of_text text ≡ option_and_then as_u64 (number_from false (scan text))
unfolding whole_of_text number_of
not_signed [] e = refl
not_signed (x ∷ xs) e =
    let first : (x == 45) ≡ false = grind (e, arith, nat_tests) in
    rw first refl
