-- Numbers that are not below 0.
use Rattle.std.proofs.Common.{◌≡◌, ℕ, ◌≤◌, ◌<◌, ◌/◌, ℤ, pos, negsuc, Bool, true, false, List, Option, None, Some, Result, Ok, Err, FitsSigned, w64, refl, ap, ◌∙◌, arith}
use Rattle.std.specs.Prelude.{nat_le, unsigned_abs}
use Rattle.std.specs.Int.{FitsUnsigned, FitsUnsignedBits}
use Rattle.std.specs.Result.{OkIff, result_ok}
use Rattle.std.proofs.lemmas.Bool.Decides.{nat_tests}
use Rattle.std.proofs.lemmas.Int.{ints}
use Rattle.jiff_core.specs.declared.error.Error.{Error}
use Rattle.jiff_fmt.specs.Temporal.{parse_timestamp}
use Rattle.jiff_fmt.specs.Friendly.{parse_duration}
use Rattle.apf_audit.specs.Times.{natural, instant_by, instant_of, wait_by, wait_of, max_wait}

-- a number that was turned into one of no sign, or could not be
pub natural_is : {E : Type 0} (z : ℤ) (r : Result ℕ E) → FitsSigned w64 z → OkIff r (FitsUnsignedBits 64 z) (unsigned_abs z) → result_ok r ≡ natural z
natural_is (pos n) (Ok x) fits h = ap (λ (k : ℕ). Some k) h.1
natural_is (pos n) (Err e) fits h = absurd (h (omega (arith, ints, fits)))
natural_is (negsuc n) (Ok x) fits h = absurd h.0
natural_is (negsuc n) (Err e) fits h = refl

-- what a text says, by what was read of it
pub waits_as : (text : List ℕ) (r : Result ℤ Error) (o : Option ℕ) → r ≡ parse_duration text → o ≡ wait_by r → o ≡ wait_of text
unfolding wait_of
waits_as text r o is are = are ∙ ap (λ (q : Result ℤ Error). wait_by q) is

pub instant_as : (text : List ℕ) (r : Result ℤ Error) (o : Option ℕ) → r ≡ parse_timestamp text → o ≡ instant_by r → o ≡ instant_of text
unfolding instant_of
instant_as text r o is are = are ∙ ap (λ (q : Result ℤ Error). instant_by q) is

pub instant_none : (text : List ℕ) (e : Error) → Err e ≡ parse_timestamp text → None ≡ instant_of text
unfolding instant_of
instant_none text e is = ap (λ (q : Result ℤ Error). instant_by q) is

is_short : (n : ℕ) → n ≤ max_wait → nat_le n max_wait ≡ true
is_short n h = grind (arith, nat_tests)

is_long : (n : ℕ) → max_wait < n → nat_le n max_wait ≡ false
is_long n h = grind (arith, nat_tests)

-- a wait that is not too long
pub wait_some : (z : ℤ) (n : ℕ) → FitsUnsigned w64 z → n ≡ unsigned_abs z → n ≤ max_wait → Some (n / 1000) ≡ wait_by (Ok z)
wait_some (pos k) n fits is short = let within : k ≤ max_wait = omega arith in rw (is_short k within, is) refl
wait_some (negsuc k) n fits is short = absurd (omega (arith, ints, fits.0))

-- one that is too long
pub wait_long : (z : ℤ) (n : ℕ) → FitsUnsigned w64 z → n ≡ unsigned_abs z → max_wait < n → None ≡ wait_by (Ok z)
wait_long (pos k) n fits is long = let beyond : max_wait < k = omega arith in rw (is_long k beyond) refl
wait_long (negsuc k) n fits is long = refl

none_by : (n : ℕ) (b : Bool) → nat_le n max_wait ≡ b → ¬ (FitsUnsigned w64 (pos n)) → None ≡ wait_by (Ok (pos n))
none_by n true short unfit =
    let within : n ≤ max_wait = grind (arith, nat_tests) in
    absurd (unfit (omega (arith, ints), omega (arith, ints)))
none_by n false long unfit = rw long refl

-- one that does not fit 64 bits
pub wait_unfit : (z : ℤ) → ¬ (FitsUnsigned w64 z) → None ≡ wait_by (Ok z)
wait_unfit (pos n) unfit = none_by n (nat_le n max_wait) refl unfit
wait_unfit (negsuc n) unfit = refl
