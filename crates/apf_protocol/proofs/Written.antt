-- Numbers and cuts of a line, as they are written.
use Rattle.std.proofs.Common.{◌≡◌, ℕ, ◌+◌, ◌*◌, ◌-◌, ◌^◌, ◌<◌, List, [], ◌∷◌, ◌++◌, length, get_or, Bool, true, false, Option, Some, None, refl, sym, ap, arith, rules}
use Rattle.std.specs.Prelude.{nat_eq, nat_le, nat_lt, ◌&&◌, ◌||◌, not, if◌then◌else◌, fold, option_map, decimal}
use Rattle.std.specs.List.{list_all}
use Rattle.std.proofs.lemmas.Bool.Decides.{nat_tests}
use Rattle.std.proofs.lemmas.Str.Parse.{IsNumeralModel, numerals_by_fold}
use Rattle.std.proofs.lemmas.Fmt.{decimal-digits_value, digits_decimal, digits_value-decimal, first_decimal, decimal_nonempty, decimal_digit}
use Rattle.apf_files.specs.ScriptFile.{decimal as value_of}
use Rattle.apf_protocol.specs.Numerals.{numeral, is_numeral}
use Rattle.apf_protocol.specs.Lines.{Cut, cut_of, longer}

-- the byte is a decimal digit
abbrev pub is_digit : ℕ → Bool
is_digit d = nat_le 48 d && nat_le d 57

read_on : ℕ → List ℕ → ℕ
read_on n ds = fold (λ n d. 10 * n + (d - 48)) n ds

pub own : IsNumeralModel (λ ds. list_all is_digit ds ≡ true) value_of
own = numerals_by_fold _ (search rules) (λ n ds. fold (λ n d. 10 * n + (d - 48)) n ds) (search rules)

-- both of two tests
pub both : (a b : Bool) → (a && b) ≡ true → (a ≡ true) × (b ≡ true)
both true true h = (refl, refl)
both true false h = absurd cc
both false b h = absurd cc

no_zero_first : (n : ℕ) (first : ℕ) → (nat_eq n 1 || not (nat_eq first 48)) ≡ true → first ≡ 48 → n ≡ 1
no_zero_first n first h zero = grind (arith, nat_tests)

written_by : (ds : List ℕ) (n : ℕ) (b : Bool) → is_numeral ds ≡ b → (if b then Some (value_of ds) else None) ≡ Some n → n < 2 ^ 64 → ds ≡ decimal n
written_by ds n false is h small = absurd cc
written_by ds n true is h small =
    let outer = both (nat_lt 0 (length ds) && list_all is_digit ds) (nat_eq (length ds) 1 || not (nat_eq (get_or ds 0 0) 48)) is in
    let inner = both (nat_lt 0 (length ds)) (list_all is_digit ds) outer.0 in
    let some : 0 < length ds = grind (arith, nat_tests) in
    let same : value_of ds ≡ n = cc in
    let within : value_of ds < 2 ^ 64 = rw same small in
    rw (sym same) (sym (decimal-digits_value own ds inner.1 some (no_zero_first (length ds) (get_or ds 0 0) outer.1) within))

-- a numeral is written of its number
pub written : (ds : List ℕ) (n : ℕ) → numeral ds ≡ Some n → n < 2 ^ 64 → ds ≡ decimal n
unfolding numeral
written ds n h small = written_by ds n (is_numeral ds) refl h small

some_first : (n : ℕ) (length first : ℕ) → (n ≡ 0 → length ≡ 1) → (0 < n → 48 < first) → (nat_eq length 1 || not (nat_eq first 48)) ≡ true
some_first n length first one more = grind (arith, nat_tests)

one_digit : (n : ℕ) → n ≡ 0 → length (decimal n) ≡ 1
one_digit n zero = rw (zero, decimal_digit 0 (omega arith)) refl

nonempty : (n : ℕ) → 0 < n → nat_lt 0 n ≡ true
nonempty n h = grind (arith, nat_tests)

-- the digits of a number are digits
pub digits : (n : ℕ) → n < 2 ^ 64 → list_all is_digit (decimal n) ≡ true
digits n small = digits_decimal own n small

is_written : (n : ℕ) → n < 2 ^ 64 → is_numeral (decimal n) ≡ true
is_written n small =
    rw (nonempty (length (decimal n)) (decimal_nonempty n small), digits n small)
    (some_first n (length (decimal n)) (get_or (decimal n) 0 0) (one_digit n) (λ more. first_decimal n more small))

-- what is written of a number is its numeral
pub read_back : (n : ℕ) → n < 2 ^ 64 → numeral (decimal n) ≡ Some n
unfolding numeral
read_back n small = rw (is_written n small, digits_value-decimal own n small) refl

-- ---- cuts

no_blank : (d : ℕ) → is_digit d ≡ true → nat_eq d 32 ≡ false
no_blank d h = grind (arith, nat_tests)

-- digits before a blank
pub cut_digits : (ds rest : List ℕ) → list_all is_digit ds ≡ true → cut_of (ds ++ 32 ∷ rest) ≡ Some (record { front = ds; rest = rest })
cut_digits [] rest h = refl
cut_digits (d ∷ ds) rest h =
    let parts = both (is_digit d) (list_all is_digit ds) h in
    rw (no_blank d parts.0, cut_digits ds rest parts.1) refl

-- digits alone
pub uncut_digits : (ds : List ℕ) → list_all is_digit ds ≡ true → cut_of ds ≡ None
uncut_digits [] h = refl
uncut_digits (d ∷ ds) h =
    let parts = both (is_digit d) (list_all is_digit ds) h in
    rw (no_blank d parts.0, uncut_digits ds parts.1) refl

joined_by : (b : ℕ) (bs : List ℕ) (cut : Cut) (e : Bool) (o : Option Cut) → nat_eq b 32 ≡ e
    → ((c : Cut) → o ≡ Some c → bs ≡ c.front ++ 32 ∷ c.rest)
    → (if e then Some (record { front = []; rest = bs }) else option_map (longer b) o) ≡ Some cut → b ∷ bs ≡ cut.front ++ 32 ∷ cut.rest
joined_by b bs cut true o is later h =
    let blank : b ≡ 32 = grind (arith, nat_tests) in
    let here : record { front = []; rest = bs } ≡ cut = cc in
    rw (sym here, blank) refl
joined_by b bs cut false None is later h = absurd cc
joined_by b bs cut false (Some c) is later h =
    let here : longer b c ≡ cut = cc in
    rw (sym here) (ap (λ (xs : List ℕ). b ∷ xs) (later c refl))

-- what was cut is joined by the blank
pub joined : (bs : List ℕ) (cut : Cut) → cut_of bs ≡ Some cut → bs ≡ cut.front ++ 32 ∷ cut.rest
joined [] cut h = absurd cc
joined (b ∷ bs) cut h = joined_by b bs cut (nat_eq b 32) (cut_of bs) refl (λ c is. joined bs c is) h
