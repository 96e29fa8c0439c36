-- The grammar of an object, a member at a time.
use Rattle.std.proofs.Common.{◌≡◌, ℕ, zero, suc, ◌-◌, ◌^◌, ◌<◌, ◌≤◌, true, false, rules, arith, List, [], ◌∷◌, length, Option, Some, None, option_map, option_and_then, refl, ap, ◌∙◌}
use Rattle.json.specs.Token.{Token}
use Rattle.json.specs.Json as json
use Rattle.json.specs.Json.{Parse, if_last, members, parse_map, read_key}
use Rattle.json.proofs.Grammar.{members_end, members_more}
use Rattle.fast_float.specs.Text.{IsInteger, Parts, digits_of}
use Rattle.serde_json.specs.Data.{Data, Members, no_members, object, put, unsigned}
use Rattle.serde_json.specs.Read.{converted, number_from, of_json, of_members}
use Rattle.std.specs.Prelude.{◌==◌, nat_lt, IfSome}
use Rattle.std.specs.Option.{SomeIff}
use Rattle.std.proofs.lemmas.Bool.Decides.{nat_tests}

abbrev pick : {B : Type 0} → B × List Token → Option (B × List Token) → B × List Token
pick d None = d
pick d (Some p) = p

found : {B : Type 0} (r s : List Token) (x : Option B) (b : B) → option_map {U = B × List Token} (λ y. (y, r)) x ≡ Some (b, s) → (r ≡ s) × (x ≡ Some b)
found r s None b e = absurd (cc)
found {B} r s (Some y) b e =
    let same = ap (pick (y, r)) e in
    (ap (λ (p : B × List Token). p.1) same, ap (λ (p : B × List Token). Some p.0) same)

-- what was read before it was converted
converted_some : {A B : Type 0} (f : A → Option B) (o : Option (A × List Token)) (b : B) (r : List Token) → converted f o ≡ Some (b, r) → (a : A) × (o ≡ Some (a, r)) × (f a ≡ Some b)
converted_some f None b r e = absurd (cc)
converted_some f (Some p) b r e = let both = found p.1 r (f p.0) b e in (p.0, ap (λ s. Some (p.0, s)) both.0, both.1)

with_member : (k : List ℕ) (j : json.Json) (d : Data) (old : Members) → of_json j ≡ Some d → (o : Option (json.Members × List Token))
    → converted (λ ms. of_members ms old) (parse_map (json.member k j) o) ≡ converted (λ ms. of_members ms (put k d old)) o
with_member k j d old e None = refl
with_member k j d old e (Some p) = rw e

-- one more member
pub member_read : (p : Parse json.Json) (old : Members) (n : ℕ) (k : List ℕ) (ts s r : List Token) (d : Data) → 0 < n → read_key ts ≡ Some (Some k, s) → converted of_json (p s) ≡ Some (d, r)
    → converted (λ ms. of_members ms old) (members p n ts) ≡ converted (λ ms. of_members ms (put k d old)) (members p (n - 1) r)
member_read p old n k ts s r d some key e =
    let j = converted_some of_json (p s) d r e in
    ap (converted (λ ms. of_members ms old)) (members_more p n k ts s r j.0 some key j.1) ∙ with_member k j.0 d old j.2 (members p (n - 1) r)

-- the brace that ends an object
pub members_over : (p : Parse json.Json) (old : Members) (n : ℕ) (ts r : List Token) → length ts ≤ n → read_key ts ≡ Some (None, r) → converted (λ ms. of_members ms old) (members p n ts) ≡ Some (old, r)
members_over p old n ts r enough e = ap (converted (λ ms. of_members ms old)) (members_end p n ts r enough e)

-- an object that is the last
pub object_last : (o : Option (json.Members × List Token)) (ms : Members) → converted (λ xs. of_members xs no_members) o ≡ Some (ms, [])
    → option_and_then of_json (option_and_then (λ p. if_last p.0 p.1) (parse_map json.object o)) ≡ Some (object ms)
object_last o ms e =
    let read = converted_some (λ xs. of_members xs no_members) o ms [] e in
    ap (λ x. option_and_then of_json (option_and_then (λ p. if_last p.0 p.1) (parse_map json.object x))) read.1 ∙ ap (option_map object) read.2

-- a whole number that a numeral writes
pub unsigned_of : (p : Parts) (o : Option ℕ) → SomeIff o (IsInteger p × (digits_of p < 2 ^ 64)) (digits_of p) → IfSome o (λ n. number_from false p ≡ Some (unsigned n))
unsigned_of p None h = tt
unsigned_of p (Some n) h =
    let some : nat_lt 0 (length p.whole) ≡ true = search (h.0.0.0, rules, nat_tests) in
    let none : (length p.exponent == 0) ≡ true = search (h.0.0.2, rules, nat_tests) in
    let small : nat_lt (digits_of p) (2 ^ 64) ≡ true = search (h.0.1, rules, nat_tests) in
    rw (some, h.0.0.1, none, small, h.1) refl
