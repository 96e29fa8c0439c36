-- Texts of a name, a setting and a value.
use Rattle.std.proofs.Common.{◌≡◌, ℕ, [], ◌∷◌, ◌++◌, Bool, true, false, nat_eq, Option, Some, None, refl, ap}
use Rattle.std.specs.Prelude.{◌||◌, if◌then◌else◌, MatchOption}
use Rattle.std.proofs.lemmas.Bool.Decides.{Decides-eqb}
use Rattle.apf_objects.specs.Rules.{Text}
use Rattle.apf_changes.specs.Reading.{change_of, of_name, written}
use Rattle.apf_changes.specs.Texts.{Sides, around_last, sides_from, dot, equals_sign, has}
use Rattle.apf_changes.proofs.Cuts.{last_one, no_sides}

-- what stands on both sides of the last byte
abbrev AreSides : ℕ → Text → Option Sides → Type 0
AreSides byte text sides = MatchOption sides (has byte text ≡ false) (λ s. (text ≡ s.front ++ byte ∷ s.back) × (has byte s.back ≡ false))

first_by : (byte b : ℕ) (rest : Text) (same : Bool) → nat_eq b byte ≡ same → has byte rest ≡ false
    → AreSides byte (b ∷ rest) (if same then Some (record { front = []; back = rest }) else None)
first_by byte b rest true same lacks = (ap (λ (x : ℕ). x ∷ rest) ((Decides-eqb b byte).0 same), lacks)
first_by byte b rest false same lacks = rw (same, lacks) refl

sides_by : (byte b : ℕ) (rest : Text) (sides : Option Sides) → AreSides byte rest sides → AreSides byte (b ∷ rest) (sides_from byte b rest sides)
sides_by byte b rest (Some sides) are = (ap (λ (xs : Text). b ∷ xs) are.0, are.1)
sides_by byte b rest None lacks = first_by byte b rest (nat_eq b byte) refl lacks

pub sides_are : (byte : ℕ) (text : Text) → AreSides byte text (around_last byte text)
sides_are byte [] = refl
sides_are byte (b ∷ rest) = sides_by byte b rest (around_last byte rest) (sides_are byte rest)

pub neither : (one other : Bool) → (one || other) ≡ false → (one ≡ false) × (other ≡ false)
neither true other h = cc
neither false other h = (refl, h)

-- a text without the byte has no sides
none_of : (byte : ℕ) (text : Text) → has byte text ≡ false → around_last byte text ≡ None
none_of byte [] lacks = refl
none_of byte (b ∷ rest) lacks =
    let parts = neither (nat_eq b byte) (has byte rest) lacks in
    rw (none_of byte rest parts.1) (no_sides (nat_eq b byte) (record { front = []; back = rest }) parts.0)

pub key_is_read : (name setting value : Text) → has dot setting ≡ false → has equals_sign value ≡ false → change_of (written name setting value) ≡ of_name name setting value
unfolding change_of
key_is_read name setting value plain single =
    let outer = last_one equals_sign (name ++ dot ∷ setting) value (none_of equals_sign value single) in
    let inner = last_one dot name setting (none_of dot setting plain) in
    rw (outer, inner) refl
