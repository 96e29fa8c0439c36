-- A text without its beginning or its end, and around the last of a byte.
use Rattle.std.proofs.Common.{◌≡◌, ◌≢◌, ◌∙◌, ℕ, suc, ◌-◌, ◌<◌, List, [], ◌∷◌, ◌++◌, length, take, drop, get_or, Bool, true, false, nat_eq, Option, Some, None, option_map, Bor, refl, sym, ap, ap₂, subst, arith}
use Rattle.std.specs.Prelude.{if◌then◌else◌, MatchOption}
use Rattle.std.specs.List.{starts_with, ends_with}
use Rattle.std.specs.Str.{IsCharBoundary}
use Rattle.std.specs.Str.Pattern.{FindsTextPrefix, FindsTextSuffix, RFindsChar, StripsPrefix, StripsSuffix, SplitsAroundMatch}
use Rattle.std.proofs.lemmas.Bool.Decides.{Decides-eqb}
use Rattle.std.proofs.lemmas.List.{take-append-drop}
use Rattle.std.proofs.lemmas.Str.Pattern.{starts_text, ends_text, drop_at_char, NoCharPasses-char}
use Rattle.apf_matching.specs.Matches.{behind}
use Rattle.apf_changes.specs.Texts.{Sides, sides_view, around_last, ahead}

cut_by : (b : Bool) (rest other : List ℕ) → true ≡ b → rest ≡ other → Some rest ≡ (if b then Some other else None)
cut_by true rest other is same = ap Some same
cut_by false rest other is same = cc

whole_by : (b : Bool) (other : List ℕ) → false ≡ b → None ≡ (if b then Some other else None)
whole_by true other is = cc
whole_by false other is = refl

-- what `strip_prefix` gives
pub behind_is : (front text : List ℕ) (r : Option (Bor (List ℕ)))
    → MatchOption r (FindsTextPrefix front text None) (λ x. StripsPrefix (FindsTextPrefix front) text x.now)
    → option_map (λ rest. rest.now) r ≡ behind front text
behind_is front text None lacks = whole_by (starts_with nat_eq text front) (drop (length front) text) (starts_text false front text lacks)
behind_is front text (Some x) (k, found, cut, fits) =
    let on : IsCharBoundary text k = subst (λ (n : ℕ). IsCharBoundary text n) (sym found.0) found.2 in
    let same : x.now ≡ drop (length front) text = cut ∙ ap (λ (n : ℕ). drop n text) found.0 in
    cut_by (starts_with nat_eq text front) x.now (drop (length front) text) (starts_text true front text (k, found, on)) same

-- what `strip_suffix` gives
pub ahead_is : (end text : List ℕ) (r : Option (Bor (List ℕ)))
    → MatchOption r (FindsTextSuffix end text None) (λ x. StripsSuffix (FindsTextSuffix end) text x.now)
    → option_map (λ rest. rest.now) r ≡ ahead end text
ahead_is end text None lacks = whole_by (ends_with nat_eq text end) (take (length text - length end) text) (ends_text false end text lacks)
ahead_is end text (Some x) (k, found, cut, fits) =
    let on : IsCharBoundary text (length text - k) = subst (λ (n : ℕ). IsCharBoundary text (length text - n)) (sym found.0) found.2 in
    let same : x.now ≡ take (length text - length end) text = cut ∙ ap (λ (n : ℕ). take (length text - n) text) found.0 in
    cut_by (ends_with nat_eq text end) x.now (take (length text - length end) text) (ends_text true end text (k, found, omega (arith, fits), on)) same

pub no_sides : (b : Bool) (sides : Sides) → b ≡ false → (if b then Some sides else None) ≡ None
no_sides true sides is = cc
no_sides false sides is = refl

one_side : (b : Bool) (sides : Sides) → b ≡ true → (if b then Some sides else None) ≡ Some sides
one_side true sides is = refl
one_side false sides is = cc

pub differs : (b : Bool) → (b ≡ true → ⊥) → b ≡ false
differs true is = absurd (is refl)
differs false is = refl

-- a text without the byte has no sides
lacking : (wanted : ℕ) (text : List ℕ) → ((i : ℕ) → i < length text → get_or text i 0 ≢ wanted) → around_last wanted text ≡ None
lacking wanted [] lacks = refl
lacking wanted (byte ∷ rest) lacks =
    let later : around_last wanted rest ≡ None = lacking wanted rest (λ i within. lacks (suc i) (omega arith)) in
    let other : nat_eq byte wanted ≡ false = differs (nat_eq byte wanted) (λ same. lacks 0 (omega arith) ((Decides-eqb byte wanted).0 same)) in
    rw later (no_sides (nat_eq byte wanted) (record { front = []; back = rest }) other)

-- the byte is the last one where the rest has none
pub last_one : (wanted : ℕ) (front back : List ℕ) → around_last wanted back ≡ None
    → around_last wanted (front ++ wanted ∷ back) ≡ Some (record { front = front; back = back })
last_one wanted [] back lacks =
    rw lacks (one_side (nat_eq wanted wanted) (record { front = []; back = back }) ((Decides-eqb wanted wanted).1 refl))
last_one wanted (byte ∷ front) back lacks = rw (last_one wanted front back lacks) refl

-- what `rsplit_once` gives
pub around_is : (wanted : ℕ) (text : List ℕ) (r : Option (Bor (List ℕ) × Bor (List ℕ))) → wanted < 128
    → MatchOption r (RFindsChar wanted text None) (λ x. SplitsAroundMatch (RFindsChar wanted) text x.0.now x.1.now)
    → option_map sides_view r ≡ around_last wanted text
around_is wanted text None small lacks = sym (lacking wanted text (λ i within. NoCharPasses-char wanted text i lacks small within))
around_is wanted text (Some x) small (i, j, found, before, behind, on, front_length, back_length) =
    let whole : text ≡ take i text ++ wanted ∷ drop j text =
    sym (take-append-drop i text) ∙ ap (λ (t : List ℕ). take i text ++ t) (drop_at_char wanted text i j found.1 small) in
    let lacks : around_last wanted (drop j text) ≡ None =
    lacking wanted (drop j text) (λ k within. NoCharPasses-char wanted (drop j text) k found.0 small within) in
    let same : sides_view x ≡ record { front = take i text; back = drop j text } = ap₂ (λ (f b : List ℕ). record { front = f; back = b }) before behind in
    ap Some same ∙ sym (ap (λ (t : List ℕ). around_last wanted t) whole ∙ last_one wanted (take i text) (drop j text) lacks)
