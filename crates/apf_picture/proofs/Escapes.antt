-- What an escaped name is made of.
use Rattle.std.proofs.Common.{◌≡◌, ℕ, ◌<◌, List, [], ◌∷◌, ◌++◌, inl, inr, refl, sym, ◌∙◌, ap, arith, length, get_or, append-nil, map}
use Rattle.std.specs.Prelude.{All, ◌≢◌, ◌==◌, encode_utf8}
use Rattle.std.proofs.lemmas.Bool.{cond_both, eqb-false}
use Rattle.std.proofs.lemmas.Grind.{get_or_default_zero}
use Rattle.std.proofs.lemmas.List.Elements.{All-nil, All-cons}
use Rattle.std.proofs.lemmas.Str.{inside_one}
use Rattle.apf_picture.specs.Names.{character_text, escaped, is_marked, IsPlain, IsPiece, IsXmlText}
use Rattle.apf_picture.specs.Words.{joined}

-- a byte below 128 in a character's text is the character
no_byte : (c m k d : ℕ) → m < 128 → (c ≡ m → ⊥) → k < length (encode_utf8 c) → get_or (encode_utf8 c) k d ≢ m
no_byte c m k d low other within e =
    let at : get_or (encode_utf8 c) k 0 ≡ m = sym (get_or_default_zero (encode_utf8 c) k d within) ∙ e in
    other (inside_one c [] (encode_utf8 c) k (sym (append-nil (encode_utf8 c))) within (omega (arith, at, low)) ∙ at)

plain : (c : ℕ) → (c ≡ 38 → ⊥) → (c ≡ 60 → ⊥) → (c ≡ 62 → ⊥) → (c ≡ 34 → ⊥) → All IsPlain (encode_utf8 c)
plain c a b e f = λ k d within. record {
  no_ampersand = no_byte c 38 k d (omega arith) a within;
  no_less_than = no_byte c 60 k d (omega arith) b within;
  no_greater_than = no_byte c 62 k d (omega arith) e within;
  no_quote = no_byte c 34 k d (omega arith) f within;
}

piece : (c : ℕ) → IsPiece (character_text c)
piece c =
    cond_both (c == 38) _ _ IsPiece (λ _. inl (inl refl)) (λ a.
    cond_both (c == 60) _ _ IsPiece (λ _. inl (inr (inl refl))) (λ b.
    cond_both (c == 62) _ _ IsPiece (λ _. inl (inr (inr (inl refl)))) (λ e.
    cond_both (c == 34) _ _ IsPiece (λ _. inl (inr (inr (inr (inl refl))))) (λ f.
    cond_both (is_marked c) _ _ IsPiece (λ _. inl (inr (inr (inr (inr refl))))) (λ _.
    inr (plain c (eqb-false c 38 a) (eqb-false c 60 b) (eqb-false c 62 e) (eqb-false c 34 f)))))))

pieces : (name : List ℕ) → All IsPiece (map character_text name)
pieces [] = All-nil IsPiece
pieces (c ∷ cs) = All-cons IsPiece (character_text c) (map character_text cs) (piece c) (pieces cs)

joins : (name : List ℕ) → joined (map character_text name) ≡ escaped name
joins [] = refl
joins (c ∷ cs) = ap (λ (t : List ℕ). character_text c ++ t) (joins cs)

pub is_xml_text : (name : List ℕ) → IsXmlText (escaped name)
is_xml_text name = record { pieces = map character_text name; each = pieces name; is = joins name }
