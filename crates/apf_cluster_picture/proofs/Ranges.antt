-- Texts of one number after another, and of one level below another.
use Rattle.std.proofs.Common.{◌≡◌, ℕ, zero, suc, ◌+◌, ◌-◌, ◌<◌, ◌≤◌, List, [], ◌∷◌, ◌++◌, length, take, get_or, Option, sym, ap, subst, ◌∙◌, arith, append_assoc, add-one}
use Rattle.std.specs.List.{flat_map, range_with_len}
use Rattle.std.specs.Io.KnownBytes.{Appends}
use Rattle.std.proofs.KnownBytes.{Appends-trans}
use Rattle.std.specs.Prelude.{sum_by}
use Rattle.std.proofs.lemmas.List.{append-nil, take_more}
use Rattle.std.proofs.lemmas.List.Sums.{sum_by-cons}
use Rattle.apf_cluster_picture.specs.Levels.{high_of}
use Rattle.apf_cluster_picture.specs.Pictures.{levels_from}
use Rattle.apf_cluster_picture.specs.Strips.{level_text}
use Rattle.apf_cluster_picture.specs.declared.level.LevelStrip.{LevelStrip}

place_more : (f : ℕ → List ℕ) (a n j : ℕ) → a + n ≡ j → flat_map f (range_with_len a (suc n)) ≡ flat_map f (range_with_len a n) ++ f j
place_more f a zero j e = let same : a ≡ j = omega (arith, e) in append-nil (f a) ∙ ap f same
place_more f a (suc n) j e =
    let rest = place_more f (a + 1) n j (omega (arith, e)) in
    ap (λ (l : List ℕ). f a ++ l) rest ∙ sym (append_assoc (f a) (flat_map f (range_with_len (a + 1) n)) (f j))

-- the texts of the numbers so far, and that of one number more
pub appends_next : (old mid new : Option (List ℕ)) (f : ℕ → List ℕ) (a j : ℕ) → a ≤ j
    → Appends old mid (flat_map f (range_with_len a (j - a))) → Appends mid new (f j) → Appends old new (flat_map f (range_with_len a (j + 1 - a)))
appends_next old mid new f a j l h k =
    let next : j + 1 - a ≡ suc (j - a) = omega arith in
    let more = ap (λ (n : ℕ). flat_map f (range_with_len a n)) next ∙ place_more f a (j - a) j (omega arith) in
    subst (λ (t : List ℕ). Appends old new t) (sym more) (Appends-trans old mid new (flat_map f (range_with_len a (j - a))) (f j) h k)

-- the same from 0 on
pub appends_first : (old mid new : Option (List ℕ)) (f : ℕ → List ℕ) (j : ℕ)
    → Appends old mid (flat_map f (range_with_len 0 j)) → Appends mid new (f j) → Appends old new (flat_map f (range_with_len 0 (j + 1)))
appends_first old mid new f j h k =
    let more = ap (λ (n : ℕ). flat_map f (range_with_len 0 n)) (add-one j) ∙ place_more f 0 j j (omega arith) in
    subst (λ (t : List ℕ). Appends old new t) (sym more) (Appends-trans old mid new (flat_map f (range_with_len 0 j)) (f j) h k)

-- three texts, one after another
pub appends_three : (old one two new : Option (List ℕ)) (xs ys zs : List ℕ) → Appends old one xs → Appends one two ys → Appends two new zs → Appends old new (xs ++ ys ++ zs)
appends_three old one two new xs ys zs h k l = Appends-trans old two new (xs ++ ys) zs (Appends-trans old one two xs ys h k) l

-- the texts of levels, and that of one level more
levels_more : (levels : List LevelStrip) (level : LevelStrip) (top end : ℕ) → levels_from top (levels ++ level ∷ []) end ≡ levels_from top levels end ++ level_text level end (top + sum_by high_of levels)
levels_more [] level top end =
    let here : top ≡ top + 0 = omega arith in
    append-nil (level_text level end top) ∙ ap (λ (at : ℕ). level_text level end at) here
levels_more (first ∷ levels) level top end =
    let high : top + high_of first + sum_by high_of levels ≡ top + sum_by high_of (first ∷ levels) = omega (arith, sum_by-cons high_of first levels) in
    ap (λ (t : List ℕ). level_text first end top ++ t) (levels_more levels level (top + high_of first) end ∙ ap (λ (at : ℕ). levels_from (top + high_of first) levels end ++ level_text level end at) high)
    ∙ sym (append_assoc (level_text first end top) (levels_from (top + high_of first) levels end) (level_text level end (top + sum_by high_of (first ∷ levels))))

pub levels_taken : (levels : List LevelStrip) (i : ℕ) (level : LevelStrip) (top end : ℕ) → i < length levels → level ≡ get_or levels i level
    → levels_from top (take (i + 1) levels) end ≡ levels_from top (take i levels) end ++ level_text level end (top + sum_by high_of (take i levels))
levels_taken levels i level top end within is =
    ap (λ (ls : List LevelStrip). levels_from top ls end) (take_more levels i level within ∙ ap (λ (l : LevelStrip). take i levels ++ l ∷ []) (sym is)) ∙ levels_more (take i levels) level top end
