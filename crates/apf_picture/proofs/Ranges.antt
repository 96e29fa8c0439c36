-- Texts over a range of numbers, and one number more.
use Rattle.std.proofs.Common.{◌≡◌, ℕ, zero, suc, ◌+◌, List, [], ◌∷◌, ◌++◌, ◌<◌, length, take, get_or, reverse, Option, None, Some, sym, ◌∙◌, ap, subst, arith, append-nil, append_assoc}
use Rattle.std.specs.Prelude.{map}
use Rattle.std.proofs.lemmas.List.{map_push, take_more, reverse-append, length-map}
use Rattle.std.proofs.lemmas.List.Elements.{All-push}
use Rattle.std.proofs.lemmas.List.Sums.{sum_by-cons}
use Rattle.std.proofs.lemmas.List.FromFn.{length-range_with_len, length-map-range_with_len, map-range_with_len_more}
use Rattle.std.specs.Prelude.{sum_by}
use Rattle.apf_picture.specs.Ranks.{place_of, rows_of}
use Rattle.apf_picture.specs.declared.life.Life.{Life}
use Rattle.apf_picture.specs.declared.cutting.Cutting.{Cutting}
use Rattle.apf_picture.specs.declared.row.Row.{Row}
use Rattle.apf_picture.specs.Labels.{Called}
use Rattle.apf_picture.specs.Rows.{AreRows, IsOneMore, IsRow, number_in, label_in}
use Rattle.apf_picture.specs.Bars.{all_rows, row_text, height_of}
use Rattle.apf_picture.specs.declared.columns.Strip.{Strip}
use Rattle.apf_picture.specs.Columns.{queue_in}
use Rattle.std.specs.List.{flat_map, range_with_len}
use Rattle.std.specs.Io.KnownBytes.{Appends}
use Rattle.std.proofs.lemmas.Grind.{flat_map-append}

last : (a n j : ℕ) → a + n ≡ j → range_with_len a (suc n) ≡ range_with_len a n ++ j ∷ []
last a zero j e = let same : a ≡ j = omega arith in ap (λ (k : ℕ). k ∷ []) same
last a (suc n) j e = ap (λ (l : List ℕ). a ∷ l) (last (a + 1) n j (omega arith))

pub range_more : (a n j : ℕ) → a + n ≡ j → range_with_len a (n + 1) ≡ range_with_len a n ++ j ∷ []
range_more a n j e = let on : n + 1 ≡ suc n = omega arith in ap (range_with_len a) on ∙ last a n j e

pub flat_range_more : (f : ℕ → List ℕ) (a n j : ℕ) → a + n ≡ j → flat_map f (range_with_len a (n + 1)) ≡ flat_map f (range_with_len a n) ++ f j
flat_range_more f a n j e =
    ap (flat_map f) (range_more a n j e) ∙ (flat_map-append f (range_with_len a n) (j ∷ []) ∙ ap (λ (t : List ℕ). flat_map f (range_with_len a n) ++ t) (append-nil (f j)))

-- a text, and one more
pub appends_more : (old mid new : Option (List ℕ)) (xs ys : List ℕ) → Appends old mid xs → Appends mid new ys → Appends old new (xs ++ ys)
appends_more None mid new xs ys h k = tt
appends_more (Some a) None new xs ys h k = absurd h
appends_more (Some a) (Some b) None xs ys h k = absurd k
appends_more (Some a) (Some b) (Some c) xs ys h k = k ∙ ap (λ (zs : List ℕ). zs ++ ys) h ∙ append_assoc a xs ys

pub appends_three : (old one two new : Option (List ℕ)) (xs ys zs : List ℕ) → Appends old one xs → Appends one two ys → Appends two new zs → Appends old new (xs ++ ys ++ zs)
appends_three old one two new xs ys zs h k l = appends_more old two new (xs ++ ys) zs (appends_more old one two xs ys h k) l

-- the texts of the numbers so far, and that of one number more
pub appends_range : (old mid new : Option (List ℕ)) (f : ℕ → List ℕ) (a n j : ℕ) → a + n ≡ j
    → Appends old mid (flat_map f (range_with_len a n)) → Appends mid new (f j) → Appends old new (flat_map f (range_with_len a (n + 1)))
appends_range old mid new f a n j e h k =
    subst (λ (t : List ℕ). Appends old new t) (sym (flat_range_more f a n j e)) (appends_more old mid new (flat_map f (range_with_len a n)) (f j) h k)

-- the queues of strips, and of one strip more
pub strips_more : (strips : List Strip) (strip : Strip) → map queue_in (strips ++ strip ∷ []) ≡ map queue_in strips ++ queue_in strip ∷ []
strips_more strips strip = map_push queue_in strips strip

-- as many rows as flows
pub length_rows : (own : List ℕ) (flows : ℕ) → length (rows_of own flows) ≡ flows
length_rows own flows = length-map-range_with_len (λ (flow : ℕ). place_of flow own) 0 flows

-- one row more
pub rows_more : (lives : List Life) (label : ℕ → Called) (n m : ℕ) (called : Called) (rows new : List Row) → called ≡ label n → n + 1 ≡ m
    → AreRows lives label n rows → IsOneMore lives n called rows new → AreRows lives label m new
rows_more lives label n m called rows new e k h more =
    subst (λ (j : ℕ). AreRows lives label j new) k
    (subst (λ (rs : List Row). AreRows lives label (n + 1) rs) (sym more.is) (record {
      numbers = map_push number_in rows more.row ∙ ap (λ (ns : List ℕ). ns ++ number_in more.row ∷ []) h.numbers ∙ ap (λ (j : ℕ). range_with_len 0 n ++ j ∷ []) more.number_is ∙ sym (range_more 0 n n (omega arith));
      labels = map_push label_in rows more.row ∙ ap (λ (cs : List Called). cs ++ label_in more.row ∷ []) h.labels ∙ ap (λ (c : Called). map label (range_with_len 0 n) ++ c ∷ []) (more.label_is ∙ e) ∙ sym (map-range_with_len_more label 0 n n (omega arith));
      each = All-push (IsRow lives) rows more.row h.each more.has;
    }))

-- the texts of rows, and that of one row more
pub rows_text_more : (rows : List Row) (row : Row) (cutting : Cutting) (y end : ℕ) → all_rows (rows ++ row ∷ []) cutting y end ≡ all_rows rows cutting y end ++ row_text row cutting (y + sum_by height_of rows) end
rows_text_more [] row cutting y end =
    let here : y ≡ y + 0 = omega arith in
    append-nil (row_text row cutting y end) ∙ ap (λ (at : ℕ). row_text row cutting at end) here
rows_text_more (first ∷ rows) row cutting y end =
    let high : y + height_of first + sum_by height_of rows ≡ y + sum_by height_of (first ∷ rows) = omega (arith, sum_by-cons height_of first rows) in
    ap (λ (t : List ℕ). row_text first cutting y end ++ t) (rows_text_more rows row cutting (y + height_of first) end ∙ ap (λ (at : ℕ). all_rows rows cutting (y + height_of first) end ++ row_text row cutting at end) high)
    ∙ sym (append_assoc (row_text first cutting y end) (all_rows rows cutting (y + height_of first) end) (row_text row cutting (y + sum_by height_of (first ∷ rows)) end))

pub rows_taken : (rows : List Row) (i : ℕ) (row : Row) (cutting : Cutting) (y end : ℕ) → i < length rows → row ≡ get_or rows i row
    → all_rows (take (i + 1) rows) cutting y end ≡ all_rows (take i rows) cutting y end ++ row_text row cutting (y + sum_by height_of (take i rows)) end
rows_taken rows i row cutting y end within is =
    ap (λ (rs : List Row). all_rows rs cutting y end) (take_more rows i row within ∙ ap (λ (r : Row). take i rows ++ r ∷ []) (sym is)) ∙ rows_text_more (take i rows) row cutting y end

-- the numbers from the last one down, and one number less
pub down_more : (ns ms : List ℕ) (left m : ℕ) → left ≡ m + 1 → ns ++ reverse (range_with_len 0 left) ≡ ms → (ns ++ m ∷ []) ++ reverse (range_with_len 0 m) ≡ ms
down_more ns ms left m e h =
    let less : reverse (range_with_len 0 left) ≡ m ∷ reverse (range_with_len 0 m) =
    ap (λ (n : ℕ). reverse (range_with_len 0 n)) e ∙ ap reverse (range_more 0 m m (omega arith)) ∙ reverse-append (range_with_len 0 m) (m ∷ []) in
    append_assoc ns (m ∷ []) (reverse (range_with_len 0 m)) ∙ ap (λ (t : List ℕ). ns ++ t) (sym less) ∙ h

-- as many rows as are counted
pub rows_counted : (lives : List Life) (label : ℕ → Called) (n : ℕ) (rows : List Row) → AreRows lives label n rows → length rows ≡ n
rows_counted lives label n rows h = sym (length-map rows number_in) ∙ ap length h.numbers ∙ length-range_with_len 0 n
