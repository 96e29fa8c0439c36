-- Two lists of the same in the order of places are the same.
use Rattle.std.proofs.Common.{◌≡◌, ℕ, zero, suc, ◌<◌, ◌≤◌, ◌⊎◌, ◌==◌, false, cond, List, [], ◌∷◌, ◌++◌, length, get_or, count_by, Contains, IsPermutation, refl, sym, ap, ◌∙◌, subst, inl, inr, ⊎_elim, arith}
use Rattle.std.specs.List.{AllByRecursion}
use Rattle.std.proofs.lemmas.Bool.Decides.{nat_tests}
use Rattle.std.proofs.lemmas.List.{append-nil}
use Rattle.std.proofs.lemmas.List.Sums.{sum_by-cons}
use Rattle.std.proofs.lemmas.List.Sorted.{Contains-permutation, IsPermutation-sym, IsPermutation-trans, sum_by-IsPermutation}
use Rattle.apf_times.specs.declared.window.Place.{Place}
use Rattle.apf_times.specs.declared.window.Arrival.{Arrival}
use Rattle.apf_times.specs.Windows.{WindowView, precedes}
use Rattle.apf_times.specs.WindowRuns.{AreInPlace, Call, HaveOwnLines, IsWindowRun, all_came, all_out}
use Rattle.apf_times.proofs.Counts.{one_if}
use Rattle.apf_times.proofs.Handings.{run_order, run_same}

same_line : (a b : Place) → precedes a b ≡ false → precedes b a ≡ false → a.line ≡ b.line
same_line a b h k = grind (arith, nat_tests)

counts_one : (m n : ℕ) → m ≡ n → one_if (m == n) ≡ 1
counts_one m n e = grind (arith, nat_tests)

module _ {T : Type 0} where
  -- it is one of these
  abbrev IsAmong : Arrival T → List (Arrival T) → Type 0
  IsAmong z [] = ⊥
  IsAmong z (x ∷ xs) = (z ≡ x) ⊎ IsAmong z xs

  among_contains : (z : Arrival T) (xs : List (Arrival T)) → IsAmong z xs → Contains xs z
  among_contains z [] h = absurd h
  among_contains z (x ∷ xs) h = ⊎_elim (λ e. (0, omega arith, sym e)) (λ r. let c = among_contains z xs r in (suc c.0, omega arith, c.2)) h

  among_at : (xs : List (Arrival T)) (k : ℕ) (z : Arrival T) → k < length xs → get_or xs k z ≡ z → IsAmong z xs
  among_at [] k z low is = absurd (omega arith)
  among_at (x ∷ xs) zero z low is = inl (sym is)
  among_at (x ∷ xs) (suc k) z low is = inr (among_at xs k z (omega arith) is)

  among_moved : (xs ys : List (Arrival T)) → IsPermutation xs ys → (z : Arrival T) → IsAmong z xs → IsAmong z ys
  among_moved xs ys same z h = let c = Contains-permutation xs ys z same (among_contains z xs h) in among_at ys c.0 z c.1 c.2

  of_all : (P : Arrival T → Type 0) (z : Arrival T) (xs : List (Arrival T)) → AllByRecursion P xs → IsAmong z xs → P z
  of_all P z [] all h = absurd h
  of_all P z (x ∷ xs) all h = ⊎_elim (λ e. subst P (sym e) all.0) (λ r. of_all P z xs all.1 r) h

  -- one of these with this line is counted
  counted_line : (z : Arrival T) (xs : List (Arrival T)) (line : ℕ) → z.place.line ≡ line → IsAmong z xs → 1 ≤ count_by (λ x. x.place.line == line) xs
  counted_line z [] line is h = absurd h
  counted_line z (x ∷ xs) line is h =
      let sums = sum_by-cons (λ (y : Arrival T). cond (y.place.line == line) 1 0) x xs in
      ⊎_elim {C = 1 ≤ count_by (λ y. y.place.line == line) (x ∷ xs)}
      (λ e. let one = counts_one x.place.line line (ap (λ y. y.place.line) (sym e) ∙ is) in omega arith)
      (λ r. let rest = counted_line z xs line is r in omega arith)
      h

  -- the first has no line of one behind it
  twice : (x z : Arrival T) (xs : List (Arrival T)) → HaveOwnLines (x ∷ xs) → IsAmong z xs → z.place.line ≡ x.place.line → ⊥
  twice x z xs own h is =
      let sums = sum_by-cons (λ (y : Arrival T). cond (y.place.line == x.place.line) 1 0) x xs in
      let one = counts_one x.place.line x.place.line refl in
      let more = counted_line z xs x.place.line is h in
      let most = own x.place.line in omega arith

  own_tail : (x : Arrival T) (xs : List (Arrival T)) → HaveOwnLines (x ∷ xs) → HaveOwnLines xs
  own_tail x xs own line = let sums = sum_by-cons (λ (y : Arrival T). cond (y.place.line == line) 1 0) x xs in let most = own line in omega arith

  own_moved : (xs ys : List (Arrival T)) → IsPermutation xs ys → HaveOwnLines xs → HaveOwnLines ys
  own_moved xs ys same own line = let sums = sum_by-IsPermutation (λ (y : Arrival T). cond (y.place.line == line) 1 0) xs ys same in let most = own line in omega arith

  first_same : (x y : Arrival T) (xs ys : List (Arrival T)) → AreInPlace (x ∷ xs) → AreInPlace (y ∷ ys) → HaveOwnLines (y ∷ ys) → IsAmong x (y ∷ ys) → IsAmong y (x ∷ xs) → x ≡ y
  first_same x y xs ys order order' own h k =
      ⊎_elim {C = x ≡ y} (λ e. e)
      (λ r. ⊎_elim {C = x ≡ y} (λ e. sym e)
      (λ q. absurd (twice y x ys own r (same_line x.place y.place (of_all (λ z. precedes z.place y.place ≡ false) x ys order'.0 r) (of_all (λ z. precedes z.place x.place ≡ false) y xs order.0 q)))) k) h

  -- what is behind the first of one list is behind that of the other
  behind : (x y : Arrival T) (xs ys : List (Arrival T)) → x ≡ y → HaveOwnLines (x ∷ xs) → ((z : Arrival T) → IsAmong z (x ∷ xs) → IsAmong z (y ∷ ys)) → (z : Arrival T) → IsAmong z xs → IsAmong z ys
  behind x y xs ys same own forth z h =
      ⊎_elim {C = IsAmong z ys} (λ e. absurd (twice x z xs own h (ap (λ a. a.place.line) (e ∙ sym same)))) (λ r. r) (forth z (inr h))

  one_order : (xs ys : List (Arrival T)) → AreInPlace xs → AreInPlace ys → HaveOwnLines xs → HaveOwnLines ys
      → ((z : Arrival T) → IsAmong z xs → IsAmong z ys) → ((z : Arrival T) → IsAmong z ys → IsAmong z xs) → xs ≡ ys
  one_order [] [] order order' own own' forth back = refl
  one_order [] (y ∷ ys) order order' own own' forth back = absurd (back y (inl refl))
  one_order (x ∷ xs) [] order order' own own' forth back = absurd (forth x (inl refl))
  one_order (x ∷ xs) (y ∷ ys) order order' own own' forth back =
      let same = first_same x y xs ys order order' own' (forth x (inl refl)) (back y (inl refl)) in
      let rest = one_order xs ys order.1 order'.1 (own_tail x xs own) (own_tail y ys own') (behind x y xs ys same own forth) (behind y x ys xs (sym same) own' back) in
      ap (λ z. z ∷ xs) same ∙ ap (λ zs. y ∷ zs) rest

  pub one_in_place : (xs ys : List (Arrival T)) → AreInPlace xs → AreInPlace ys → IsPermutation xs ys → HaveOwnLines xs → xs ≡ ys
  one_in_place xs ys order order' same own =
      one_order xs ys order order' own (own_moved xs ys same own) (among_moved xs ys same) (among_moved ys xs (IsPermutation-sym xs ys same))

  -- at the end of a run all was handed out in that order
  pub run_whole : (size : ℕ) (calls : List (Call T)) (v : WindowView T) (ordered : List (Arrival T)) → IsWindowRun size calls v → v.held ≡ [] → HaveOwnLines (all_came calls) → AreInPlace ordered → IsPermutation (all_came calls) ordered
      → all_out calls ≡ ordered
  run_whole size calls v ordered run none own in_place moved =
      let out : IsPermutation (all_came calls) (all_out calls) = subst (IsPermutation (all_came calls)) (ap (λ l. all_out calls ++ l) none ∙ append-nil (all_out calls)) (run_same size calls v run) in
      let back = IsPermutation-sym (all_came calls) (all_out calls) out in
      one_in_place (all_out calls) ordered (run_order size calls v run) in_place (IsPermutation-trans (all_out calls) (all_came calls) ordered back moved) (own_moved (all_came calls) (all_out calls) out own)
