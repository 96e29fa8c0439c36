-- What a window holds, and what it hands out.
use Rattle.std.proofs.Common.{◌≡◌, ℕ, zero, suc, ◌+◌, ◌<◌, Bool, true, false, not, List, [], ◌∷◌, ◌++◌, length, slice_index_or, Option, Some, None, IsPermutation, refl, sym, ap, ◌∙◌, subst, is_lt, arith}
use Rattle.std.specs.List.{AllByRecursion}
use Rattle.std.specs.declared.cmp.Reverse.{Reverse}
use Rattle.std.proofs.lemmas.Bool.Decides.{nat_tests}
use Rattle.std.proofs.lemmas.List.{length-append, length-map}
use Rattle.std.proofs.lemmas.List.Sorted.{IsPermutation-append_right, IsPermutation-map, IsPermutation-middle, IsPermutation-refl, IsPermutation-sym, IsPermutation-trans, length_permutation}
use Rattle.apf_times.specs.declared.window.Place.{Place}
use Rattle.apf_times.specs.declared.window.Arrival.{Arrival}
use Rattle.apf_times.specs.Windows.{all_held, place_cmp, precedes, unwrapped, IsHandedOut, IsPopped, IsPushed, NoneBefore, WindowView}
use Rattle.apf_times.specs.WindowRuns.{AreInPlace}
use Rattle.apf_times.proofs.Handings.{not_before_trans}

-- a list has one first
pub same_first : {X : Type 0} (xs : List X) (x y : X) → 0 < length xs → x ≡ slice_index_or xs 0 x → y ≡ slice_index_or xs 0 y → x ≡ y
same_first [] x y some is other = absurd (omega arith)
same_first (h ∷ hs) x y some is other = is ∙ sym other

pub no_lower : (b p : Bool) → b ≡ p → not b ≡ true → p ≡ false
no_lower true p is none = sym is ∙ absurd (cc)
no_lower false p is none = sym is

-- who is before another is not after it
not_both : (a b : Place) → precedes a b ≡ true → precedes b a ≡ false
not_both a b h = grind (arith, nat_tests)

module _ {T : Type 0} where
  pub unwrapped_all : (P : Arrival T → Type 0) (xs : List (Reverse (Arrival T))) → AllByRecursion (λ x. P x.0) xs → AllByRecursion P (unwrapped xs)
  unwrapped_all P [] all = all
  unwrapped_all P (x ∷ xs) all = (all.0, unwrapped_all P xs all.1)

  both_all : (P : Arrival T → Type 0) (xs ys : List (Arrival T)) → AllByRecursion P xs → AllByRecursion P ys → AllByRecursion P (xs ++ ys)
  both_all P [] ys all more = more
  both_all P (x ∷ xs) ys all more = (all.0, both_all P xs ys all.1 more)

  -- as many are held as stand in order, and came late
  pub held_length : (xs : List (Arrival T)) (ys : List (Reverse (Arrival T))) → length (all_held xs ys) ≡ length xs + length ys
  held_length xs ys = length-append xs (unwrapped ys) ∙ ap (λ n. length xs + n) (length-map ys (λ x. x.0))

  -- who is not before the last of these is before none of them
  pub behind_all : (x : Place) (xs : List (Arrival T)) (n : ℕ) (last : Arrival T) → n + 1 ≡ length xs → last ≡ slice_index_or xs n last → precedes x last.place ≡ false → AreInPlace xs
      → AllByRecursion (λ h. precedes x h.place ≡ false) xs
  behind_all x [] n last long is behind order = tt
  behind_all x (h ∷ []) zero last long is behind order = (subst (λ (a : Arrival T). precedes x a.place ≡ false) is behind, tt)
  behind_all x (h ∷ []) (suc n) last long is behind order = absurd (omega arith)
  behind_all x (h ∷ (k ∷ ks)) zero last long is behind order = absurd (omega arith)
  behind_all x (h ∷ (k ∷ ks)) (suc n) last long is behind order =
      let rest = behind_all x (k ∷ ks) n last (omega arith) is behind order.1 in
      (not_before_trans x k.place h.place rest.0 order.0.0, rest)

  none_before : (x h : Arrival T) (ys : List (Arrival T)) → NoneBefore h ys → precedes h.place x.place ≡ false → NoneBefore x ys
  none_before x h [] all low = tt
  none_before x h (y ∷ ys) all low = (not_before_trans y.place h.place x.place all.0 low, none_before x h ys all.1 low)

  -- who is before the first of these is not after any of them
  pub before_all : (x : Arrival T) (xs : List (Arrival T)) (first : Arrival T) → first ≡ slice_index_or xs 0 first → precedes x.place first.place ≡ true → AreInPlace xs → NoneBefore x xs
  before_all x [] first is before order = tt
  before_all x (h ∷ hs) first is before order =
      let not_after = not_both x.place h.place (subst (λ (a : Arrival T). precedes x.place a.place ≡ true) is before) in
      (not_after, none_before x h hs order.0 not_after)

  -- where the first that came late is not before the first of the others, no late one is
  pub none_late : (first : Arrival T) (top : Reverse (Arrival T)) (ys : List (Reverse (Arrival T))) → precedes top.0.place first.place ≡ false
      → AllByRecursion (λ y. is_lt (place_cmp y.0.place top.0.place) ≡ false) ys → NoneBefore first (unwrapped ys)
  none_late first top [] low all = tt
  none_late first top (y ∷ ys) low all = (not_before_trans y.0.place top.0.place first.place all.0 low, none_late first top ys low all.1)

  -- the first that came late leaves
  pub late_leaves : (xs : List (Arrival T)) (ys zs : List (Reverse (Arrival T))) (x : Reverse (Arrival T)) → IsPermutation ys (x ∷ zs) → NoneBefore x.0 xs
      → AllByRecursion (λ y. is_lt (place_cmp y.0.place x.0.place) ≡ false) zs → IsHandedOut (all_held xs ys) (Some x.0) (all_held xs zs)
  late_leaves xs ys zs x same low below =
      let moved = IsPermutation-append_right xs (unwrapped ys) (x.0 ∷ unwrapped zs) (IsPermutation-map (λ z. z.0) ys (x ∷ zs) same) in (
        IsPermutation-trans (all_held xs ys) (xs ++ x.0 ∷ unwrapped zs) (x.0 ∷ all_held xs zs) moved (IsPermutation-middle xs x.0 (unwrapped zs)),
        both_all (λ y. precedes y.place x.0.place ≡ false) xs (unwrapped zs) low (unwrapped_all (λ y. precedes y.place x.0.place ≡ false) zs below),
      )

  -- the first of those in order leaves
  pub first_leaves : (xs : List (Arrival T)) (ys : List (Reverse (Arrival T))) (x : Arrival T) → AreInPlace (x ∷ xs) → NoneBefore x (unwrapped ys) → IsHandedOut (all_held (x ∷ xs) ys) (Some x) (all_held xs ys)
  first_leaves xs ys x order low = (IsPermutation-refl (x ∷ all_held xs ys), both_all (λ y. precedes y.place x.place ≡ false) xs (unwrapped ys) order.0 low)

  put_behind : (x : Arrival T) (hs us : List (Arrival T)) → hs ++ x ∷ us ≡ (hs ++ x ∷ []) ++ us
  put_behind x [] us = refl
  put_behind x (h ∷ hs) us = ap (λ l. h ∷ l) (put_behind x hs us)

  -- one more came in order
  pub joins_in_order : (xs : List (Arrival T)) (ys : List (Reverse (Arrival T))) (x : Arrival T) → IsPermutation (x ∷ all_held xs ys) (all_held (xs ++ x ∷ []) ys)
  joins_in_order xs ys x =
      subst (IsPermutation (x ∷ all_held xs ys)) (put_behind x xs (unwrapped ys))
      (IsPermutation-sym (xs ++ x ∷ unwrapped ys) (x ∷ all_held xs ys) (IsPermutation-middle xs x (unwrapped ys)))

  -- one more came late
  pub joins_late : (xs : List (Arrival T)) (ys zs : List (Reverse (Arrival T))) (x : Reverse (Arrival T)) → IsPermutation (x ∷ ys) zs → IsPermutation (x.0 ∷ all_held xs ys) (all_held xs zs)
  joins_late xs ys zs x same =
      IsPermutation-trans (x.0 ∷ all_held xs ys) (xs ++ x.0 ∷ unwrapped ys) (all_held xs zs)
      (IsPermutation-sym (xs ++ x.0 ∷ unwrapped ys) (x.0 ∷ all_held xs ys) (IsPermutation-middle xs x.0 (unwrapped ys)))
      (IsPermutation-append_right xs (x.0 ∷ unwrapped ys) (unwrapped zs) (IsPermutation-map (λ z. z.0) (x ∷ ys) zs same))

  -- one more came, and more than the size are held: the first of all is handed out
  pub pushed_out : (x : Arrival T) (u w v : WindowView T) (out : Option (Arrival T)) → IsPermutation (x ∷ u.held) w.held → w.size ≡ u.size → w.size < length w.held → IsPopped w out v → IsPushed x u out v
  pushed_out x u w v None joins size over popped = let none = ap length popped.0 in absurd (omega arith)
  pushed_out x u w v (Some first) joins size over popped =
      let more = length_permutation (x ∷ u.held) w.held joins in
      (omega arith, record { same = IsPermutation-trans (x ∷ u.held) w.held (first ∷ v.held) joins popped.same; is_first = popped.is_first; last = popped.last })
