-- A step for each of those that are chosen from a list, and then for those that are chosen behind them.
use Rattle.std.proofs.Common.{ℕ, suc, ◌+◌, ◌<◌, Bool, true, false, cond, List, [], ◌∷◌, length, map, drop, get_or, drop-cons, add-one, sym, subst}
use Rattle.std.specs.Prelude.{filter}
use Rattle.std.specs.List.{FoldsTo}
use Rattle.apf_gate.specs.declared.record.StationRecord.{StationRecord}

module _ {A : Type 0} (chooses : A → Bool) (number : A → ℕ) (Step : StationRecord → ℕ → StationRecord → Type 0) where
  abbrev These : List A → StationRecord → StationRecord → Type 0
  These xs a b = FoldsTo Step a (map number (filter chooses xs)) b

  one_first : (is : Bool) (x : A) (xs : List A) (a b c : StationRecord) → FoldsTo Step a (map number (cond is (x ∷ []) [])) b → FoldsTo Step b (map number xs) c
      → FoldsTo Step a (map number (cond is (x ∷ xs) xs)) c
  one_first true x xs a b c one more = (one.0, one.1, subst (λ (s : StationRecord). FoldsTo Step s (map number xs) c) (sym one.2) more)
  one_first false x xs a b c one more = subst (λ (s : StationRecord). FoldsTo Step s (map number xs) c) (sym one) more

  -- the one at this place, and then those behind it
  pub at_place : (xs : List A) (i : ℕ) (d : A) (a b c : StationRecord) → i < length xs → These (get_or xs i d ∷ []) a b → These (drop (i + 1) xs) b c → These (drop i xs) a c
  at_place xs i d a b c low one more =
      subst (λ (l : List A). These l a c) (sym (drop-cons xs i d low))
      (one_first (chooses (get_or xs i d)) (get_or xs i d) (filter chooses (drop (suc i) xs)) a b c one
      (subst (λ (n : ℕ). These (drop n xs) b c) (add-one i) more))
