-- The last of the requests that are left is brought to its end, and its Pass is put behind those that are left of the others.
use Rattle.std.proofs.Common.{◌≡◌, ℕ, ◌+◌, ◌-◌, ◌<◌, ◌≤◌, inl, inr, List, [], ◌∷◌, ◌++◌, length, length-append, get_or, sym, ap, ◌∙◌, subst, arith, refl}
use Rattle.std.proofs.lemmas.Bool.{cases_eq}
use Rattle.std.proofs.lemmas.List.{get_or_append_left, get_or_at}
use Rattle.apf_gate.specs.Tokens.{PassToken}
use Rattle.apf_session.specs.Requests.{RequestView, IsLeftOf}

module _ (all xs ys : List RequestView) (r : RequestView) (dones : List PassToken) (t : PassToken) (items : xs ≡ ys ++ r ∷ []) (count : length dones + length xs ≡ length all)
    (rest : (i : ℕ) (d : RequestView) → i < length xs → get_or xs i d ≡ get_or all i d) where
  one_more : length xs ≡ length ys + 1
  one_more = ap length items ∙ length-append ys (r ∷ [])

  pub rest_still : (i : ℕ) (d : RequestView) → i < length ys → get_or ys i d ≡ get_or all i d
  rest_still i d low = sym (ap (λ (l : List RequestView). get_or l i d) items ∙ get_or_append_left ys (r ∷ []) d i low) ∙ rest i d (let m = one_more in omega (arith, low, m))

  last : (d : RequestView) → get_or all (length ys) d ≡ r
  last d = sym (rest (length ys) d (let m = one_more in omega (arith, m))) ∙ (ap (λ (l : List RequestView). get_or l (length ys) d) items ∙ get_or_at ys r [] d (length ys) refl)

  pub left_more : IsLeftOf r t
      → ((i : ℕ) (d : RequestView) (e : PassToken) → length xs ≤ i → i < length all → IsLeftOf (get_or all i d) (get_or dones (length all - 1 - i) e))
      → (i : ℕ) (d : RequestView) (e : PassToken) → length ys ≤ i → i < length all → IsLeftOf (get_or all i d) (get_or (dones ++ t ∷ []) (length all - 1 - i) e)
  left_more one before i d e low high = elim (cases_eq i (length ys)) [
    | inl is ↦ subst (λ (q : RequestView). IsLeftOf q (get_or (dones ++ t ∷ []) (length all - 1 - i) e)) (sym (ap (λ (j : ℕ). get_or all j d) is ∙ last d))
        (subst (λ (q : PassToken). IsLeftOf r q) (sym (get_or_at dones t [] e (length all - 1 - i) (let m = one_more in let n = count in omega (arith, m, n, is)))) one)
    | inr ne ↦ subst (λ (q : PassToken). IsLeftOf (get_or all i d) q) (sym (get_or_append_left dones (t ∷ []) e (length all - 1 - i) (let m = one_more in let n = count in omega (arith, m, n, low, ne, high))))
        (before i d e (let m = one_more in omega (arith, m, low, ne)) high)
  ]
