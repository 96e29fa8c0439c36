-- The last of the Passes that are left becomes a request, which is put behind those of the Passes that came after it.
use Rattle.std.proofs.Common.{◌≡◌, ℕ, ◌+◌, ◌<◌, inl, inr, List, [], ◌∷◌, ◌++◌, length, length-append, get_or, All, sym, ap, ◌∙◌, subst, arith, refl}
use Rattle.std.proofs.lemmas.Bool.{cases_eq}
use Rattle.std.proofs.lemmas.List.{get_or_append_left, get_or_at}
use Rattle.apf_gate.specs.Tokens.{PassToken}
use Rattle.apf_session.specs.Requests.{RequestView}

module _ (xs ys : List PassToken) (pass : PassToken) (items : xs ≡ ys ++ pass ∷ []) where
  one_more : length xs ≡ length ys + 1
  one_more = ap length items ∙ length-append ys (pass ∷ [])

  still_left : (k : ℕ) (d : PassToken) → k < length ys → get_or xs k d ≡ get_or ys k d
  still_left k d low = ap (λ (l : List PassToken). get_or l k d) items ∙ get_or_append_left ys (pass ∷ []) d k low

  pub all_left : (P : PassToken → Type 0) → All P xs → All P ys
  all_left P all k d low = subst P (still_left k d low) (all k d (let m = one_more in omega (arith, low, m)))

  pub still_numbered : ((i : ℕ) (d : PassToken) → i < length xs → (get_or xs i d).pass.number ≡ i)
      → (i : ℕ) (d : PassToken) → i < length ys → (get_or ys i d).pass.number ≡ i
  still_numbered numbered i d low =
      sym (ap (λ (t : PassToken). t.pass.number) (still_left i d low)) ∙ numbered i d (let m = one_more in omega (arith, low, m))

  last_number : ((i : ℕ) (d : PassToken) → i < length xs → (get_or xs i d).pass.number ≡ i) → pass.pass.number ≡ length ys
  last_number numbered =
      sym (ap (λ (t : PassToken). t.pass.number) (ap (λ (l : List PassToken). get_or l (length ys) pass) items ∙ get_or_at ys pass [] pass (length ys) refl))
      ∙ numbered (length ys) pass (let m = one_more in omega (arith, m))

  pub next_numbered : (requests : List RequestView) (r : RequestView) (n : ℕ) → r.number ≡ pass.pass.number → length requests + length xs ≡ n
      → ((i : ℕ) (d : PassToken) → i < length xs → (get_or xs i d).pass.number ≡ i)
      → ((i : ℕ) (d : RequestView) → i < length requests → (get_or requests i d).number + i + 1 ≡ n)
      → (i : ℕ) (d : RequestView) → i < length (requests ++ r ∷ []) → (get_or (requests ++ r ∷ []) i d).number + i + 1 ≡ n
  next_numbered requests r n is count numbered before i d low =
      let more = length-append requests (r ∷ []) in
      elim (cases_eq i (length requests)) [
        | inl at ↦ let last = ap (λ (q : RequestView). q.number) (get_or_at requests r [] d i (sym at)) in
            let m = one_more in
            let l = last_number numbered in
            omega (arith, last, is, l, m, count, at)
        | inr ne ↦ let old = ap (λ (q : RequestView). q.number) (get_or_append_left requests (r ∷ []) d i (omega (arith, low, more, ne))) in
            let was = before i d (omega (arith, low, more, ne)) in
            omega (arith, old, was)
      ]
