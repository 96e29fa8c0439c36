-- One request of a list is brought to its end, and the others stay.
use Rattle.std.proofs.Common.{◌≡◌, ℕ, ◌<◌, inl, inr, List, length, get_or, set, get_or-set_same, get_or-set_other, sym, ap, ◌∙◌, subst}
use Rattle.std.proofs.lemmas.Bool.{cases_eq}
use Rattle.std.proofs.lemmas.List.{get_or_default}
use Rattle.apf_session.specs.Requests.{RequestView, StaysTold, StayTold}
use Rattle.apf_session.proofs.Staying.{trans}

module _ (old now : List RequestView) (p : ℕ) (x r : RequestView) (low : p < length now) where
  pub numbered : x.number ≡ (get_or now p r).number → ((i : ℕ) (d : RequestView) → (get_or now i d).number ≡ (get_or old i d).number)
      → (i : ℕ) (d : RequestView) → (get_or (set now p x) i d).number ≡ (get_or old i d).number
  numbered same before i d = elim (cases_eq i p) [
    | inl is ↦ ap (λ (j : ℕ). (get_or (set now p x) j d).number) is
        ∙ (ap (λ (y : RequestView). y.number) (get_or-set_same now p x d low)
        ∙ (same
        ∙ (ap (λ (y : RequestView). y.number) (get_or_default now p r d low)
        ∙ (before p d ∙ ap (λ (j : ℕ). (get_or old j d).number) (sym is)))))
    | inr ne ↦ ap (λ (y : RequestView). y.number) (get_or-set_other now p i x d ne) ∙ before i d
  ]

  pub told : StaysTold (get_or now p r).token x.token → StayTold old now → StayTold old (set now p x)
  told one before i d = elim (cases_eq i p) [
    | inl is ↦ subst (λ (j : ℕ). StaysTold (get_or old j d).token (get_or (set now p x) j d).token) (sym is)
        (subst (λ (y : RequestView). StaysTold (get_or old p d).token y.token) (sym (get_or-set_same now p x d low))
        (trans (get_or old p d).token (get_or now p d).token x.token (before p d)
        (subst (λ (y : RequestView). StaysTold y.token x.token) (get_or_default now p r d low) one)))
    | inr ne ↦ subst (λ (y : RequestView). StaysTold (get_or old i d).token y.token) (sym (get_or-set_other now p i x d ne)) (before i d)
  ]
