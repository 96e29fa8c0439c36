-- Hands that stay are those that they were.
use Rattle.std.proofs.Common.{◌≡◌, ℕ, List, [], ◌∷◌, refl}
use Rattle.apf_history.specs.declared.events.Event.{Event}
use Rattle.apf_history.specs.Standing.{EachNames}

pub same_hands : (hands : ℕ → List ℕ) (h : List Event) → EachNames (λ r. hands r ≡ hands r) h
same_hands hands [] = tt
same_hands hands (e ∷ h) = (refl, same_hands hands h)
