-- A fair history stays fair if the hand or the cost of a request changes that it does not name.
use Rattle.std.proofs.Common.{◌≡◌, ◌≢◌, ℕ, ◌+◌, ◌≤◌, Bool, true, false, List, [], ◌∷◌, ◌++◌, sym, refl, ap, ◌∙◌, subst}
use Rattle.std.specs.Prelude.{◌==◌, not, if◌then◌else◌, filter, slice_index}
use Rattle.apf_history.specs.declared.events.Event.{Event}
use Rattle.apf_history.specs.declared.events.Event.TheVariants.{Enter, Full, Dispatch, Strike}
use Rattle.apf_history.specs.Numbered.{width}
use Rattle.apf_history.specs.History.{entered, has_left, waiting, MayFollow, IsLegal}
use Rattle.apf_history.specs.Fair.{Numbers, numbers, after_enter, after_dispatch, finish, IsChoice, DispatchesChoices, IsFair}
use Rattle.apf_history.specs.Standing.{EachNames}

abbrev Each : (ℕ → Type 0) → List ℕ → Type 0
Each P [] = Unit {0}
Each P (r ∷ rs) = P r × Each P rs

each_append : (P : ℕ → Type 0) (xs : List ℕ) (r : ℕ) → Each P xs → P r → Each P (xs ++ r ∷ [])
each_append P [] r k p = (p, tt)
each_append P (x ∷ xs) r k p = (k.0, each_append P xs r k.1 p)

each_cond : (P : ℕ → Type 0) (b : Bool) (xs ys : List ℕ) → Each P xs → Each P ys → Each P (if b then xs else ys)
each_cond P true xs ys a b = a
each_cond P false xs ys a b = b

each_entered : (P : ℕ → Type 0) (h : List Event) (q : ℕ) → EachNames P h → Each P (entered h q)
each_entered P [] q k = tt
each_entered P (Enter r p ∷ h) q k = each_cond P (p == q) (entered h q ++ r ∷ []) (entered h q) (each_append P (entered h q) r (each_entered P h q k.1) k.0) (each_entered P h q k.1)
each_entered P (Full r p ∷ h) q k = each_entered P h q k.1
each_entered P (Dispatch r p ∷ h) q k = each_entered P h q k.1
each_entered P (Strike r p ∷ h) q k = each_entered P h q k.1

each_step : (P : ℕ → Type 0) (f : ℕ → Bool) (x : ℕ) (xs : List ℕ) (b : Bool) → f x ≡ b → P x → Each P (filter f xs) → Each P (filter f (x ∷ xs))
each_step P f x xs true is p k = subst (λ c. Each P (if c then x ∷ filter f xs else filter f xs)) (sym is) (p, k)
each_step P f x xs false is p k = subst (λ c. Each P (if c then x ∷ filter f xs else filter f xs)) (sym is) k

each_filter : (P : ℕ → Type 0) (f : ℕ → Bool) (xs : List ℕ) → Each P xs → Each P (filter f xs)
each_filter P f [] k = tt
each_filter P f (x ∷ xs) k = each_step P f x xs (f x) refl k.0 (each_filter P f xs k.1)

each_first : (P : ℕ → Type 0) (xs : List ℕ) → xs ≢ [] → Each P xs → P (slice_index xs 0)
each_first P [] some k = absurd (some refl)
each_first P (x ∷ xs) some k = k.0

-- the first of a queue that is not empty is named
pub first_named : (P : ℕ → Type 0) (h : List Event) (q : ℕ) → EachNames P h → waiting h q ≢ [] → P (slice_index (waiting h q) 0)
first_named P h q k some = each_first P (waiting h q) some (each_filter P (λ r. not (has_left h r)) (entered h q) (each_entered P h q k))

module _ (queues : ℕ) (costs costs' : List ℕ) where
  abbrev SameCost : ℕ → Type 0
  SameCost r = width costs' r ≡ width costs r

  same_numbers : (h : List Event) → EachNames SameCost h → numbers queues costs' h ≡ numbers queues costs h
  same_numbers [] k = refl
  same_numbers (Enter r q ∷ h) k = ap (after_enter q (waiting h q)) (same_numbers h k.1)
  same_numbers (Full r q ∷ h) k = same_numbers h k.1
  same_numbers (Dispatch r q ∷ h) k = λ i. after_dispatch q (k.0 i) (same_numbers h k.1 i)
  same_numbers (Strike r q ∷ h) k = same_numbers h k.1

  module _ (h : List Event) (k : EachNames SameCost h) (v : Numbers) where
    same_finish : (q : ℕ) → waiting h q ≢ [] → finish costs' (waiting h) v q ≡ finish costs (waiting h) v q
    same_finish q some = ap (λ x. v.next q + x) (first_named SameCost h q k some)

    pub choice_stands : (q : ℕ) → IsChoice queues costs (waiting h) v q → IsChoice queues costs' (waiting h) v q
    choice_stands q c =
        let mine = same_finish q c.is_waited_in in record {
          is_queue = c.is_queue;
          is_waited_in = c.is_waited_in;
          has_least_finish = λ p l some. subst (λ (x : ℕ × ℕ). x.0 ≤ x.1) (λ i. (sym mine i, sym (same_finish p some) i)) (c.has_least_finish p l some);
          is_reached_first = λ p l some e. c.is_reached_first p l some (sym (same_finish p some) ∙ (e ∙ mine));
        }

  choices_stand : (h : List Event) → EachNames SameCost h → DispatchesChoices queues costs h → DispatchesChoices queues costs' h
  choices_stand [] k d = tt
  choices_stand (Enter r q ∷ h) k d = choices_stand h k.1 d
  choices_stand (Full r q ∷ h) k d = choices_stand h k.1 d
  choices_stand (Dispatch r q ∷ h) k d = (subst (λ v. IsChoice queues costs' (waiting h) v q) (sym (same_numbers h k.1)) (choice_stands h k.1 (numbers queues costs h) q d.0), choices_stand h k.1 d.1)
  choices_stand (Strike r q ∷ h) k d = choices_stand h k.1 d

module _ (hands hands' : ℕ → List ℕ) (limit : ℕ) where
  abbrev SameHand : ℕ → Type 0
  SameHand r = hands' r ≡ hands r

  pub legal_stands : (h : List Event) → EachNames SameHand h → IsLegal hands limit h → IsLegal hands' limit h
  legal_stands [] k l = tt
  legal_stands (Enter r q ∷ h) k l = (subst (λ x. MayFollow (λ _. x) limit h (Enter r q)) (sym k.0) l.0, legal_stands h k.1 l.1)
  legal_stands (Full r q ∷ h) k l = (subst (λ x. MayFollow (λ _. x) limit h (Full r q)) (sym k.0) l.0, legal_stands h k.1 l.1)
  legal_stands (Dispatch r q ∷ h) k l = (l.0, legal_stands h k.1 l.1)
  legal_stands (Strike r q ∷ h) k l = (l.0, legal_stands h k.1 l.1)

pub fair_stands : (queues : ℕ) (costs costs' : List ℕ) (hands hands' : ℕ → List ℕ) (limit : ℕ) (h : List Event) → EachNames (λ r. (hands' r ≡ hands r)) h → EachNames (λ r. width costs' r ≡ width costs r) h
    → IsFair queues costs hands limit h → IsFair queues costs' hands' limit h
fair_stands queues costs costs' hands hands' limit h a b f = (legal_stands hands hands' limit h a f.0, choices_stand queues costs costs' h b f.1)
