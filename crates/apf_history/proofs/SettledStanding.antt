-- A settled log stays settled if the hand or the cost of a request changes that its history does not name.
use Rattle.std.proofs.Common.{◌≡◌, ℕ, cond, eqb, List, [], ◌∷◌, sym, refl, ap, subst}
use Rattle.apf_history.specs.declared.events.Event.TheVariants.{Enter, Full, Dispatch, Strike}
use Rattle.apf_history.specs.declared.events.LogEntry.{LogEntry}
use Rattle.apf_history.specs.declared.events.LogEntry.TheVariants.{Happens, Spends, Settles}
use Rattle.apf_history.specs.Numbered.{width}
use Rattle.apf_history.specs.History.{waiting}
use Rattle.apf_history.specs.Fair.{after_enter, after_dispatch, IsChoice}
use Rattle.apf_history.specs.Charged.{events, after_charge, charged_numbers, ended, IsAmong, runs, FollowsChoices, IsSettled}
use Rattle.apf_history.specs.Standing.{EachNames}
use Rattle.apf_history.proofs.Standing.{choice_stands, legal_stands}

module _ (queues : ℕ) (costs costs' : List ℕ) where
  abbrev SameCost : ℕ → Type 0
  SameCost r = width costs' r ≡ width costs r

  pub same_charged : (l : List LogEntry) → EachNames SameCost (events l) → charged_numbers queues costs' l ≡ charged_numbers queues costs l
  same_charged [] k = refl
  same_charged (Happens (Enter r q) ∷ l) k = ap (after_enter q (waiting (events l) q)) (same_charged l k.1)
  same_charged (Happens (Full r q) ∷ l) k = same_charged l k.1
  same_charged (Happens (Dispatch r q) ∷ l) k = λ i. after_dispatch q (k.0 i) (same_charged l k.1 i)
  same_charged (Happens (Strike r q) ∷ l) k = same_charged l k.1
  same_charged (Spends r q old new ∷ l) k = ap (after_charge q old new) (same_charged l k)
  same_charged (Settles r q old new ∷ l) k = ap (after_charge q old new) (same_charged l k)

  pub same_runs : (l : List LogEntry) → EachNames SameCost (events l) → (q : ℕ) → runs costs' l q ≡ runs costs l q
  same_runs [] k q = refl
  same_runs (Happens (Enter r p) ∷ l) k q = same_runs l k.1 q
  same_runs (Happens (Full r p) ∷ l) k q = same_runs l k.1 q
  same_runs (Happens (Dispatch r p) ∷ l) k q = λ i. cond (eqb p q) (record { request = r; charge = k.0 i } ∷ same_runs l k.1 q i) (same_runs l k.1 q i)
  same_runs (Happens (Strike r p) ∷ l) k q = same_runs l k.1 q
  same_runs (Spends r p old new ∷ l) k q = λ i. cond (eqb p q) (record { request = r; charge = new } ∷ ended r old (same_runs l k q i)) (same_runs l k q i)
  same_runs (Settles r p old new ∷ l) k q = λ i. cond (eqb p q) (ended r old (same_runs l k q i)) (same_runs l k q i)

  follows_stand : (l : List LogEntry) → EachNames SameCost (events l) → FollowsChoices queues costs l → FollowsChoices queues costs' l
  follows_stand [] k d = tt
  follows_stand (Happens (Enter r q) ∷ l) k d = (tt, follows_stand l k.1 d.1)
  follows_stand (Happens (Full r q) ∷ l) k d = (tt, follows_stand l k.1 d.1)
  follows_stand (Happens (Dispatch r q) ∷ l) k d =
      (subst (λ v. IsChoice queues costs' (waiting (events l)) v q) (sym (same_charged l k.1)) (choice_stands queues costs costs' (events l) k.1 (charged_numbers queues costs l) q d.0), follows_stand l k.1 d.1)
  follows_stand (Happens (Strike r q) ∷ l) k d = (tt, follows_stand l k.1 d.1)
  follows_stand (Spends r q old new ∷ l) k d = (subst (IsAmong r old) (sym (same_runs l k q)) d.0, follows_stand l k d.1)
  follows_stand (Settles r q old new ∷ l) k d = (subst (IsAmong r old) (sym (same_runs l k q)) d.0, follows_stand l k d.1)

pub settled_stands : (queues : ℕ) (costs costs' : List ℕ) (hands hands' : ℕ → List ℕ) (limit : ℕ) (l : List LogEntry) → EachNames (λ r. (hands' r ≡ hands r)) (events l) → EachNames (λ r. width costs' r ≡ width costs r) (events l)
    → IsSettled queues costs hands limit l → IsSettled queues costs' hands' limit l
settled_stands queues costs costs' hands hands' limit l a b s = (legal_stands hands hands' limit (events l) a s.0, follows_stand queues costs costs' l b s.1)
