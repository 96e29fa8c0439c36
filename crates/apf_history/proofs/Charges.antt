-- What a queue is charged for a request that executes, by a log.
use Rattle.std.proofs.Common.{◌≡◌, ◌≢◌, ◌⊎◌, ◌<◌, ℕ, inl, inr, Bool, cond, true, false, eqb, List, [], ◌∷◌, Option, Some, None, refl, sym, ap, ◌∙◌, subst}
use Rattle.std.specs.Prelude.{◌&&◌}
use Rattle.std.proofs.lemmas.Bool.{cases_eq, eq-eqb, ne_eqb}
use Rattle.apf_history.specs.declared.events.Event.TheVariants.{Enter, Full, Dispatch, Strike}
use Rattle.apf_history.specs.declared.events.Charge.{Charge}
use Rattle.apf_history.specs.declared.events.LogEntry.{LogEntry}
use Rattle.apf_history.specs.declared.events.LogEntry.TheVariants.{Happens, Spends, Settles}
use Rattle.apf_history.specs.Numbered.{width}
use Rattle.apf_history.specs.Charged.{events, Running, ended, IsAmong, runs, charge_of, FollowsChoices, IsSettled}
use Rattle.apf_history.specs.Standing.{EachNames}

-- who is among one of two lists
among_cond : (r k : ℕ) (b : Bool) (xs ys : List Running) → IsAmong r k xs → IsAmong r k ys → IsAmong r k (cond b xs ys)
among_cond r k true xs ys x y = x
among_cond r k false xs ys x y = y

-- another request ended: who executes executes still
survives : (r k j m : ℕ) (xs : List Running) → r ≢ j → IsAmong r k xs → IsAmong r k (ended j m xs)
survives r k j m [] ne is = is
survives r k j m (x ∷ xs) ne (inl same) =
    let flag : (eqb x.request j && eqb x.charge m) ≡ false = ap (λ (b : Bool). b && eqb x.charge m) (ne_eqb x.request j (λ e. ne (sym same.0 ∙ e))) in
    subst (λ (b : Bool). IsAmong r k (cond b xs (x ∷ ended j m xs))) (sym flag) (inl same)
survives r k j m (x ∷ xs) ne (inr is) = among_cond r k (eqb x.request j && eqb x.charge m) xs (x ∷ ended j m xs) is (inr (survives r k j m xs ne is))

charged_queue : (a b : Charge) → Some a ≡ Some b → (a.queue ≡ b.queue) × (a.amount ≡ b.amount)
charged_queue a b e = (ap queue_in e, ap amount_in e) where
  queue_in : Option Charge → ℕ
  queue_in (Some c) = c.queue
  queue_in None = 0

  amount_in : Option Charge → ℕ
  amount_in (Some c) = c.amount
  amount_in None = 0

none_some : (c : Charge) → None ≡ Some c → ⊥
none_some c e = cc

-- what is charged for the newest request
here : (b : Bool) (r : ℕ) (new : Charge) (before : Option Charge) (c : Charge) → b ≡ true → cond b (Some new) before ≡ Some c → (new.queue ≡ c.queue) × (new.amount ≡ c.amount)
here b r new before c is e = charged_queue new c (sym (ap (λ (x : Bool). cond x (Some new) before) is) ∙ e)

there : (b : Bool) (new before : Option Charge) (c : Charge) → b ≡ false → cond b new before ≡ Some c → before ≡ Some c
there b new before c is e = sym (ap (λ (x : Bool). cond x new before) is) ∙ e

-- it is the first of those that execute from its queue
first_among : (j k r m p q : ℕ) (ys zs : List Running) → j ≡ r → p ≡ q → k ≡ m → IsAmong r m (cond (eqb p q) (record { request = j; charge = k } ∷ ys) zs)
first_among j k r m p q ys zs same to equal = subst (λ (b : Bool). IsAmong r m (cond b (record { request = j; charge = k } ∷ ys) zs)) (sym (eq-eqb p q to)) (inl (same, equal))

pub among : (costs : List ℕ) (l : List LogEntry) (r : ℕ) (c : Charge) → charge_of costs l r ≡ Some c → IsAmong r c.amount (runs costs l c.queue)
among costs [] r c is = absurd (none_some c is)
among costs (Happens (Enter j p) ∷ l) r c is = among costs l r c is
among costs (Happens (Full j p) ∷ l) r c is = among costs l r c is
among costs (Happens (Strike j p) ∷ l) r c is = among costs l r c is
among costs (Happens (Dispatch j p) ∷ l) r c is = elim (cases_eq j r) [
  | inl same ↦
      (let found = here (eqb j r) r (record { queue = p; amount = width costs j }) (charge_of costs l r) c (eq-eqb j r same) is in
      first_among j (width costs j) r c.amount p c.queue (runs costs l c.queue) (runs costs l c.queue) same found.0 found.1)
  | inr other ↦
      (let old = among costs l r c (there (eqb j r) (Some (record { queue = p; amount = width costs j })) (charge_of costs l r) c (ne_eqb j r other) is) in
      among_cond r c.amount (eqb p c.queue) (record { request = j; charge = width costs j } ∷ runs costs l c.queue) (runs costs l c.queue) (inr old) old)
]
among costs (Spends j p k m ∷ l) r c is = elim (cases_eq j r) [
  | inl same ↦
      (let found = here (eqb j r) r (record { queue = p; amount = m }) (charge_of costs l r) c (eq-eqb j r same) is in
      first_among j m r c.amount p c.queue (ended j k (runs costs l c.queue)) (runs costs l c.queue) same found.0 found.1)
  | inr other ↦
      (let old = among costs l r c (there (eqb j r) (Some (record { queue = p; amount = m })) (charge_of costs l r) c (ne_eqb j r other) is) in
      among_cond r c.amount (eqb p c.queue) (record { request = j; charge = m } ∷ ended j k (runs costs l c.queue)) (runs costs l c.queue)
      (inr (survives r c.amount j k (runs costs l c.queue) (λ e. other (sym e)) old)) old)
]
among costs (Settles j p k m ∷ l) r c is = elim (cases_eq j r) [
  | inl same ↦ absurd (none_some c (sym (ap (λ (b : Bool). cond b None (charge_of costs l r)) (eq-eqb j r same)) ∙ is))
  | inr other ↦
      (let old = among costs l r c (there (eqb j r) None (charge_of costs l r) c (ne_eqb j r other) is) in
      among_cond r c.amount (eqb p c.queue) (ended j k (runs costs l c.queue)) (runs costs l c.queue)
      (survives r c.amount j k (runs costs l c.queue) (λ e. other (sym e)) old) old)
]

-- who executes was dispatched, so its history names it
one_of : (r k : ℕ) (b : Bool) (xs ys : List Running) → IsAmong r k (cond b xs ys) → IsAmong r k xs ⊎ IsAmong r k ys
one_of r k true xs ys is = inl is
one_of r k false xs ys is = inr is

left_among : (r k j m : ℕ) (xs : List Running) → IsAmong r k (ended j m xs) → IsAmong r k xs
left_among r k j m [] is = absurd is
left_among r k j m (x ∷ xs) is = elim (one_of r k (eqb x.request j && eqb x.charge m) xs (x ∷ ended j m xs) is) [
  | inl rest ↦ inr rest
  | inr all ↦ elim all [
    | inl first ↦ inl first
    | inr rest ↦ inr (left_among r k j m xs rest)
  ]
]

module _ (queues : ℕ) (costs : List ℕ) (r : ℕ) where
  nobody : (l : List LogEntry) → FollowsChoices queues costs l → EachNames (λ j. j ≢ r) (events l) → (k q : ℕ) → ¬ IsAmong r k (runs costs l q)
  nobody [] d names k q is = is
  nobody (Happens (Enter j p) ∷ l) d names k q is = nobody l d.1 names.1 k q is
  nobody (Happens (Full j p) ∷ l) d names k q is = nobody l d.1 names.1 k q is
  nobody (Happens (Strike j p) ∷ l) d names k q is = nobody l d.1 names.1 k q is
  nobody (Happens (Dispatch j p) ∷ l) d names k q is = elim (one_of r k (eqb p q) (record { request = j; charge = width costs j } ∷ runs costs l q) (runs costs l q) is) [
    | inl all ↦ elim all [
      | inl first ↦ names.0 first.0
      | inr old ↦ nobody l d.1 names.1 k q old
    ]
    | inr old ↦ nobody l d.1 names.1 k q old
  ]
  nobody (Spends j p old new ∷ l) d names k q is = elim (one_of r k (eqb p q) (record { request = j; charge = new } ∷ ended j old (runs costs l q)) (runs costs l q) is) [
    | inl all ↦ elim all [
      | inl first ↦ nobody l d.1 names old p (subst (λ (i : ℕ). IsAmong i old (runs costs l p)) first.0 d.0)
      | inr was ↦ nobody l d.1 names k q (left_among r k j old (runs costs l q) was)
    ]
    | inr was ↦ nobody l d.1 names k q was
  ]
  nobody (Settles j p old new ∷ l) d names k q is = elim (one_of r k (eqb p q) (ended j old (runs costs l q)) (runs costs l q) is) [
    | inl was ↦ nobody l d.1 names k q (left_among r k j old (runs costs l q) was)
    | inr was ↦ nobody l d.1 names k q was
  ]

  unnamed_by : (l : List LogEntry) → FollowsChoices queues costs l → EachNames (λ j. j ≢ r) (events l) → (c : Option Charge) → charge_of costs l r ≡ c → c ≡ None
  unnamed_by l d names None is = refl
  unnamed_by l d names (Some c) is = absurd (nobody l d names c.amount c.queue (among costs l r c is))

pub unnamed : (queues : ℕ) (costs : List ℕ) (hands : ℕ → List ℕ) (limit : ℕ) (l : List LogEntry) (r : ℕ) → IsSettled queues costs hands limit l
    → EachNames (λ j. j ≢ r) (events l) → charge_of costs l r ≡ None
unnamed queues costs hands limit l r s names = unnamed_by queues costs r l s.1 names (charge_of costs l r) refl

-- who executes does so from a queue of the level
module _ (queues : ℕ) (costs : List ℕ) where
  in_range : (l : List LogEntry) → FollowsChoices queues costs l → (r k q : ℕ) → IsAmong r k (runs costs l q) → q < queues
  in_range [] d r k q is = absurd is
  in_range (Happens (Enter j p) ∷ l) d r k q is = in_range l d.1 r k q is
  in_range (Happens (Full j p) ∷ l) d r k q is = in_range l d.1 r k q is
  in_range (Happens (Strike j p) ∷ l) d r k q is = in_range l d.1 r k q is
  in_range (Happens (Dispatch j p) ∷ l) d r k q is = elim (cases_eq p q) [
    | inl same ↦ subst (λ (i : ℕ). i < queues) same d.0.is_queue
    | inr other ↦ in_range l d.1 r k q (subst (λ (b : Bool). IsAmong r k (cond b (record { request = j; charge = width costs j } ∷ runs costs l q) (runs costs l q))) (ne_eqb p q other) is)
  ]
  in_range (Spends j p old new ∷ l) d r k q is = elim (cases_eq p q) [
    | inl same ↦ subst (λ (i : ℕ). i < queues) same (in_range l d.1 j old p d.0)
    | inr other ↦ in_range l d.1 r k q (subst (λ (b : Bool). IsAmong r k (cond b (record { request = j; charge = new } ∷ ended j old (runs costs l q)) (runs costs l q))) (ne_eqb p q other) is)
  ]
  in_range (Settles j p old new ∷ l) d r k q is = elim (cases_eq p q) [
    | inl same ↦ subst (λ (i : ℕ). i < queues) same (in_range l d.1 j old p d.0)
    | inr other ↦ in_range l d.1 r k q (subst (λ (b : Bool). IsAmong r k (cond b (ended j old (runs costs l q)) (runs costs l q))) (ne_eqb p q other) is)
  ]

pub from_queue : (queues : ℕ) (costs : List ℕ) (hands : ℕ → List ℕ) (limit : ℕ) (l : List LogEntry) (r k q : ℕ) → IsSettled queues costs hands limit l
    → IsAmong r k (runs costs l q) → q < queues
from_queue queues costs hands limit l r k q s is = in_range queues costs l s.1 r k q is

-- what requests cost that the history does not name makes no difference
pub same_charges : (costs costs' : List ℕ) (l : List LogEntry) → EachNames (λ j. width costs' j ≡ width costs j) (events l) → (r : ℕ) → charge_of costs' l r ≡ charge_of costs l r
same_charges costs costs' [] k r = refl
same_charges costs costs' (Happens (Enter j p) ∷ l) k r = same_charges costs costs' l k.1 r
same_charges costs costs' (Happens (Full j p) ∷ l) k r = same_charges costs costs' l k.1 r
same_charges costs costs' (Happens (Strike j p) ∷ l) k r = same_charges costs costs' l k.1 r
same_charges costs costs' (Happens (Dispatch j p) ∷ l) k r = λ i. cond (eqb j r) (Some (record { queue = p; amount = k.0 i })) (same_charges costs costs' l k.1 r i)
same_charges costs costs' (Spends j p old new ∷ l) k r = ap (λ (before : Option Charge). cond (eqb j r) (Some (record { queue = p; amount = new })) before) (same_charges costs costs' l k r)
same_charges costs costs' (Settles j p old new ∷ l) k r = ap (λ (before : Option Charge). cond (eqb j r) None before) (same_charges costs costs' l k r)
