-- Nobody is settled twice.
use Rattle.std.proofs.Common.{◌≡◌, ℕ, ◌+◌, ◌≤◌, inl, inr, Bool, cond, List, [], ◌∷◌, refl, ap, arith}
use Rattle.std.specs.Prelude.{count_by}
use Rattle.std.proofs.lemmas.Bool.{cases_eq, eq-eqb, ne_eqb}
use Rattle.apf_history.specs.declared.events.Event.TheVariants.{Enter, Full, Dispatch, Strike}
use Rattle.apf_history.specs.declared.events.LogEntry.{LogEntry}
use Rattle.apf_history.specs.declared.events.LogEntry.TheVariants.{Happens, Spends, Settles}
use Rattle.apf_history.specs.Order.{is_dispatch_of}
use Rattle.apf_history.specs.Charged.{events, Running, runs, total, FollowsChoices, IsSettled, one_if_is, dispatches_in, settles_in}
use Rattle.apf_history.proofs.Numbers.{count, dispatched_once}
use Rattle.apf_history.proofs.Settled.{begun_here, begun_else, settled_here, settled_else, spent_here, spent_else}

module _ (queues : ℕ) (costs : List ℕ) (r q : ℕ) where
  of_request : Running → ℕ
  of_request x = one_if_is r x.request

  -- who was dispatched from a queue executes or was settled
  kept : (l : List LogEntry) → FollowsChoices queues costs l → total (λ x. one_if_is r x.request) (runs costs l q) + settles_in r q l ≡ dispatches_in r q l
  kept [] d = refl
  kept (Happens (Enter j p) ∷ l) d = kept l d.1
  kept (Happens (Full j p) ∷ l) d = kept l d.1
  kept (Happens (Strike j p) ∷ l) d = kept l d.1
  kept (Happens (Dispatch j p) ∷ l) d =
      let old = kept l d.1 in
      elim (cases_eq p q) [
        | inl same ↦ (let a = begun_here costs (λ x. one_if_is r x.request) j p q (runs costs l q) same in
            let b : dispatches_in r q (Happens (Dispatch j p) ∷ l) ≡ one_if_is r j + dispatches_in r q l = ap (λ (x : Bool). cond x (one_if_is r j + dispatches_in r q l) (dispatches_in r q l)) (eq-eqb p q same) in omega arith)
        | inr other ↦ (let a = begun_else costs (λ x. one_if_is r x.request) j p q (runs costs l q) other in
            let b : dispatches_in r q (Happens (Dispatch j p) ∷ l) ≡ dispatches_in r q l = ap (λ (x : Bool). cond x (one_if_is r j + dispatches_in r q l) (dispatches_in r q l)) (ne_eqb p q other) in omega arith)
      ]
  kept (Spends j p k m ∷ l) d =
      let old = kept l d.1 in
      elim (cases_eq p q) [
        | inl same ↦ (let a = spent_here costs (λ x. one_if_is r x.request) j p k m l q same d.0 in omega arith)
        | inr other ↦ (let a = spent_else costs (λ x. one_if_is r x.request) j p k m l q other in omega arith)
      ]
  kept (Settles j p k m ∷ l) d =
      let old = kept l d.1 in
      elim (cases_eq p q) [
        | inl same ↦ (let a = settled_here costs (λ x. one_if_is r x.request) j p k m l q same d.0 in
            let b : settles_in r q (Settles j p k m ∷ l) ≡ one_if_is r j + settles_in r q l = ap (λ (x : Bool). cond x (one_if_is r j + settles_in r q l) (settles_in r q l)) (eq-eqb p q same) in omega arith)
        | inr other ↦ (let a = settled_else costs (λ x. one_if_is r x.request) j p k m l q other in
            let b : settles_in r q (Settles j p k m ∷ l) ≡ settles_in r q l = ap (λ (x : Bool). cond x (one_if_is r j + settles_in r q l) (settles_in r q l)) (ne_eqb p q other) in omega arith)
      ]

  within : (l : List LogEntry) → dispatches_in r q l ≤ count_by (is_dispatch_of r) (events l)
  within [] = omega arith
  within (Happens (Enter j p) ∷ l) = let old = within l in let c = count (is_dispatch_of r) (Enter j p) (events l) in omega arith
  within (Happens (Full j p) ∷ l) = let old = within l in let c = count (is_dispatch_of r) (Full j p) (events l) in omega arith
  within (Happens (Strike j p) ∷ l) = let old = within l in let c = count (is_dispatch_of r) (Strike j p) (events l) in omega arith
  within (Happens (Dispatch j p) ∷ l) =
      let old = within l in let c = count (is_dispatch_of r) (Dispatch j p) (events l) in
      elim (cases_eq p q) [
        | inl same ↦ (let b : dispatches_in r q (Happens (Dispatch j p) ∷ l) ≡ one_if_is r j + dispatches_in r q l = ap (λ (x : Bool). cond x (one_if_is r j + dispatches_in r q l) (dispatches_in r q l)) (eq-eqb p q same) in omega arith)
        | inr other ↦ (let b : dispatches_in r q (Happens (Dispatch j p) ∷ l) ≡ dispatches_in r q l = ap (λ (x : Bool). cond x (one_if_is r j + dispatches_in r q l) (dispatches_in r q l)) (ne_eqb p q other) in omega arith)
      ]
  within (Spends j p k m ∷ l) = within l
  within (Settles j p k m ∷ l) = within l

pub once : (queues : ℕ) (costs : List ℕ) (hands : ℕ → List ℕ) (limit : ℕ) (l : List LogEntry) (r q : ℕ) → IsSettled queues costs hands limit l → settles_in r q l ≤ 1
once queues costs hands limit l r q s =
    let a = kept queues costs r q l s.1 in let b = within queues costs r q l in let c = dispatched_once hands limit (events l) s.0 r in omega arith
