-- There is one choice at most.
use Rattle.std.proofs.Common.{◌≡◌, ℕ, ◌+◌, ◌-◌, ◌%◌, ◌<◌, ◌≤◌, ◌⊎◌, inl, inr, List, [], ◌∷◌, sym, ◌∙◌, mod-eq_of_lt, arith}
use native.Mathlib.Nat.{mod-eq-sub-mod}
use Rattle.std.proofs.lemmas.Bool.{cases_lt}
use Rattle.apf_history.specs.declared.events.Event.{Event}
use Rattle.apf_history.specs.declared.events.Event.TheVariants.{Enter, Full, Dispatch, Strike}
use Rattle.apf_history.specs.History.{NamesQueues, waiting}
use Rattle.apf_history.specs.Fair.{Numbers, after_enter, numbers, finish, steps_round, IsChoice}

-- a number below twice the count goes round once at most
mod_once : (n j : ℕ) → j < n + n → ((j < n) × (j % n ≡ j)) ⊎ ((n ≤ j) × (j % n ≡ j - n))
mod_once n j below = elim (cases_lt j n) [
  | inl low ↦ inl (low, mod-eq_of_lt low)
  | inr high ↦ inr (high, mod-eq-sub-mod high ∙ mod-eq_of_lt (omega arith))
]

-- no two queues are reached in as many steps
steps_apart : (queues robin p q : ℕ) → robin < queues → p < queues → q < queues → steps_round queues robin p ≡ steps_round queues robin q → p ≡ q
steps_apart queues robin p q r l m e = elim (mod_once queues (p + queues - (robin + 1)) (omega arith)) [
  | inl a ↦ elim (mod_once queues (q + queues - (robin + 1)) (omega arith)) [
    | inl b ↦ (let s : p + queues - (robin + 1) ≡ q + queues - (robin + 1) = sym a.1 ∙ (e ∙ b.1) in omega arith)
    | inr b ↦ (let s : p + queues - (robin + 1) ≡ q + queues - (robin + 1) - queues = sym a.1 ∙ (e ∙ b.1) in let x = a.0 in let y = b.0 in omega arith)
  ]
  | inr a ↦ elim (mod_once queues (q + queues - (robin + 1)) (omega arith)) [
    | inl b ↦ (let s : p + queues - (robin + 1) - queues ≡ q + queues - (robin + 1) = sym a.1 ∙ (e ∙ b.1) in let x = a.0 in let y = b.0 in omega arith)
    | inr b ↦ (let s : p + queues - (robin + 1) - queues ≡ q + queues - (robin + 1) - queues = sym a.1 ∙ (e ∙ b.1) in let x = a.0 in let y = b.0 in omega arith)
  ]
]

robin_enter : (v : Numbers) (q queues : ℕ) (ws : List ℕ) → v.robin < queues → (after_enter q ws v).robin < queues
robin_enter v q queues [] l = l
robin_enter v q queues (w ∷ ws) l = l

-- the robin is one of the queues
robin_in : (queues : ℕ) (widths : List ℕ) (h : List Event) → 0 < queues → NamesQueues queues h → (numbers queues widths h).robin < queues
robin_in queues widths [] some n = omega arith
robin_in queues widths (Enter r q ∷ h) some n = robin_enter (numbers queues widths h) q queues (waiting h q) (robin_in queues widths h some n.1)
robin_in queues widths (Full r q ∷ h) some n = robin_in queues widths h some n.1
robin_in queues widths (Dispatch r q ∷ h) some n = n.0
robin_in queues widths (Strike r q ∷ h) some n = robin_in queues widths h some n.1

pub one_choice : (queues : ℕ) (widths : List ℕ) (h : List Event) → NamesQueues queues h → (p q : ℕ)
    → IsChoice queues widths (waiting h) (numbers queues widths h) p → IsChoice queues widths (waiting h) (numbers queues widths h) q → p ≡ q
one_choice queues widths h n p q a b =
    let lp = a.is_queue in let lq = b.is_queue in
    let x = a.has_least_finish q lq b.is_waited_in in let y = b.has_least_finish p lp a.is_waited_in in
    let same : finish widths (waiting h) (numbers queues widths h) q ≡ finish widths (waiting h) (numbers queues widths h) p = omega arith in
    let s = a.is_reached_first q lq b.is_waited_in same in let t = b.is_reached_first p lp a.is_waited_in (sym same) in
    steps_apart queues (numbers queues widths h).robin p q (robin_in queues widths h (omega arith) n) lp lq (omega arith)
