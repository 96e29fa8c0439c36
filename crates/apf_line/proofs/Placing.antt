-- Where a history stands among the steps that say it, and who had seats there.
use Rattle.std.proofs.Common.{rules, ◌≡◌, ◌⊎◌, ℕ, ◌≤◌, inl, inr, Bool, cond, true, false, eqb, List, [], ◌∷◌, ◌++◌, length, Option, Some, None, refl, sym, ap, ◌∙◌, subst, arith, append_assoc}
use Rattle.std.specs.Prelude.{◌&&◌, map, nat_le}
use Rattle.std.proofs.lemmas.List.{length-append}
use Rattle.apf_words.specs.declared.decision.Decision.TheVariants.{Execute, QueueFull, Closed, Cancelled, ConcurrencyLimit}
use Rattle.apf_history.specs.declared.events.Event.{Event}
use Rattle.apf_history.specs.declared.events.Event.TheVariants.{Enter, Full, Dispatch, Strike}
use Rattle.apf_history.specs.declared.events.Status.{Status}
use Rattle.apf_history.specs.declared.events.Status.TheVariants as status_is
use Rattle.apf_history.specs.declared.events.LogEntry.{LogEntry}
use Rattle.apf_history.specs.declared.events.LogEntry.TheVariants.{Happens, Spends, Settles}
use Rattle.apf_history.specs.Numbered.{width}
use Rattle.apf_history.specs.Charged.{events, Running, ended, IsAmong, runs, FollowsChoices}
use Rattle.apf_model.specs.declared.moves.Move.{Move}
use Rattle.apf_model.specs.declared.moves.Move.TheVariants.{Take, Enter as EnterMove, Grant, Leave, Decide, Release, Close, SetLimit, See}
use Rattle.apf_model.specs.World.{Opening}
use Rattle.apf_model.specs.Schedule.{world, IsSchedule}
use Rattle.apf_gate.specs.declared.record.Actor.{Actor}
use Rattle.apf_gate.specs.declared.record.Actor.TheVariants.{OfPass, OfDesk, OfStation}
use Rattle.apf_gate.specs.declared.record.Entry.{Entry}
use Rattle.apf_gate.specs.Traces.{moves, move_before}
use Rattle.apf_book.specs.Said.{said_of, said_by, sayings, saying}
use Rattle.apf_line.proofs.Stages.{HasSeats, has_on, stands_has}

pub move_before_append : (step : Option Move) (ms ns : List Move) → move_before step (ms ++ ns) ≡ move_before step ms ++ ns
move_before_append None ms ns = refl
move_before_append (Some m) ms ns = refl

pub moves_append : (later earlier : List Entry) → moves (later ++ earlier) ≡ moves later ++ moves earlier
moves_append [] earlier = refl
moves_append (e ∷ later) earlier = ap (move_before e.step) (moves_append later earlier) ∙ move_before_append e.step (moves later) (moves earlier)

pub sayings_append : (later earlier : List Entry) → sayings (later ++ earlier) ≡ sayings later ++ sayings earlier
sayings_append [] earlier = refl
sayings_append (e ∷ later) earlier = ap (λ (xs : List (ℕ × Status)). said_of e.by e.step ++ xs) (sayings_append later earlier) ∙ sym (append_assoc (said_of e.by e.step) (sayings later) (sayings earlier))

-- the shortest beginning of a trace that says so many things
abbrev pub upto : ℕ → List Entry → List Entry
upto n [] = []
upto n (e ∷ trace) = cond (nat_le n (length (sayings trace))) (upto n trace) (e ∷ trace)

more_said : (e : Entry) (later earlier : List Entry) → length (sayings earlier) ≤ length (sayings (later ++ earlier))
more_said e later earlier = let a = ap length (sayings_append later earlier) in let b = length-append (sayings later) (sayings earlier) in omega arith

pub upto_is_beginning : (n : ℕ) (trace : List Entry) → (later : List Entry) × (later ++ upto n trace ≡ trace)
upto_is_beginning n [] = ([], refl)
upto_is_beginning n (e ∷ trace) = by (nat_le n (length (sayings trace))) (upto_is_beginning n trace) where
  by : (b : Bool) → (later : List Entry) × (later ++ upto n trace ≡ trace) → (later : List Entry) × (later ++ cond b (upto n trace) (e ∷ trace) ≡ e ∷ trace)
  by true old = (e ∷ old.0, ap (λ (xs : List Entry). e ∷ xs) old.1)
  by false old = ([], refl)

nat_le-true : (n m : ℕ) → n ≤ m → nat_le n m ≡ true
nat_le-true n m le = search (rules, le)

pub upto_same : (n : ℕ) (later at : List Entry) → n ≤ length (sayings at) → upto n (later ++ at) ≡ upto n at
upto_same n [] at enough = refl
upto_same n (e ∷ later) at enough =
    let more = more_said e later at in
    let flag : nat_le n (length (sayings (later ++ at))) ≡ true = nat_le-true n (length (sayings (later ++ at))) (omega arith) in
    ap (λ (b : Bool). cond b (upto n (later ++ at)) (e ∷ (later ++ at))) flag ∙ upto_same n later at enough

pub upto_enough : (n : ℕ) (trace : List Entry) → n ≤ length (sayings trace) → n ≤ length (sayings (upto n trace))
upto_enough n [] enough = enough
upto_enough n (e ∷ trace) enough = by (nat_le n (length (sayings trace))) refl (λ less. upto_enough n trace less) where
  by : (b : Bool) → nat_le n (length (sayings trace)) ≡ b → (n ≤ length (sayings trace) → n ≤ length (sayings (upto n trace))) → n ≤ length (sayings (cond b (upto n trace) (e ∷ trace)))
  by true is old = old (search (rules, is))
  by false is old = enough

-- what is said last is the same of two lists that end alike
pub same_end : {A : Type 0} (xs ys zs ws : List A) → xs ++ ys ≡ zs ++ ws → length ys ≤ length ws → (front : List A) × (front ++ ys ≡ ws)
same_end xs ys [] ws is few = (xs, is)
same_end [] ys (z ∷ zs) ws is few = (let a = ap length is in let b = length-append zs ws in absurd (omega arith))
same_end (x ∷ xs) ys (z ∷ zs) ws is few = same_end xs ys zs ws (tail_is is) few where
  tail_is : {A : Type 0} {x z : A} {xs zs : List A} → x ∷ xs ≡ z ∷ zs → xs ≡ zs
  tail_is e = cc

-- r was dispatched
abbrev pub WasDispatched : ℕ → List Event → Type 0
WasDispatched r [] = ⊥
WasDispatched r (Dispatch j p ∷ h) = (j ≡ r) ⊎ WasDispatched r h
WasDispatched r (Enter j p ∷ h) = WasDispatched r h
WasDispatched r (Full j p ∷ h) = WasDispatched r h
WasDispatched r (Strike j p ∷ h) = WasDispatched r h

-- it is said that r was dispatched
abbrev pub IsSaid : ℕ → List (ℕ × Status) → Type 0
IsSaid r [] = ⊥
IsSaid r (s ∷ ss) = ((s.0 ≡ r) × (s.1 ≡ status_is.Dispatched)) ⊎ IsSaid r ss

pub said_in : (r : ℕ) (h : List Event) → WasDispatched r h → IsSaid r (map saying h)
said_in r [] was = absurd was
said_in r (Enter j p ∷ h) was = inr (said_in r h was)
said_in r (Full j p ∷ h) was = inr (said_in r h was)
said_in r (Strike j p ∷ h) was = inr (said_in r h was)
said_in r (Dispatch j p ∷ h) (inl same) = inl (same, refl)
said_in r (Dispatch j p ∷ h) (inr was) = inr (said_in r h was)

pub said_behind : (r : ℕ) (front ss : List (ℕ × Status)) → IsSaid r ss → IsSaid r (front ++ ss)
said_behind r [] ss said = said
said_behind r (s ∷ front) ss said = inr (said_behind r front ss said)

-- who executes was dispatched
one_of : (r k : ℕ) (b : Bool) (xs ys : List Running) → IsAmong r k (cond b xs ys) → IsAmong r k xs ⊎ IsAmong r k ys
one_of r k true xs ys is = inl is
one_of r k false xs ys is = inr is

left_among : (r k j m : ℕ) (xs : List Running) → IsAmong r k (ended j m xs) → IsAmong r k xs
left_among r k j m [] is = absurd is
left_among r k j m (x ∷ xs) is = elim (one_of r k (eqb x.request j && eqb x.charge m) xs (x ∷ ended j m xs) is) [
  | inl rest ↦ inr rest
  | inr all ↦ elim all [
    | inl first ↦ inl first
    | inr rest ↦ inr (left_among r k j m xs rest)
  ]
]

pub was_dispatched : (queues : ℕ) (costs : List ℕ) (l : List LogEntry) → FollowsChoices queues costs l → (r k q : ℕ) → IsAmong r k (runs costs l q) → WasDispatched r (events l)
was_dispatched queues costs [] d r k q is = is
was_dispatched queues costs (Happens (Enter j p) ∷ l) d r k q is = was_dispatched queues costs l d.1 r k q is
was_dispatched queues costs (Happens (Full j p) ∷ l) d r k q is = was_dispatched queues costs l d.1 r k q is
was_dispatched queues costs (Happens (Strike j p) ∷ l) d r k q is = was_dispatched queues costs l d.1 r k q is
was_dispatched queues costs (Happens (Dispatch j p) ∷ l) d r k q is = elim (one_of r k (eqb p q) (record { request = j; charge = width costs j } ∷ runs costs l q) (runs costs l q) is) [
  | inl all ↦ elim all [
    | inl first ↦ inl first.0
    | inr old ↦ inr (was_dispatched queues costs l d.1 r k q old)
  ]
  | inr old ↦ inr (was_dispatched queues costs l d.1 r k q old)
]
was_dispatched queues costs (Spends j p old new ∷ l) d r k q is = elim (one_of r k (eqb p q) (record { request = j; charge = new } ∷ ended j old (runs costs l q)) (runs costs l q) is) [
  | inl all ↦ elim all [
    | inl first ↦ was_dispatched queues costs l d.1 r old p (subst (λ (i : ℕ). IsAmong i old (runs costs l p)) first.0 d.0)
    | inr was ↦ was_dispatched queues costs l d.1 r k q (left_among r k j old (runs costs l q) was)
  ]
  | inr was ↦ was_dispatched queues costs l d.1 r k q was
]
was_dispatched queues costs (Settles j p old new ∷ l) d r k q is = elim (one_of r k (eqb p q) (ended j old (runs costs l q)) (runs costs l q) is) [
  | inl was ↦ was_dispatched queues costs l d.1 r k q (left_among r k j old (runs costs l q) was)
  | inr was ↦ was_dispatched queues costs l d.1 r k q was
]

-- who is said to be dispatched had its seats then, and has not come anew
module _ (o : Opening) (r : ℕ) where
  pub rest_is : (step : Option Move) (ms : List Move) → IsSchedule o (move_before step ms) → IsSchedule o ms
  rest_is None ms s = s
  rest_is (Some m) ms s = s.1

  still : (step : Option Move) (ms : List Move) → IsSchedule o (move_before step ms) → HasSeats ((world o ms).stage r) → HasSeats ((world o (move_before step ms)).stage r)
  still None ms s h = h
  still (Some m) ms s h = has_on o r ms m s h

  other : (s : ℕ × Status) (ss : List (ℕ × Status)) → (s.1 ≡ status_is.Dispatched → ⊥) → IsSaid r (s ∷ ss) → IsSaid r ss
  other s ss ne (inl same) = absurd (ne same.1)
  other s ss ne (inr said) = said

  of_desk : (step : Option Move) (ms : List Move) (ss : List (ℕ × Status)) → IsSchedule o (move_before step ms) → IsSaid r (said_by step ++ ss) → (IsSaid r ss → HasSeats ((world o ms).stage r)) → HasSeats ((world o (move_before step ms)).stage r)
  of_desk None ms ss s said old = old said
  of_desk (Some (Take j)) ms ss s said old = still (Some (Take j)) ms s (old said)
  of_desk (Some (EnterMove j)) ms ss s said old = still (Some (EnterMove j)) ms s (old (other (j, status_is.Waits) ss (λ e. cc) said))
  of_desk (Some (Grant j)) ms ss s said old = still (Some (Grant j)) ms s (old said)
  of_desk (Some (Leave j)) ms ss s said old = still (Some (Leave j)) ms s (old (other (j, status_is.Struck) ss (λ e. cc) said))
  of_desk (Some (Decide j Execute)) ms ss s (inl same) old = subst (λ (i : ℕ). HasSeats ((world o ms).stage i)) same.0 (stands_has ((world o ms).stage j) s.0.may_be)
  of_desk (Some (Decide j Execute)) ms ss s (inr said) old = old said
  of_desk (Some (Decide j QueueFull)) ms ss s said old = old (other (j, status_is.Full) ss (λ e. cc) said)
  of_desk (Some (Decide j Closed)) ms ss s said old = old said
  of_desk (Some (Decide j Cancelled)) ms ss s said old = old said
  of_desk (Some (Decide j ConcurrencyLimit)) ms ss s said old = old said
  of_desk (Some (Release j)) ms ss s said old = still (Some (Release j)) ms s (old (other (j, status_is.Struck) ss (λ e. cc) said))
  of_desk (Some Close) ms ss s said old = old said
  of_desk (Some (SetLimit n)) ms ss s said old = old said
  of_desk (Some (See j)) ms ss s said old = old said

  of_step : (by : Actor) (step : Option Move) (ms : List Move) (ss : List (ℕ × Status)) → IsSchedule o (move_before step ms) → IsSaid r (said_of by step ++ ss) → (IsSaid r ss → HasSeats ((world o ms).stage r)) → HasSeats ((world o (move_before step ms)).stage r)
  of_step (OfPass j) step ms ss s said old = still step ms s (old said)
  of_step OfDesk step ms ss s said old = of_desk step ms ss s said old
  of_step (OfStation k) step ms ss s said old = still step ms s (old said)

  pub had_seats : (trace : List Entry) → IsSchedule o (moves trace) → IsSaid r (sayings trace) → HasSeats ((world o (moves trace)).stage r)
  had_seats [] s said = absurd said
  had_seats (e ∷ trace) s said = of_step e.by e.step (moves trace) (sayings trace) s said (λ old. had_seats trace (rest_is e.step (moves trace) s) old)
