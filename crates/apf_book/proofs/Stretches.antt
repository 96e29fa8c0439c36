-- The histories of a log at its places, and what is counted of a queue along them.
use Rattle.std.proofs.Common.{◌≡◌, ℕ, zero, suc, ◌+◌, ◌-◌, ◌*◌, ◌<◌, ◌≤◌, Bool, true, false, cond, List, [], ◌∷◌, ◌++◌, length, take, drop, get_or, reverse, length-drop, refl, sym, ap, ◌∙◌, subst, arith}
use Rattle.std.specs.Prelude.{Contains, count_by, MatchOption, IfSome, Option, Some, None}
use Rattle.std.proofs.Math.Seq.{take-add, take-length, drop-append_seam}
use Rattle.std.proofs.lemmas.List.{take_more, drop-take, length-take-le, length-reverse, reverse-append, drop-append-le}
use Rattle.std.proofs.lemmas.List.Sums.{sum_by-cons}
use Rattle.std.proofs.lemmas.Option.{get_or_from_slice_get}
use Rattle.apf_history.specs.declared.events.Event.{Event}
use Rattle.apf_history.specs.declared.events.Event.TheVariants.{Enter, Full, Dispatch, Strike}
use Rattle.apf_model.specs.History.{waiting}
use Rattle.apf_model.specs.Fair.{IsFair, service, IsNeverEmpty, widest, DifferAtMost}
use Rattle.apf_model.specs.Order.{is_enter_into, is_dispatch_from, is_strike_from, AreCounted}
use Rattle.apf_model.specs.Waits.{granted}
use Rattle.apf_book.specs.Stretch.{history_at, IsBacklogged, service_in, IsIsolated, WaitsFrom, seats_before, IsBounded, AreWaitsBounded}
use Rattle.apf_book.specs.Histories.{Balanced, Isolated, Waits}
use Rattle.apf_book.specs.Counted.{coming, leaving}

-- the history some events later
pub history_split : (log : List Event) (j k : ℕ) → history_at log (j + k) ≡ reverse (take k (drop j log)) ++ history_at log j
history_split log j k = ap (λ (xs : List Event). reverse xs) (take-add j k log) ∙ reverse-append (take j log) (take k (drop j log))

stretch_length : (log : List Event) (j k : ℕ) → j + k ≤ length log → length (reverse (take k (drop j log))) ≡ k
stretch_length log j k l = length-reverse (take k (drop j log)) ∙ length-take-le k (drop j log) (let d = length-drop j log in omega arith)

-- the whole log, from a place on
pub history_whole : (log : List Event) (j : ℕ) → j ≤ length log → reverse log ≡ reverse (take (length log - j) (drop j log)) ++ history_at log j
history_whole log j l =
    let n : length log ≡ j + (length log - j) = omega arith in
    ap (λ (xs : List Event). reverse xs) (sym (take-length log)) ∙ (ap (history_at log) n ∙ history_split log j (length log - j))

-- the history one event later
pub history_more : (log : List Event) (k : ℕ) (d : Event) → k < length log → history_at log (k + 1) ≡ get_or log k d ∷ history_at log k
history_more log k d l = ap (λ (xs : List Event). reverse xs) (take_more log k d l) ∙ reverse-append (take k log) (get_or log k d ∷ [])

-- the stretch one event later
pub stretch_more : (log : List Event) (from k : ℕ) (d : Event) → from ≤ k → k < length log → reverse (drop from (take (k + 1) log)) ≡ get_or log k d ∷ reverse (drop from (take k log))
stretch_more log from k d f l =
    ap (λ (xs : List Event). reverse (drop from xs)) (take_more log k d l)
    ∙ (ap (λ (xs : List Event). reverse xs) (drop-append-le from (take k log) (get_or log k d ∷ []) (let n = length-take-le k log (omega arith) in omega arith))
    ∙ reverse-append (drop from (take k log)) (get_or log k d ∷ []))

-- before the stretch there is nothing of it
pub stretch_none : (log : List Event) (from k : ℕ) → k ≤ from → k ≤ length log → drop from (take k log) ≡ []
stretch_none log from k f l = nothing from (take k log) (let n = length-take-le k log l in omega arith) where
  nothing : (n : ℕ) (xs : List Event) → length xs ≤ n → drop n xs ≡ []
  nothing zero [] l = refl
  nothing (suc n) [] l = refl
  nothing zero (x ∷ xs) l = absurd (omega arith)
  nothing (suc n) (x ∷ xs) l = nothing n xs (omega arith)

count : (p : Event → Bool) (e : Event) (h : List Event) → count_by p (e ∷ h) ≡ cond (p e) 1 0 + count_by p h
count p e h = sum_by-cons (λ x. cond (p x) 1 0) e h

-- how many wait after an event, by the laws of the history before and after it
pub waiting_moved : (h : List Event) (e : Event) (q : ℕ) → AreCounted h → AreCounted (e ∷ h) → length (waiting (e ∷ h) q) + leaving e q ≡ length (waiting h q) + coming e q
waiting_moved h e q before after =
    let a = before.of_queue q in let b = after.of_queue q in
    let x = count (is_enter_into q) e h in let y = count (is_dispatch_from q) e h in let z = count (is_strike_from q) e h in
    omega arith

-- as many wait as leave
pub leaving_waited : (h : List Event) (e : Event) (q : ℕ) → AreCounted h → AreCounted (e ∷ h) → leaving e q ≤ length (waiting h q)
leaving_waited h (Enter r p) q before after = omega arith
leaving_waited h (Full r p) q before after = omega arith
leaving_waited h (Dispatch r p) q before after = let m = waiting_moved h (Dispatch r p) q before after in omega arith
leaving_waited h (Strike r p) q before after = let m = waiting_moved h (Strike r p) q before after in omega arith

-- one comes at most
pub coming_one : (e : Event) (q : ℕ) → coming e q ≤ 1
coming_one e q = at_most (is_enter_into q e) where
  at_most : (b : Bool) → cond b 1 0 ≤ 1
  at_most true = omega arith
  at_most false = omega arith

-- nothing was counted before the first event
pub counted_none : (widths : List ℕ) (log : List Event) (from q : ℕ) → service_in widths log from 0 q ≡ 0
counted_none widths log from q = ap (λ (xs : List Event). service widths (reverse xs) q) (stretch_none log from 0 (omega arith) (omega arith))

-- the numbers of a legal log at a place, and one event later
module _ (log : List Event) (Legal : List Event → Type 0) (beginnings : (later earlier : List Event) → Legal (later ++ earlier) → Legal earlier) (numbers : (h : List Event) → Legal h → AreCounted h) (legal : Legal (reverse log)) where
  counted_at : (k : ℕ) → k ≤ length log → AreCounted (history_at log k)
  counted_at k l = numbers (history_at log k) (beginnings (reverse (take (length log - k) (drop k log))) (history_at log k) (subst Legal (history_whole log k l) legal))

  counted_more : (k : ℕ) (d : Event) → k < length log → AreCounted (get_or log k d ∷ history_at log k)
  counted_more k d l = subst AreCounted (history_more log k d l) (counted_at (k + 1) (omega arith))

  pub leaving_at : (k : ℕ) (d : Event) (q : ℕ) → k < length log → leaving (get_or log k d) q ≤ length (waiting (history_at log k) q)
  leaving_at k d q l = leaving_waited (history_at log k) (get_or log k d) q (counted_at k (omega arith)) (counted_more k d l)

  pub waiting_at : (k : ℕ) (d : Event) (q now after : ℕ) → k < length log → now ≡ length (waiting (history_at log k) q) → after + leaving (get_or log k d) q ≡ now + coming (get_or log k d) q → after ≡ length (waiting (history_at log (k + 1)) q)
  waiting_at k d q now after l is moved =
      let m = waiting_moved (history_at log k) (get_or log k d) q (counted_at k (omega arith)) (counted_more k d l) in
      let e = ap (λ (h : List Event). length (waiting h q)) (history_more log k d l) in
      omega arith

module _ (log : List Event) (from to : ℕ) (in_order : from ≤ to) (in_log : to ≤ length log) where
  -- the stretch
  abbrev pub stretch : List Event
  stretch = reverse (take (to - from) (drop from log))

  now : history_at log to ≡ stretch ++ history_at log from
  now = let n : to ≡ from + (to - from) = omega arith in ap (history_at log) n ∙ history_split log from (to - from)

  -- the log is what came later, the stretch, and what came before it
  pub whole : reverse log ≡ reverse (take (length log - to) (drop to log)) ++ (stretch ++ history_at log from)
  whole = history_whole log to in_log ∙ ap (λ (xs : List Event). reverse (take (length log - to) (drop to log)) ++ xs) now

  pub stretch_is : reverse (drop from (take to log)) ≡ stretch
  stretch_is =
      let n : to ≡ from + (to - from) = omega arith in
      ap (λ (k : ℕ). reverse (drop from (take k log))) n ∙ ap (λ (xs : List Event). reverse xs) (drop-take from (to - from) log)

  pub service_is : (widths : List ℕ) (q : ℕ) → service_in widths log from to q ≡ service widths stretch q
  service_is widths q = ap (λ (xs : List Event). service widths xs q) stretch_is

  earlier : (k : ℕ) → k ≤ to - from → drop k (stretch ++ history_at log from) ≡ history_at log (to - k)
  earlier k l =
      let n : to ≡ (to - k) + k = omega arith in
      let later : List Event = reverse (take k (drop (to - k) log)) in
      let long : length later ≡ k = stretch_length log (to - k) k (omega arith) in
      ap (drop k) (sym now ∙ (ap (history_at log) n ∙ history_split log (to - k) k))
      ∙ (ap (λ (i : ℕ). drop i (later ++ history_at log (to - k))) (sym long) ∙ drop-append_seam later (history_at log (to - k)))

  pub never_empty : (q : ℕ) → IsBacklogged log from to q → IsNeverEmpty (stretch ++ history_at log from) (length stretch) q
  never_empty q some k l none =
      let long : length stretch ≡ to - from = stretch_length log from (to - from) (omega arith) in
      some (to - k) (omega arith) (omega arith) (ap (λ (h : List Event). waiting h q) (sym (earlier k (omega arith))) ∙ none)

module _ (law : Balanced) (log : List Event) (widths : List ℕ) (from to a b : ℕ) (in_order : from ≤ to) (in_log : to ≤ length log) where
  pub services_differ : IsBacklogged log from to a → IsBacklogged log from to b → (queues : ℕ) (hands : ℕ → List ℕ) (limit : ℕ) → IsFair queues widths hands limit (reverse log) → a < queues → b < queues
      → DifferAtMost (2 * widest widths) (service_in widths log from to a) (service_in widths log from to b)
  services_differ some_a some_b queues hands limit fair la lb =
      let near = law queues widths hands limit (reverse (take (length log - to) (drop to log))) (stretch log from to in_order in_log) (history_at log from) a b
      (subst (IsFair queues widths hands limit) (whole log from to in_order in_log) fair) la lb
      (never_empty log from to in_order in_log a some_a) (never_empty log from to in_order in_log b some_b) in
      let over = near.0 in let under = near.1 in
      let at_a = service_is log from to in_order in_log widths a in let at_b = service_is log from to in_order in_log widths b in
      (omega arith, omega arith)

  -- where there are services, they are near each other
  pub answers_differ : (none : Type 0) (result : Option (ℕ × ℕ))
      → MatchOption result none (λ s. IsBacklogged log from to a × IsBacklogged log from to b × (s.0 ≡ service_in widths log from to a) × (s.1 ≡ service_in widths log from to b))
      → IfSome result (λ s. (queues : ℕ) (hands : ℕ → List ℕ) (limit : ℕ) → IsFair queues widths hands limit (reverse log) → a < queues → b < queues → DifferAtMost (2 * widest widths) s.0 s.1)
  answers_differ none None is = tt
  answers_differ none (Some s) is = λ queues hands limit fair la lb.
      let near = services_differ is.0 is.1 queues hands limit fair la lb in
      let over = near.0 in let under = near.1 in let is_a = is.2 in let is_b = is.3 in
      (omega arith, omega arith)

module _ (log : List Event) (widths : List ℕ) (queues : ℕ) (hands : ℕ → List ℕ) (limit : ℕ) (fair : IsFair queues widths hands limit (reverse log)) where
  -- no queue is served much more than one that is never empty
  pub services_isolated : Isolated → IsIsolated queues widths log
  unfolding IsIsolated
  services_isolated law = λ from to q other in_order in_log lq lo some.
      let near = law queues widths hands limit (reverse (take (length log - to) (drop to log))) (stretch log from to in_order in_log) (history_at log from) q other
      (subst (IsFair queues widths hands limit) (whole log from to in_order in_log) fair) lq lo (never_empty log from to in_order in_log q some) in
      let at_q = service_is log from to in_order in_log widths q in let at_other = service_is log from to in_order in_log widths other in
      omega arith

  module _ (laws : Waits) (from to r q : ℕ) (waits : WaitsFrom log from to r q) (lq : q < queues) where
    abbrev later : List Event
    later = reverse (take (length log - to) (drop to log))

    abbrev since : List Event
    since = stretch log (from + 1) to (omega (arith, waits.0)) waits.1

    before : history_at log (from + 1) ≡ Enter r q ∷ history_at log from
    before = history_more log from (Enter r q) (omega (arith, waits.0, waits.1)) ∙ ap (λ (e : Event). e ∷ history_at log from) (get_or_from_slice_get log from (Enter r q) (Enter r q) waits.2)

    is_fair : IsFair queues widths hands limit (later ++ (since ++ Enter r q ∷ history_at log from))
    is_fair = subst (λ (h : List Event). IsFair queues widths hands limit (later ++ (since ++ h))) before
        (subst (IsFair queues widths hands limit) (whole log (from + 1) to (omega (arith, waits.0)) waits.1) fair)

    still : Contains (waiting (since ++ Enter r q ∷ history_at log from) q) r
    still = subst (λ (h : List Event). Contains (waiting h q) r) (now log (from + 1) to (omega (arith, waits.0)) waits.1 ∙ ap (λ (h : List Event). since ++ h) before) waits.3

    same : reverse (drop (from + 1) (take to log)) ≡ since
    same = stretch_is log (from + 1) to (omega (arith, waits.0)) waits.1

    wait_bounded : IsBounded queues widths log (from + 1) to q (seats_before widths log from q)
    wait_bounded = record {
      own = subst (λ (s : List Event). service widths s q ≤ seats_before widths log from q) (sym same) (laws.own queues widths hands limit later since (history_at log from) q r is_fair still);
      others = λ other lo. subst (λ (s : List Event). service widths s other ≤ seats_before widths log from q + 2 * widest widths) (sym same)
          (laws.others queues widths hands limit later since (history_at log from) q r is_fair still lq other lo);
      all = subst (λ (s : List Event). granted queues widths s ≤ seats_before widths log from q + (queues - 1) * (seats_before widths log from q + 2 * widest widths)) (sym same)
          (laws.all queues widths hands limit later since (history_at log from) q r is_fair still lq);
    }

  -- what is granted while a request waits is bounded
  pub waits_bounded : Waits → AreWaitsBounded queues widths log
  unfolding AreWaitsBounded
  waits_bounded laws = wait_bounded laws
