-- What is kept of the stretches after one entry more.
use Rattle.std.proofs.Common.{◌≡◌, ◌≢◌, ℕ, ◌+◌, ◌-◌, ◌<◌, ◌≤◌, inl, inr, Bool, true, false, cond, eqb, List, [], ◌∷◌, length, get_or, refl, sym, ap, ◌∙◌, subst, arith}
use Rattle.std.specs.Prelude.{◌==◌, ◌&&◌, ◌||◌, nat_lt, not, min, max, if◌then◌else◌}
use Rattle.std.proofs.Math.ListN.{set}
use Rattle.std.proofs.lemmas.Bool.{cases_eq, cases_lt, eq-eqb, ne_eqb, false≢true}
use Rattle.std.proofs.lemmas.Bool.Decides.{nat_tests}
use Rattle.std.proofs.lemmas.List.{get_or-set_same, get_or-set_other}
use Rattle.apf_history.specs.declared.events.Event.TheVariants.{Enter, Dispatch, Strike}
use Rattle.apf_history.specs.declared.events.LogEntry.{LogEntry}
use Rattle.apf_history.specs.declared.events.LogEntry.TheVariants.{Happens}
use Rattle.apf_history.specs.History.{waiting}
use Rattle.apf_history.specs.Charged.{events, seat_time}
use Rattle.apf_bound.specs.Pairs.{PairsView, cell}
use Rattle.apf_bound.specs.Stretched.{StretchesView, AreStretchesOf, is_waited_in, was_waited_in, ahead_now, most_ahead, ahead_after, is_passed, raised, largest}
use Rattle.apf_bound.proofs.Stretching.{now_empty, now_self, now_most, was_before}

-- one of a list is another one from now on
pub put_at : {A : Type 0} (xs : List A) (p : ℕ) (v d : A) (q : ℕ) → p < length xs → get_or (set xs p v) q d ≡ cond (eqb p q) v (get_or xs q d)
put_at xs p v d q low = elim (cases_eq p q) [
  | inl same ↦ subst (λ (k : ℕ). get_or (set xs p v) k d ≡ cond (eqb p k) v (get_or xs k d)) same (get_or-set_same xs p v d low ∙ sym (ap (λ (b : Bool). cond b v (get_or xs p d)) (eq-eqb p p refl)))
  | inr two ↦ (let away : q ≢ p = λ e. two (sym e) in get_or-set_other xs p q v d away ∙ sym (ap (λ (b : Bool). cond b v (get_or xs q d)) (ne_eqb p q two)))
]

none_long : (n : ℕ) → n ≡ 0 → nat_lt 0 n ≡ false
none_long n e = grind (arith, nat_tests)

some_long : (n : ℕ) → 0 < n → nat_lt 0 n ≡ true
some_long n e = grind (arith, nat_tests)

long_some : (n : ℕ) → nat_lt 0 n ≡ true → 0 < n
long_some n e = grind (arith, nat_tests)

not_long : (n : ℕ) → nat_lt 0 n ≡ false → n ≡ 0
not_long n e = grind (arith, nat_tests)

-- the numbers of a pair after a dispatch from p: of p, and of another one
of_itself : (b p wp wp' before m gb : ℕ) → gb ≡ cond (eqb p b) m 0 → wp' + 1 ≡ wp → (p ≡ b → before ≡ 0)
    → (if nat_lt 1 wp then before - m else 0) ≡ (if nat_lt 0 wp' then before + gb - m else 0)
of_itself b p wp wp' before m gb is_gb count self = elim (cases_eq p b) [
  | inl same ↦ (let none = self same in let is : gb ≡ m = is_gb ∙ ap (λ (t : Bool). cond t m 0) (eq-eqb p b same) in grind (arith, nat_tests))
  | inr two ↦ (let is : gb ≡ 0 = is_gb ∙ ap (λ (t : Bool). cond t m 0) (ne_eqb p b two) in grind (arith, nat_tests))
]

of_another : (b p wa before m gb : ℕ) → gb ≡ cond (eqb p b) m 0 → (wa ≡ 0 → before ≡ 0) → before + m < 18446744073709551616
    → (if (b == p) && nat_lt 0 wa then min (before + m) 18446744073709551615 else before) ≡ (if nat_lt 0 wa then before + gb - 0 else 0)
of_another b p wa before m gb is_gb empty small = elim (cases_eq p b) [
  | inl same ↦ (
      let is : gb ≡ m = is_gb ∙ ap (λ (t : Bool). cond t m 0) (eq-eqb p b same) in
      let test : (b == p) ≡ true = eq-eqb b p (sym same) in
      elim (cases_lt 0 wa) [
        | inl some ↦ (let t = some_long wa some in rw (test, t) (omega arith))
        | inr none ↦ (let t = none_long wa (omega arith) in let e = empty (omega arith) in rw (test, t) e)
      ])
  | inr two ↦ (
      let is : gb ≡ 0 = is_gb ∙ ap (λ (t : Bool). cond t m 0) (ne_eqb p b two) in
      let test : (b == p) ≡ false = ne_eqb b p (λ e. two (sym e)) in
      elim (cases_lt 0 wa) [
        | inl some ↦ (let t = some_long wa some in rw (test, t) (omega arith))
        | inr none ↦ (let t = none_long wa (omega arith) in let e = empty (omega arith) in rw (test, t) e)
      ])
]

part : (t : Bool) (m : ℕ) → cond t m 0 ≤ m
part true m = omega arith
part false m = omega arith

no_more : (t : Bool) (n gives takes : ℕ) → gives ≤ takes → (if t then n + gives - takes else 0) ≤ n
no_more true n gives takes less = omega arith
no_more false n gives takes less = omega arith

not_itself : (u t v : Bool) → t ≡ true → (u && (not t && v)) ≡ false
not_itself u true v e = none u where
  none : (u : Bool) → (u && false) ≡ false
  none true = refl
  none false = refl
not_itself u false v e = absurd (false≢true e)

-- the last one of a queue leaves it
last_one : (w w' n : ℕ) → w' + 1 ≡ w → (if not (nat_lt 1 w) then 0 else n) ≡ (if nat_lt 0 w' then n else 0)
last_one w w' n e = elim (cases_lt 0 w') [
  | inl some ↦ (let t = some_long w' some in let t' : nat_lt 1 w ≡ true = grind (arith, nat_tests) in rw (t, t') refl)
  | inr none ↦ (let t = none_long w' (omega arith) in let t' : nat_lt 1 w ≡ false = grind (arith, nat_tests) in rw (t, t') refl)
]

module _ (measure : ℕ → ℕ) where
  calm : (x : LogEntry) (l : List LogEntry) (a b : ℕ) → seat_time measure (x ∷ []) a ≡ 0 → seat_time measure (x ∷ []) b ≡ 0 → ahead_now measure (x ∷ l) a b ≡ (if is_waited_in (x ∷ l) a then ahead_now measure l a b else 0)
  calm x l a b none none' = ap (λ (n : ℕ). if is_waited_in (x ∷ l) a then n else 0) (omega arith)

  -- an entry that gives nothing, and lets nobody out
  pub stays : (x : LogEntry) (l : List LogEntry) (a b : ℕ) → seat_time measure (x ∷ []) a ≡ 0 → seat_time measure (x ∷ []) b ≡ 0 → length (waiting (events l) a) ≤ length (waiting (events (x ∷ l)) a)
      → ahead_now measure (x ∷ l) a b ≡ ahead_now measure l a b
  stays x l a b none none' more =
      calm x l a b none none' ∙ by_test (is_waited_in (x ∷ l) a) (λ e. now_empty measure l a b (let left = not_long (length (waiting (events (x ∷ l)) a)) e in none_long (length (waiting (events l) a)) (omega arith))) refl where
        by_test : (t : Bool) → (is_waited_in (x ∷ l) a ≡ false → ahead_now measure l a b ≡ 0) → is_waited_in (x ∷ l) a ≡ t → (if t then ahead_now measure l a b else 0) ≡ ahead_now measure l a b
        by_test true zero is = refl
        by_test false zero is = sym (zero is)

  calm_less : (x : LogEntry) (l : List LogEntry) (a b : ℕ) → seat_time measure (x ∷ []) a ≡ 0 → seat_time measure (x ∷ []) b ≡ 0 → ahead_now measure (x ∷ l) a b ≤ ahead_now measure l a b
  calm_less x l a b none none' = (let is = calm x l a b none none' in let less = at_most (is_waited_in (x ∷ l) a) (ahead_now measure l a b) in omega arith) where
    at_most : (t : Bool) (n : ℕ) → (if t then n else 0) ≤ n
    at_most true n = omega arith
    at_most false n = omega arith

  pub most_stays : (x : LogEntry) (l : List LogEntry) (a b : ℕ) → ahead_now measure (x ∷ l) a b ≤ ahead_now measure l a b → most_ahead measure (x ∷ l) a b ≡ most_ahead measure l a b
  most_stays x l a b less = let most = now_most measure l a b in omega arith

  -- how many wait in a queue that another one is
  other_queue : (p q m n : ℕ) → p ≢ q → m + cond (eqb p q) 1 0 ≡ n → m ≡ n
  other_queue p q m n two e = (let none = ap (λ (t : Bool). cond {A = ℕ} t 1 0) (ne_eqb p q two) in omega arith)

  this_queue : (p m n : ℕ) → m + cond (eqb p p) 1 0 ≡ n → m + 1 ≡ n
  this_queue p m n e = (let one = ap (λ (t : Bool). cond {A = ℕ} t 1 0) (eq-eqb p p refl) in omega arith)

  -- whether somebody waits or did, if nobody came
  was_stays : (x : LogEntry) (l : List LogEntry) (q : ℕ) → length (waiting (events (x ∷ l)) q) ≤ length (waiting (events l) q) → was_waited_in (x ∷ l) q ≡ was_waited_in l q
  was_stays x l q less = by_test (is_waited_in (x ∷ l) q) refl where
    by_test : (t : Bool) → is_waited_in (x ∷ l) q ≡ t → (is_waited_in (x ∷ l) q || was_waited_in l q) ≡ was_waited_in l q
    by_test false is = ap (λ (t : Bool). t || was_waited_in l q) is
    by_test true is =
        let some = long_some (length (waiting (events (x ∷ l)) q)) is in
        ap (λ (t : Bool). t || was_waited_in l q) is ∙ sym (was_before [] l q (some_long (length (waiting (events l) q)) (omega arith)))

  -- nothing is dispatched, nobody comes and nobody leaves
  pub none_moved : (l : List LogEntry) (s : StretchesView) → AreStretchesOf measure l s → (x : LogEntry) → ((q : ℕ) → length (waiting (events (x ∷ l)) q) ≡ length (waiting (events l) q)) → ((q : ℕ) → seat_time measure (x ∷ []) q ≡ 0)
      → AreStretchesOf measure (x ∷ l) s
  none_moved l s before x count none = record {
    waiting = λ q low. before.waiting q low ∙ sym (count q);
    waited = λ q low. before.waited q low ∙ sym (was_stays x l q (let e = count q in omega arith));
    ahead = λ a b low low'. before.ahead a b low low' ∙ sym (stays x l a b (none a) (none b) (let e = count a in omega arith));
    most = λ a b low low'. before.most a b low low' ∙ sym (most_stays x l a b (let e = stays x l a b (none a) (none b) (let e = count a in omega arith) in omega arith));
  }

  module _ (l : List LogEntry) (s s' : StretchesView) (same_queues : s'.queues ≡ s.queues) (waiting_long : length s.waiting ≡ s.queues) (waited_long : length s.waited ≡ s.queues) (before : AreStretchesOf measure l s) where
    -- a request enters p
    pub entered_p : (r p : ℕ) → p < s.queues → ((q : ℕ) → length (waiting (events (Happens (Enter r p) ∷ l)) q) ≡ length (waiting (events l) q) + cond (eqb p q) 1 0)
        → length (waiting (events l) p) + 1 < 18446744073709551616
        → s'.waiting ≡ set s.waiting p (min (get_or s.waiting p 0 + 1) largest) → s'.waited ≡ set s.waited p true → s'.ahead ≡ s.ahead → s'.most ≡ s.most
        → AreStretchesOf measure (Happens (Enter r p) ∷ l) s'
    entered_p r p in_range count short is_waiting is_waited is_ahead is_most = record {
      waiting = λ q low. ap (λ (ws : List ℕ). get_or ws q 0) is_waiting ∙ (put_at s.waiting p (min (get_or s.waiting p 0 + 1) largest) 0 q (omega arith) ∙ elim (cases_eq p q) [
        | inl same ↦ (
            let w = before.waiting p in_range in let e = count p in let one = ap (λ (t : Bool). cond {A = ℕ} t 1 0) (eq-eqb p p refl) in
            subst (λ (k : ℕ). cond (eqb p k) (min (get_or s.waiting p 0 + 1) largest) (get_or s.waiting k 0) ≡ length (waiting (events (Happens (Enter r p) ∷ l)) k)) same
            (ap (λ (t : Bool). cond t (min (get_or s.waiting p 0 + 1) largest) (get_or s.waiting p 0)) (eq-eqb p p refl) ∙ (omega arith)))
        | inr two ↦ (
            let w = before.waiting q (omega arith) in let e = count q in let one = ap (λ (t : Bool). cond {A = ℕ} t 1 0) (ne_eqb p q two) in
            ap (λ (t : Bool). cond t (min (get_or s.waiting p 0 + 1) largest) (get_or s.waiting q 0)) (ne_eqb p q two) ∙ (omega arith))
      ]);
      waited = λ q low. ap (λ (ws : List Bool). get_or ws q false) is_waited ∙ (put_at s.waited p true false q (omega arith) ∙ elim (cases_eq p q) [
        | inl same ↦ (
            let e = count p in let one = ap (λ (t : Bool). cond {A = ℕ} t 1 0) (eq-eqb p p refl) in
            let now = some_long (length (waiting (events (Happens (Enter r p) ∷ l)) p)) (omega arith) in
            subst (λ (k : ℕ). cond (eqb p k) true (get_or s.waited k false) ≡ was_waited_in (Happens (Enter r p) ∷ l) k) same
            (ap (λ (t : Bool). cond t true (get_or s.waited p false)) (eq-eqb p p refl) ∙ sym (ap (λ (t : Bool). t || was_waited_in l p) now)))
        | inr two ↦ (
            let e = count q in let one = ap (λ (t : Bool). cond {A = ℕ} t 1 0) (ne_eqb p q two) in
            ap (λ (t : Bool). cond t true (get_or s.waited q false)) (ne_eqb p q two) ∙ (before.waited q (omega arith) ∙ sym (was_stays (Happens (Enter r p)) l q (omega arith))))
      ]);
      ahead = λ a b low low'. ap (λ (c : PairsView). cell c a b) is_ahead ∙ (before.ahead a b (omega arith) (omega arith) ∙ sym (stays (Happens (Enter r p)) l a b refl refl (let e = count a in omega arith)));
      most = λ a b low low'. ap (λ (c : PairsView). cell c a b) is_most ∙ (before.most a b (omega arith) (omega arith) ∙ sym (most_stays (Happens (Enter r p)) l a b (let e = stays (Happens (Enter r p)) l a b refl refl (let e = count a in omega arith) in omega arith)));
    }

    -- a request leaves p
    left_p : (x : LogEntry) (p : ℕ) → p < s.queues → ((q : ℕ) → length (waiting (events (x ∷ l)) q) + cond (eqb p q) 1 0 ≡ length (waiting (events l) q))
        → s'.waiting ≡ set s.waiting p (get_or s.waiting p 0 - 1) → (q : ℕ) → q < s'.queues → get_or s'.waiting q 0 ≡ length (waiting (events (x ∷ l)) q)
    left_p x p in_range count is_waiting q low = ap (λ (ws : List ℕ). get_or ws q 0) is_waiting ∙ (put_at s.waiting p (get_or s.waiting p 0 - 1) 0 q (omega arith) ∙ elim (cases_eq p q) [
      | inl same ↦ (
          let w = before.waiting p in_range in let e = this_queue p (length (waiting (events (x ∷ l)) p)) (length (waiting (events l) p)) (count p) in
          subst (λ (k : ℕ). cond (eqb p k) (get_or s.waiting p 0 - 1) (get_or s.waiting k 0) ≡ length (waiting (events (x ∷ l)) k)) same
          (ap (λ (t : Bool). cond t (get_or s.waiting p 0 - 1) (get_or s.waiting p 0)) (eq-eqb p p refl) ∙ (omega arith)))
      | inr two ↦ (
          let w = before.waiting q (omega arith) in let e = other_queue p q (length (waiting (events (x ∷ l)) q)) (length (waiting (events l) q)) two (count q) in
          ap (λ (t : Bool). cond t (get_or s.waiting p 0 - 1) (get_or s.waiting q 0)) (ne_eqb p q two) ∙ (omega arith))
    ])

    waited_still : (x : LogEntry) (p : ℕ) → ((q : ℕ) → length (waiting (events (x ∷ l)) q) + cond (eqb p q) 1 0 ≡ length (waiting (events l) q)) → s'.waited ≡ s.waited
        → (q : ℕ) → q < s'.queues → get_or s'.waited q false ≡ was_waited_in (x ∷ l) q
    waited_still x p count is_waited q low = ap (λ (ws : List Bool). get_or ws q false) is_waited ∙ (before.waited q (omega arith) ∙ sym (was_stays x l q (let e = count q in omega arith)))

    -- a request is struck out of p
    pub struck_p : (r p : ℕ) → p < s.queues → ((q : ℕ) → length (waiting (events (Happens (Strike r p) ∷ l)) q) + cond (eqb p q) 1 0 ≡ length (waiting (events l) q))
        → s'.waiting ≡ set s.waiting p (get_or s.waiting p 0 - 1) → s'.waited ≡ s.waited
        → ((a b : ℕ) → b < s.queues → cell s'.ahead a b ≡ (if (a == p) && not (nat_lt 1 (get_or s.waiting p 0)) then 0 else cell s.ahead a b)) → s'.most ≡ s.most
        → AreStretchesOf measure (Happens (Strike r p) ∷ l) s'
    struck_p r p in_range count is_waiting is_waited is_ahead is_most =
        let x = Happens (Strike r p) in
        let ahead_is = λ (a b : ℕ) (low : a < s'.queues) (low' : b < s'.queues). is_ahead a b (omega arith) ∙ elim (cases_eq a p) [
          | inl same ↦ (
              let w = before.waiting p in_range in let e = this_queue p (length (waiting (events (x ∷ l)) p)) (length (waiting (events l) p)) (count p) in
              let old = before.ahead p b in_range (omega arith) in
              subst (λ (k : ℕ). (if (k == p) && not (nat_lt 1 (get_or s.waiting p 0)) then 0 else cell s.ahead k b) ≡ ahead_now measure (x ∷ l) k b) (sym same)
              (ap (λ (t : Bool). if t && not (nat_lt 1 (get_or s.waiting p 0)) then 0 else cell s.ahead p b) (eq-eqb p p refl)
              ∙ (last_one (get_or s.waiting p 0) (length (waiting (events (x ∷ l)) p)) (cell s.ahead p b) (omega arith) ∙ (ap (λ (n : ℕ). if is_waited_in (x ∷ l) p then n else 0) old ∙ sym (calm x l p b refl refl)))))
          | inr two ↦ (
              let e = other_queue p a (length (waiting (events (x ∷ l)) a)) (length (waiting (events l) a)) (λ e. two (sym e)) (count a) in
              ap (λ (t : Bool). if t && not (nat_lt 1 (get_or s.waiting p 0)) then 0 else cell s.ahead a b) (ne_eqb a p two)
              ∙ (before.ahead a b (omega arith) (omega arith) ∙ sym (stays x l a b refl refl (omega arith))))
        ] in
        record {
          waiting = left_p x p in_range count is_waiting;
          waited = waited_still x p count is_waited;
          ahead = ahead_is;
          most = λ a b low low'. ap (λ (c : PairsView). cell c a b) is_most ∙ (before.most a b (omega arith) (omega arith) ∙ sym (most_stays x l a b (calm_less x l a b refl refl)));
        }

    module _ (r p : ℕ) (in_range : p < s.queues) (count : (q : ℕ) → length (waiting (events (Happens (Dispatch r p) ∷ l)) q) + cond (eqb p q) 1 0 ≡ length (waiting (events l) q))
        (small : (a b : ℕ) → ahead_now measure l a b + measure r < 18446744073709551616) where
      gives : (q : ℕ) → seat_time measure (Happens (Dispatch r p) ∷ []) q ≡ cond (eqb p q) (measure r) 0
      gives q = by_test (eqb p q) where
        by_test : (t : Bool) → cond t (0 + measure r) 0 ≡ cond t (measure r) 0
        by_test true = omega arith
        by_test false = refl

      gives_p : seat_time measure (Happens (Dispatch r p) ∷ []) p ≡ measure r
      gives_p = gives p ∙ ap (λ (t : Bool). cond t (measure r) 0) (eq-eqb p p refl)

      gives_another : (q : ℕ) → p ≢ q → seat_time measure (Happens (Dispatch r p) ∷ []) q ≡ 0
      gives_another q two = gives q ∙ ap (λ (t : Bool). cond t (measure r) 0) (ne_eqb p q two)

      ahead_of_p : (b : ℕ) → b < s.queues → ahead_after s p (measure r) p b ≡ ahead_now measure (Happens (Dispatch r p) ∷ l) p b
      ahead_of_p b low =
          let x = Happens (Dispatch r p) in let w = get_or s.waiting p 0 in let n = ahead_now measure l p b in let m = measure r in
          let was = before.waiting p in_range in let e = this_queue p (length (waiting (events (x ∷ l)) p)) (length (waiting (events l) p)) (count p) in
          let old = before.ahead p b in_range low in
          ap (λ (t : Bool). if t then if nat_lt 1 w then cell s.ahead p b - m else 0 else if is_passed s p p b then raised m (cell s.ahead p b) else cell s.ahead p b) (eq-eqb p p refl)
          ∙ (ap (λ (k : ℕ). if nat_lt 1 w then k - m else 0) old
          ∙ (of_itself b p w (length (waiting (events (x ∷ l)) p)) n m (seat_time measure (x ∷ []) b) (gives b) (omega arith) (λ same. subst (λ (k : ℕ). ahead_now measure l p k ≡ 0) same (now_self measure l p))
          ∙ ap (λ (k : ℕ). if is_waited_in (x ∷ l) p then n + seat_time measure (x ∷ []) b - k else 0) (sym gives_p)))

      plainly : (a b : ℕ) → a ≢ p → ahead_after s p (measure r) a b ≡ (if is_passed s p a b then raised (measure r) (cell s.ahead a b) else cell s.ahead a b)
      plainly a b two = ap (λ (t : Bool). if t then if nat_lt 1 (get_or s.waiting p 0) then cell s.ahead a b - measure r else 0 else if is_passed s p a b then raised (measure r) (cell s.ahead a b) else cell s.ahead a b) (ne_eqb a p two)

      ahead_of_another : (a b : ℕ) → a < s.queues → b < s.queues → a ≢ p → ahead_after s p (measure r) a b ≡ ahead_now measure (Happens (Dispatch r p) ∷ l) a b
      ahead_of_another a b low low' two =
          let x = Happens (Dispatch r p) in let w = length (waiting (events l) a) in let w' = length (waiting (events (x ∷ l)) a) in let n = ahead_now measure l a b in let m = measure r in
          let gb = seat_time measure (x ∷ []) b in
          let same_w : w' ≡ w = other_queue p a w' w (λ e. two (sym e)) (count a) in
          plainly a b two
          ∙ (ap (λ (t : Bool). if (b == p) && (not t && nat_lt 0 (get_or s.waiting a 0)) then raised m (cell s.ahead a b) else cell s.ahead a b) (ne_eqb a p two)
          ∙ (ap (λ (k : ℕ). if (b == p) && nat_lt 0 (get_or s.waiting a 0) then raised m k else k) (before.ahead a b low low')
          ∙ (ap (λ (k : ℕ). if (b == p) && nat_lt 0 k then raised m n else n) (before.waiting a low)
          ∙ (of_another b p w n m gb (gives b) (λ none. now_empty measure l a b (none_long w none)) (small a b)
          ∙ (ap (λ (k : ℕ). if nat_lt 0 w then n + gb - k else 0) (sym (gives_another a (λ e. two (sym e))))
          ∙ ap (λ (k : ℕ). if nat_lt 0 k then n + gb - seat_time measure (x ∷ []) a else 0) (sym same_w))))))

      most_of_p : (b : ℕ) → b < s.queues → (if is_passed s p p b then max (cell s.most p b) (raised (measure r) (cell s.ahead p b)) else cell s.most p b) ≡ most_ahead measure (Happens (Dispatch r p) ∷ l) p b
      most_of_p b low =
          let x = Happens (Dispatch r p) in
          let gives_less : seat_time measure (x ∷ []) b ≤ seat_time measure (x ∷ []) p = (let e = gives b in let e' = gives_p in let less = part (eqb p b) (measure r) in omega arith) in
          ap (λ (t : Bool). if t then max (cell s.most p b) (raised (measure r) (cell s.ahead p b)) else cell s.most p b) (not_itself (b == p) (p == p) (nat_lt 0 (get_or s.waiting p 0)) (eq-eqb p p refl))
          ∙ (before.most p b in_range low ∙ sym (most_stays x l p b (no_more (is_waited_in (x ∷ l) p) (ahead_now measure l p b) (seat_time measure (x ∷ []) b) (seat_time measure (x ∷ []) p) gives_less)))

      most_of_another : (a b : ℕ) → a < s.queues → b < s.queues → a ≢ p
          → (if is_passed s p a b then max (cell s.most a b) (raised (measure r) (cell s.ahead a b)) else cell s.most a b) ≡ most_ahead measure (Happens (Dispatch r p) ∷ l) a b
      most_of_another a b low low' two = by_test (is_passed s p a b) (sym (plainly a b two) ∙ ahead_of_another a b low low' two) where
        by_test : (t : Bool) → (if t then raised (measure r) (cell s.ahead a b) else cell s.ahead a b) ≡ ahead_now measure (Happens (Dispatch r p) ∷ l) a b
            → (if t then max (cell s.most a b) (raised (measure r) (cell s.ahead a b)) else cell s.most a b) ≡ most_ahead measure (Happens (Dispatch r p) ∷ l) a b
        by_test true is = ap (λ (k : ℕ). max k (raised (measure r) (cell s.ahead a b))) (before.most a b low low') ∙ ap (λ (k : ℕ). max (most_ahead measure l a b) k) is
        by_test false is = (let old = before.ahead a b low low' in before.most a b low low' ∙ sym (most_stays (Happens (Dispatch r p)) l a b (omega arith)))

      -- a request is dispatched from p
      pub dispatched_p : s'.waiting ≡ set s.waiting p (get_or s.waiting p 0 - 1) → s'.waited ≡ s.waited
          → ((a b : ℕ) → a < s.queues → b < s.queues → cell s'.ahead a b ≡ ahead_after s p (measure r) a b)
          → ((a b : ℕ) → a < s.queues → b < s.queues → cell s'.most a b ≡ (if is_passed s p a b then max (cell s.most a b) (raised (measure r) (cell s.ahead a b)) else cell s.most a b))
          → AreStretchesOf measure (Happens (Dispatch r p) ∷ l) s'
      dispatched_p is_waiting is_waited is_ahead is_most = record {
        waiting = left_p (Happens (Dispatch r p)) p in_range count is_waiting;
        waited = waited_still (Happens (Dispatch r p)) p count is_waited;
        ahead = λ a b low low'. is_ahead a b (omega arith) (omega arith) ∙ elim (cases_eq a p) [
          | inl same ↦ subst (λ (k : ℕ). ahead_after s p (measure r) k b ≡ ahead_now measure (Happens (Dispatch r p) ∷ l) k b) (sym same) (ahead_of_p b (omega arith))
          | inr two ↦ ahead_of_another a b (omega arith) (omega arith) two
        ];
        most = λ a b low low'. is_most a b (omega arith) (omega arith) ∙ elim (cases_eq a p) [
          | inl same ↦ subst (λ (k : ℕ). (if is_passed s p k b then max (cell s.most k b) (raised (measure r) (cell s.ahead k b)) else cell s.most k b) ≡ most_ahead measure (Happens (Dispatch r p) ∷ l) k b) (sym same) (most_of_p b (omega arith))
          | inr two ↦ most_of_another a b (omega arith) (omega arith) two
        ];
      }
