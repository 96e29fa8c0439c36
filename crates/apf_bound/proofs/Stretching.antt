-- How far a queue is ahead of another one, as it is kept, is how far it is ahead in a stretch.
use Rattle.std.proofs.Common.{◌≡◌, ◌≢◌, ℕ, zero, suc, ◌+◌, ◌-◌, ◌*◌, ◌<◌, ◌≤◌, ◌⊎◌, inl, inr, Bool, true, false, cond, eqb, List, [], ◌∷◌, ◌++◌, length, refl, sym, ap, ◌∙◌, subst, arith}
use Rattle.std.specs.Prelude.{nat_lt, ◌||◌, not, if◌then◌else◌, filter}
use Rattle.std.proofs.lemmas.Bool.{cases_lt, false≢true}
use Rattle.std.proofs.lemmas.Bool.Decides.{nat_tests}
use Rattle.apf_history.specs.declared.events.Event.{Event}
use Rattle.apf_history.specs.declared.events.Event.TheVariants.{Enter, Full, Dispatch, Strike}
use Rattle.apf_history.specs.declared.events.LogEntry.{LogEntry}
use Rattle.apf_history.specs.declared.events.LogEntry.TheVariants.{Happens, Spends, Settles}
use Rattle.apf_history.specs.History.{entered, has_left, waiting}
use Rattle.apf_history.specs.Charged.{events, given, seat_time, IsNeverEmptyIn}
use Rattle.apf_bound.specs.Bounds.{IsStretch, IsAhead}
use Rattle.apf_bound.specs.Stretched.{is_waited_in, was_waited_in, ahead_now, most_ahead}

-- a queue is waited in if it is not empty
waited_long : (rs : List ℕ) → rs ≢ [] → nat_lt 0 (length rs) ≡ true
waited_long [] ne = absurd (ne refl)
waited_long (r ∷ rs) ne = grind (arith, nat_tests)

long_waited : (rs : List ℕ) → nat_lt 0 (length rs) ≡ true → rs ≢ []
long_waited [] e same = false≢true e
long_waited (r ∷ rs) e same = cc

short_empty : (rs : List ℕ) → nat_lt 0 (length rs) ≡ false → rs ≡ []
short_empty [] e = refl
short_empty (r ∷ rs) e = absurd (let long : nat_lt 0 (length (r ∷ rs)) ≡ true = waited_long (r ∷ rs) (λ same. cc) in false≢true (sym e ∙ long))

neither : (a b : Bool) → (a || b) ≡ false → (a ≡ false) × (b ≡ false)
neither true b e = absurd (false≢true (sym e))
neither false b e = (refl, e)

or_true : (a b : Bool) → b ≡ true → (a || b) ≡ true
or_true true b e = refl
or_true false b e = e

either : (a b : Bool) → (a || b) ≡ true → (a ≡ true) ⊎ (b ≡ true)
either true b e = inl refl
either false b e = inr e

-- who left does not come back
fewer_one : (x : ℕ) (a b : Bool) (xs ys : List ℕ) → (xs ≡ [] → ys ≡ []) → cond (not b) (x ∷ xs) xs ≡ [] → cond (not (a || b)) (x ∷ ys) ys ≡ []
fewer_one x true true xs ys f e = f e
fewer_one x false true xs ys f e = f e
fewer_one x true false xs ys f e = absurd (let no : (x ∷ xs) ≡ [] = e in cc)
fewer_one x false false xs ys f e = absurd (let no : (x ∷ xs) ≡ [] = e in cc)

fewer : (h : List Event) (j : ℕ) (xs : List ℕ) → filter (λ r. not (has_left h r)) xs ≡ [] → filter (λ r. not (eqb j r || has_left h r)) xs ≡ []
fewer h j [] e = refl
fewer h j (x ∷ xs) e = fewer_one x (eqb j x) (has_left h x) (filter (λ r. not (has_left h r)) xs) (filter (λ r. not (eqb j r || has_left h r)) xs) (fewer h j xs) e

neither_way : (t : Bool) (n g : ℕ) → n ≡ 0 → (if t then n + g - g else 0) ≡ 0
neither_way true n g e = omega arith
neither_way false n g e = refl

module _ (measure : ℕ → ℕ) where
  -- what an entry gives comes to what was given before
  given_more : (e : Event) (q n : ℕ) → given measure e q n ≡ n + given measure e q 0
  given_more (Enter r p) q n = omega arith
  given_more (Full r p) q n = omega arith
  given_more (Strike r p) q n = omega arith
  given_more (Dispatch r p) q n = by_test (eqb p q) where
    by_test : (b : Bool) → (cond b (n + measure r) n) ≡ n + cond b (0 + measure r) 0
    by_test true = omega arith
    by_test false = omega arith

  pub seat_time_more : (x : LogEntry) (l : List LogEntry) (q : ℕ) → seat_time measure (x ∷ l) q ≡ seat_time measure l q + seat_time measure (x ∷ []) q
  seat_time_more (Happens e) l q = given_more e q (seat_time measure l q)
  seat_time_more (Spends r p old new) l q = omega arith
  seat_time_more (Settles r p old new) l q = omega arith

  -- a queue that is empty is not ahead
  pub now_empty : (l : List LogEntry) (a b : ℕ) → is_waited_in l a ≡ false → ahead_now measure l a b ≡ 0
  now_empty [] a b e = refl
  now_empty (x ∷ l) a b e = ap (λ (t : Bool). if t then ahead_now measure l a b + seat_time measure (x ∷ []) b - seat_time measure (x ∷ []) a else 0) e

  pub now_waited : (x : LogEntry) (l : List LogEntry) (a b : ℕ) → is_waited_in (x ∷ l) a ≡ true → ahead_now measure (x ∷ l) a b ≡ ahead_now measure l a b + seat_time measure (x ∷ []) b - seat_time measure (x ∷ []) a
  now_waited x l a b e = ap (λ (t : Bool). if t then ahead_now measure l a b + seat_time measure (x ∷ []) b - seat_time measure (x ∷ []) a else 0) e

  -- a queue is not ahead of itself
  pub now_self : (l : List LogEntry) (a : ℕ) → ahead_now measure l a a ≡ 0
  now_self [] a = refl
  now_self (x ∷ l) a = neither_way (is_waited_in (x ∷ l) a) (ahead_now measure l a a) (seat_time measure (x ∷ []) a) (now_self l a)

  gives_low : (most : ℕ) (x : LogEntry) (q : ℕ) → ((r : ℕ) → measure r ≤ most) → seat_time measure (x ∷ []) q ≤ most
  gives_low most (Happens (Enter r p)) q low = omega arith
  gives_low most (Happens (Full r p)) q low = omega arith
  gives_low most (Happens (Strike r p)) q low = omega arith
  gives_low most (Happens (Dispatch r p)) q low = by_test (eqb p q) (low r) where
    by_test : (t : Bool) → measure r ≤ most → cond t (0 + measure r) 0 ≤ most
    by_test true less = omega arith
    by_test false less = omega arith
  gives_low most (Spends r p old new) q low = omega arith
  gives_low most (Settles r p old new) q low = omega arith

  -- no queue is further ahead than the log is long
  pub now_low : (most : ℕ) (l : List LogEntry) (a b : ℕ) → ((r : ℕ) → measure r ≤ most) → ahead_now measure l a b ≤ length l * most
  now_low most [] a b low = omega arith
  now_low most (x ∷ l) a b low = by_test (is_waited_in (x ∷ l) a) (now_low most l a b low) (gives_low most x b low) where
    by_test : (t : Bool) → ahead_now measure l a b ≤ length l * most → seat_time measure (x ∷ []) b ≤ most
        → (if t then ahead_now measure l a b + seat_time measure (x ∷ []) b - seat_time measure (x ∷ []) a else 0) ≤ suc (length l) * most
    by_test true before less = omega arith
    by_test false before less = omega arith

  pub now_most : (l : List LogEntry) (a b : ℕ) → ahead_now measure l a b ≤ most_ahead measure l a b
  now_most [] a b = omega arith
  now_most (x ∷ l) a b = omega arith

  -- no stretch that ends now has more
  ends_now : (stretch earlier : List LogEntry) (a b : ℕ) → IsNeverEmptyIn (stretch ++ earlier) (length stretch) a → seat_time measure stretch b ≤ seat_time measure stretch a + ahead_now measure (stretch ++ earlier) a b
  ends_now [] earlier a b never = omega arith
  ends_now (x ∷ stretch) earlier a b never =
      let here = now_waited x (stretch ++ earlier) a b (waited_long (waiting (events (x ∷ (stretch ++ earlier))) a) (never 0 (omega arith))) in
      let before = ends_now stretch earlier a b (λ k low. never (suc k) (omega arith)) in
      let one = seat_time_more x stretch b in
      let other = seat_time_more x stretch a in
      omega arith

  -- nor does any before
  ended_before : (later l : List LogEntry) (a b : ℕ) → ahead_now measure l a b ≤ most_ahead measure (later ++ l) a b
  ended_before [] l a b = now_most l a b
  ended_before (x ∷ later) l a b = let before = ended_before later l a b in omega arith

  pub at_most : (l later stretch earlier : List LogEntry) (a b : ℕ) → IsStretch l a later stretch earlier → seat_time measure stretch b ≤ seat_time measure stretch a + most_ahead measure l a b
  at_most l later stretch earlier a b s =
      let now = ends_now stretch earlier a b s.never_empty in
      let before = ended_before later (stretch ++ earlier) a b in
      let same = ap (λ (m : List LogEntry). most_ahead measure m a b) s.is in
      omega arith

  -- a stretch that ends now
  record Ends (l : List LogEntry) (a b ahead : ℕ) : Type 0 where
    pub stretch : List LogEntry
    pub earlier : List LogEntry
    pub is : l ≡ stretch ++ earlier
    pub never_empty : IsNeverEmptyIn (stretch ++ earlier) (length stretch) a
    pub by : seat_time measure stretch b ≡ seat_time measure stretch a + ahead

  -- what gives something lets nobody in
  stays_empty : (x : LogEntry) (l : List LogEntry) (a b : ℕ) → is_waited_in l a ≡ false → 0 < seat_time measure (x ∷ []) b → is_waited_in (x ∷ l) a ≡ false
  stays_empty (Happens (Enter r p)) l a b e some = absurd (omega arith)
  stays_empty (Happens (Full r p)) l a b e some = absurd (omega arith)
  stays_empty (Happens (Strike r p)) l a b e some = absurd (omega arith)
  stays_empty (Happens (Dispatch r p)) l a b e some = ap (λ (rs : List ℕ). nat_lt 0 (length rs)) (fewer (events l) r (entered (events l) a) (short_empty (waiting (events l) a) e))
  stays_empty (Spends r p old new) l a b e some = absurd (omega arith)
  stays_empty (Settles r p old new) l a b e some = absurd (omega arith)

  -- at each place of a stretch of one entry more
  never_more : (x : LogEntry) (l : List LogEntry) (n a : ℕ) → is_waited_in (x ∷ l) a ≡ true → IsNeverEmptyIn l n a → IsNeverEmptyIn (x ∷ l) (suc n) a
  never_more x l n a waited never zero low = long_waited (waiting (events (x ∷ l)) a) waited
  never_more x l n a waited never (suc k) low = never k (omega arith)

  at_once : (m : List LogEntry) (a : ℕ) → waiting (events m) a ≢ [] → IsNeverEmptyIn m 0 a
  at_once m a ne zero low = ne
  at_once m a ne (suc k) low = absurd (omega arith)

  ends_further : (x : LogEntry) (l : List LogEntry) (a b : ℕ) → is_waited_in (x ∷ l) a ≡ true → 0 < ahead_now measure (x ∷ l) a b → (t : Bool) → is_waited_in l a ≡ t
      → (is_waited_in l a ≡ true → Ends l a b (ahead_now measure l a b)) → Ends (x ∷ l) a b (ahead_now measure (x ∷ l) a b)
  ends_further x l a b e some true is more =
      let before = more is in
      let here = now_waited x l a b e in
      let one = seat_time_more x before.stretch b in
      let other = seat_time_more x before.stretch a in
      let by = before.by in
      record {
        stretch = x ∷ before.stretch;
        earlier = before.earlier;
        is = ap (λ (m : List LogEntry). x ∷ m) before.is;
        never_empty = never_more x (before.stretch ++ before.earlier) (length before.stretch) a (subst (λ (m : List LogEntry). is_waited_in (x ∷ m) a ≡ true) before.is e) before.never_empty;
        by = omega arith;
      }
  ends_further x l a b e some false is more =
      let here = now_waited x l a b e in
      let none = now_empty l a b is in
      absurd (false≢true (sym (stays_empty x l a b is (omega arith)) ∙ e))

  ends_at : (l : List LogEntry) (a b : ℕ) → is_waited_in l a ≡ true → Ends l a b (ahead_now measure l a b)
  ends_at [] a b e = absurd (false≢true e)
  ends_at (x ∷ l) a b e = elim (cases_lt 0 (ahead_now measure (x ∷ l) a b)) [
    | inr none ↦ record {
      stretch = [];
      earlier = x ∷ l;
      is = refl;
      never_empty = at_once (x ∷ l) a (long_waited (waiting (events (x ∷ l)) a) e);
      by = (let no : ahead_now measure (x ∷ l) a b ≡ 0 = omega arith in omega arith);
    }
    | inl some ↦ ends_further x l a b e some (is_waited_in l a) refl (ends_at l a b)
  ]

  -- who was not waited in is not ahead
  most_zero : (l : List LogEntry) (a b : ℕ) → was_waited_in l a ≡ false → most_ahead measure l a b ≡ 0
  most_zero [] a b e = refl
  most_zero (x ∷ l) a b e =
      let here = now_empty (x ∷ l) a b (neither (is_waited_in (x ∷ l) a) (was_waited_in l a) e).0 in
      let before = most_zero l a b (neither (is_waited_in (x ∷ l) a) (was_waited_in l a) e).1 in
      omega arith

  later_too : (x : LogEntry) (l : List LogEntry) (a b ahead : ℕ) → IsAhead measure l a b ahead → IsAhead measure (x ∷ l) a b ahead
  later_too x l a b ahead h = record {
    later = x ∷ h.later;
    stretch = h.stretch;
    earlier = h.earlier;
    is_stretch = record { is = ap (λ (m : List LogEntry). x ∷ m) h.is_stretch.is; never_empty = h.is_stretch.never_empty };
    by = h.by;
  }

  attained_before : (x : LogEntry) (l : List LogEntry) (a b : ℕ) → ahead_now measure (x ∷ l) a b ≤ most_ahead measure l a b → IsAhead measure l a b (most_ahead measure l a b)
      → IsAhead measure (x ∷ l) a b (most_ahead measure (x ∷ l) a b)
  attained_before x l a b less before =
      let same : most_ahead measure l a b ≡ most_ahead measure (x ∷ l) a b = omega arith in
      subst (IsAhead measure (x ∷ l) a b) same (later_too x l a b (most_ahead measure l a b) before)

  attained_now : (l : List LogEntry) (a b : ℕ) → is_waited_in l a ≡ true → ahead_now measure l a b ≡ most_ahead measure l a b → IsAhead measure l a b (most_ahead measure l a b)
  attained_now l a b e same =
      let it = ends_at l a b e in
      subst (IsAhead measure l a b) same (record {
        later = [];
        stretch = it.stretch;
        earlier = it.earlier;
        is_stretch = record { is = it.is; never_empty = it.never_empty };
        by = it.by;
      })

  attained_by : (x : LogEntry) (l : List LogEntry) (a b : ℕ) → was_waited_in (x ∷ l) a ≡ true → (t u : Bool) → is_waited_in (x ∷ l) a ≡ t → was_waited_in l a ≡ u
      → (was_waited_in l a ≡ true → IsAhead measure l a b (most_ahead measure l a b)) → IsAhead measure (x ∷ l) a b (most_ahead measure (x ∷ l) a b)
  attained_by x l a b e false false now was before =
      absurd (elim (either (is_waited_in (x ∷ l) a) (was_waited_in l a) e) [ inl y ↦ false≢true (sym now ∙ y) | inr y ↦ false≢true (sym was ∙ y) ])
  attained_by x l a b e false true now was before = (let none = now_empty (x ∷ l) a b now in attained_before x l a b (omega arith) (before was))
  attained_by x l a b e true true now was before = elim (cases_lt (ahead_now measure (x ∷ l) a b) (most_ahead measure l a b)) [
    | inr less ↦ attained_now (x ∷ l) a b now (omega arith)
    | inl more ↦ attained_before x l a b (omega arith) (before was)
  ]
  attained_by x l a b e true false now was before = (let none = most_zero l a b was in attained_now (x ∷ l) a b now (omega arith))

  -- in a stretch it is as far ahead as at the most
  pub attained : (l : List LogEntry) (a b : ℕ) → was_waited_in l a ≡ true → IsAhead measure l a b (most_ahead measure l a b)
  attained [] a b e = absurd (false≢true e)
  attained (x ∷ l) a b e = attained_by x l a b e (is_waited_in (x ∷ l) a) (was_waited_in l a) refl refl (attained l a b)

-- a queue that is never empty in a stretch was waited in
pub was_before : (later l : List LogEntry) (q : ℕ) → is_waited_in l q ≡ true → was_waited_in (later ++ l) q ≡ true
was_before [] [] q e = absurd (false≢true e)
was_before [] (x ∷ l) q e = ap (λ (b : Bool). b || was_waited_in l q) e
was_before (x ∷ later) l q e = or_true (is_waited_in (x ∷ (later ++ l)) q) (was_waited_in (later ++ l) q) (was_before later l q e)

pub was_in : (l later stretch earlier : List LogEntry) (q : ℕ) → IsStretch l q later stretch earlier → was_waited_in l q ≡ true
was_in l later stretch earlier q s = subst (λ (m : List LogEntry). was_waited_in m q ≡ true) (sym s.is)
    (was_before later (stretch ++ earlier) q (waited_long (waiting (events (stretch ++ earlier)) q) (s.never_empty 0 (omega arith))))

-- one that was not is empty at each place
pub never_waited : (later earlier : List LogEntry) (q : ℕ) → was_waited_in (later ++ earlier) q ≡ false → waiting (events earlier) q ≡ []
never_waited later earlier q e = by_test (is_waited_in earlier q) refl where
  by_test : (t : Bool) → is_waited_in earlier q ≡ t → waiting (events earlier) q ≡ []
  by_test true is = absurd (false≢true (sym e ∙ was_before later earlier q is))
  by_test false is = short_empty (waiting (events earlier) q) is
