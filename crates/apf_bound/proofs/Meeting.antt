-- Both sides of a settled log meet the bound: the law of such logs, at costs of which nothing is left but those of requests that entered a queue.
use Rattle.std.proofs.Common.{◌≡◌, ◌≢◌, ℕ, zero, suc, ◌+◌, ◌*◌, ◌<◌, ◌≤◌, ◌⊎◌, inl, inr, Bool, true, false, cond, eqb, List, [], ◌∷◌, ◌++◌, length, Option, Some, None, refl, sym, ap, subst, arith}
use Rattle.std.specs.Prelude.{◌||◌, not, slice_get, slice_index, Contains, IfSome}
use Rattle.std.proofs.lemmas.Bool.{cases_eq, eq-eqb, ne_eqb, eqb-true, false≢true}
use Rattle.std.proofs.lemmas.List.Elements.{All-contains, All-contains_itself, All-filter, Contains-push_cases}
use Rattle.apf_history.specs.declared.events.Event.{Event}
use Rattle.apf_history.specs.declared.events.Event.TheVariants.{Enter, Full, Dispatch, Strike}
use Rattle.apf_history.specs.declared.events.LogEntry.{LogEntry}
use Rattle.apf_history.specs.declared.events.LogEntry.TheVariants.{Happens, Spends, Settles}
use Rattle.apf_history.specs.Numbered.{width}
use Rattle.apf_history.specs.History.{entered, has_left, waiting, IsLegal}
use Rattle.apf_history.specs.Fair.{Numbers, after_enter, after_dispatch, widest, IsChoice}
use Rattle.apf_history.specs.Charged.{events, after_charge, charged_numbers, Running, ended, IsAmong, runs, total, taken, charged, seat_time, FollowsChoices, IsSettled, AreMeasures, IsJudged, AreJudged, IsNeverEmptyIn}
use Rattle.apf_bound.specs.declared.bound.Sides.{Sides}
use Rattle.apf_bound.specs.declared.furthest.Furthest.{Furthest}
use Rattle.apf_bound.specs.Bounds.{IsAhead, IsNearest, AreSides, largest_cost}

-- r entered a queue
abbrev pub came_in : List Event → ℕ → Bool
came_in [] r = false
came_in (Enter j p ∷ h) r = eqb j r || came_in h r
came_in (_ ∷ h) r = came_in h r

-- the costs of some requests, and 0 of the others
abbrev pub costs_of : (ℕ → Bool) → ℕ → List ℕ → List ℕ
costs_of t i [] = []
costs_of t i (k ∷ ks) = cond (t i) k 0 ∷ costs_of t (suc i) ks

cost_kept : (t : ℕ → Bool) (i : ℕ) (ks : List ℕ) (r : ℕ) → t (r + i) ≡ true → width (costs_of t i ks) r ≡ width ks r
cost_kept t i [] r e = refl
cost_kept t i (k ∷ ks) zero e = (let e' : t i ≡ true = subst (λ (n : ℕ). t n ≡ true) (omega arith) e in ap (λ (b : Bool). cond b k 0) e')
cost_kept t i (k ∷ ks) (suc r) e = cost_kept t (suc i) ks r (subst (λ (n : ℕ). t n ≡ true) (omega arith) e)

widest_low : (t : ℕ → Bool) (i : ℕ) (ks : List ℕ) (most : ℕ) → ((r : ℕ) → t (r + i) ≡ true → width ks r ≤ most) → widest (costs_of t i ks) ≤ most
widest_low t i [] most low = omega arith
widest_low t i (k ∷ ks) most low =
    let rest = widest_low t (suc i) ks most (λ r e. low (suc r) (subst (λ (n : ℕ). t n ≡ true) (omega arith) e)) in
    let here = by_test (t i) (λ e. low 0 (subst (λ (n : ℕ). t n ≡ true) (omega arith) e)) refl in
    omega arith where
      by_test : (b : Bool) → (t i ≡ true → k ≤ most) → t i ≡ b → cond b k 0 ≤ most
      by_test true less is = less is
      by_test false less is = omega arith

or_cases : (a b : Bool) → (a || b) ≡ true → (a ≡ true) ⊎ (b ≡ true)
or_cases true b e = inl refl
or_cases false b e = inr e

or_right : (a b : Bool) → b ≡ true → (a || b) ≡ true
or_right true b e = refl
or_right false b e = e

-- the largest cost is that of each that entered
pub largest_of : (costs : List ℕ) (l : List LogEntry) (r : ℕ) → came_in (events l) r ≡ true → width costs r ≤ largest_cost costs l
largest_of costs [] r e = absurd (false≢true e)
largest_of costs (Happens (Enter j p) ∷ l) r e = elim (or_cases (eqb j r) (came_in (events l) r) e) [
  | inl here ↦ (let same = ap (width costs) (eqb-true j r here) in omega arith)
  | inr before ↦ (let less = largest_of costs l r before in omega arith)
]
largest_of costs (Happens (Full j p) ∷ l) r e = largest_of costs l r e
largest_of costs (Happens (Dispatch j p) ∷ l) r e = largest_of costs l r e
largest_of costs (Happens (Strike j p) ∷ l) r e = largest_of costs l r e
largest_of costs (Spends j p old new ∷ l) r e = largest_of costs l r e
largest_of costs (Settles j p old new ∷ l) r e = largest_of costs l r e

-- who waits came in
none_in : (r : ℕ) → Contains {X = ℕ} [] r → ⊥
none_in r c = let l : c.0 < 0 = c.1 in absurd (omega arith)

entered_came : (h : List Event) (q r : ℕ) → Contains (entered h q) r → came_in h r ≡ true
entered_came [] q r c = absurd (none_in r c)
entered_came (Enter j p ∷ h) q r c = elim (cases_eq p q) [
  | inl e ↦ elim (Contains-push_cases (entered h q) j r (subst (λ (b : Bool). Contains (cond b (entered h q ++ j ∷ []) (entered h q)) r) (eq-eqb p q e) c)) [
    | inl old ↦ or_right (eqb j r) (came_in h r) (entered_came h q r old)
    | inr new ↦ ap (λ (b : Bool). b || came_in h r) (eq-eqb j r new)
  ]
  | inr ne ↦ or_right (eqb j r) (came_in h r) (entered_came h q r (subst (λ (b : Bool). Contains (cond b (entered h q ++ j ∷ []) (entered h q)) r) (ne_eqb p q ne) c))
]
entered_came (Full j p ∷ h) q r c = entered_came h q r c
entered_came (Dispatch j p ∷ h) q r c = entered_came h q r c
entered_came (Strike j p ∷ h) q r c = entered_came h q r c

waiting_came : (h : List Event) (q r : ℕ) → Contains (waiting h q) r → came_in h r ≡ true
waiting_came h q r c = entered_came h q r
    (All-contains (Contains (entered h q)) (waiting h q) r (All-filter (λ j. not (has_left h j)) (Contains (entered h q)) (entered h q) (All-contains_itself (entered h q))) c)

head_in : (xs : List ℕ) → xs ≢ [] → Contains xs (slice_index xs 0)
head_in [] ne = absurd (ne refl)
head_in (x ∷ xs) ne = (0, (omega arith), refl)

first_in : (xs : List ℕ) (r : ℕ) → slice_get xs 0 ≡ Some r → Contains xs r
first_in [] r e = absurd (cc)
first_in (x ∷ xs) r e = (let same : x ≡ r = cc in subst (λ (y : ℕ). Contains (x ∷ xs) y) same (0, (omega arith), refl))

module _ (queues : ℕ) (costs costs' : List ℕ) (t : ℕ → Bool) (agree : (r : ℕ) → t r ≡ true → width costs' r ≡ width costs r) where
  -- each that came in has its cost
  abbrev Covers : List LogEntry → Type 0
  Covers l = (r : ℕ) → came_in (events l) r ≡ true → t r ≡ true

  first_same : (l : List LogEntry) (r q : ℕ) → Covers l → slice_get (waiting (events l) q) 0 ≡ Some r → width costs' r ≡ width costs r
  first_same l r q covers e = agree r (covers r (waiting_came (events l) q r (first_in (waiting (events l) q) r e)))

  covers_before : (x : LogEntry) (l : List LogEntry) → Covers (x ∷ l) → Covers l
  covers_before (Happens (Enter j p)) l c = λ r e. c r (or_right (eqb j r) (came_in (events l) r) e)
  covers_before (Happens (Full j p)) l c = c
  covers_before (Happens (Dispatch j p)) l c = c
  covers_before (Happens (Strike j p)) l c = c
  covers_before (Spends j p old new) l c = c
  covers_before (Settles j p old new) l c = c

  same_charged : (hands : ℕ → List ℕ) (limit : ℕ) (l : List LogEntry) → IsLegal hands limit (events l) → Covers l → charged_numbers queues costs' l ≡ charged_numbers queues costs l
  same_charged hands limit [] legal c = refl
  same_charged hands limit (Happens (Enter r q) ∷ l) legal c = ap (after_enter q (waiting (events l) q)) (same_charged hands limit l legal.1 (covers_before (Happens (Enter r q)) l c))
  same_charged hands limit (Happens (Full r q) ∷ l) legal c = same_charged hands limit l legal.1 c
  same_charged hands limit (Happens (Dispatch r q) ∷ l) legal c = λ i. after_dispatch q (first_same l r q c legal.0 i) (same_charged hands limit l legal.1 c i)
  same_charged hands limit (Happens (Strike r q) ∷ l) legal c = same_charged hands limit l legal.1 c
  same_charged hands limit (Spends r q old new ∷ l) legal c = ap (after_charge q old new) (same_charged hands limit l legal c)
  same_charged hands limit (Settles r q old new ∷ l) legal c = ap (after_charge q old new) (same_charged hands limit l legal c)

  same_runs : (hands : ℕ → List ℕ) (limit : ℕ) (l : List LogEntry) → IsLegal hands limit (events l) → Covers l → (q : ℕ) → runs costs' l q ≡ runs costs l q
  same_runs hands limit [] legal c q = refl
  same_runs hands limit (Happens (Enter r p) ∷ l) legal c q = same_runs hands limit l legal.1 (covers_before (Happens (Enter r p)) l c) q
  same_runs hands limit (Happens (Full r p) ∷ l) legal c q = same_runs hands limit l legal.1 c q
  same_runs hands limit (Happens (Dispatch r p) ∷ l) legal c q = λ i. cond (eqb p q) (record { request = r; charge = first_same l r p c legal.0 i } ∷ same_runs hands limit l legal.1 c q i) (same_runs hands limit l legal.1 c q i)
  same_runs hands limit (Happens (Strike r p) ∷ l) legal c q = same_runs hands limit l legal.1 c q
  same_runs hands limit (Spends r p old new ∷ l) legal c q = λ i. cond (eqb p q) (record { request = r; charge = new } ∷ ended r old (same_runs hands limit l legal c q i)) (same_runs hands limit l legal c q i)
  same_runs hands limit (Settles r p old new ∷ l) legal c q = λ i. cond (eqb p q) (ended r old (same_runs hands limit l legal c q i)) (same_runs hands limit l legal c q i)

  same_choice : (l : List LogEntry) (v : Numbers) (q : ℕ) → Covers l → IsChoice queues costs (waiting (events l)) v q → IsChoice queues costs' (waiting (events l)) v q
  same_choice l v q c choice =
      let head = λ (p : ℕ) (ne : waiting (events l) p ≢ []). agree (slice_index (waiting (events l) p) 0) (c (slice_index (waiting (events l) p) 0) (waiting_came (events l) p (slice_index (waiting (events l) p) 0) (head_in (waiting (events l) p) ne))) in
      let here = head q choice.is_waited_in in
      record {
        is_queue = choice.is_queue;
        is_waited_in = choice.is_waited_in;
        has_least_finish = λ p low ne. (let there = head p ne in let less = choice.has_least_finish p low ne in omega arith);
        is_reached_first = λ p low ne same. (let there = head p ne in choice.is_reached_first p low ne (omega arith));
      }

  pub same_follows : (hands : ℕ → List ℕ) (limit : ℕ) (l : List LogEntry) → IsLegal hands limit (events l) → Covers l → FollowsChoices queues costs l → FollowsChoices queues costs' l
  same_follows hands limit [] legal c d = tt
  same_follows hands limit (Happens (Enter r q) ∷ l) legal c d = (tt, same_follows hands limit l legal.1 (covers_before (Happens (Enter r q)) l c) d.1)
  same_follows hands limit (Happens (Full r q) ∷ l) legal c d = (tt, same_follows hands limit l legal.1 c d.1)
  same_follows hands limit (Happens (Dispatch r q) ∷ l) legal c d =
      (subst (λ v. IsChoice queues costs' (waiting (events l)) v q) (sym (same_charged hands limit l legal.1 c)) (same_choice l (charged_numbers queues costs l) q c d.0), same_follows hands limit l legal.1 c d.1)
  same_follows hands limit (Happens (Strike r q) ∷ l) legal c d = (tt, same_follows hands limit l legal.1 c d.1)
  same_follows hands limit (Spends r q old new ∷ l) legal c d = (subst (IsAmong r old) (sym (same_runs hands limit l legal c q)) d.0, same_follows hands limit l legal c d.1)
  same_follows hands limit (Settles r q old new ∷ l) legal c d = (subst (IsAmong r old) (sym (same_runs hands limit l legal c q)) d.0, same_follows hands limit l legal c d.1)

  same_judged : (measure : ℕ → ℕ) (slack : ℕ) (hands : ℕ → List ℕ) (limit : ℕ) (l : List LogEntry) → IsLegal hands limit (events l) → Covers l → IsJudged slack costs measure l → IsJudged slack costs' measure l
  same_judged measure slack hands limit l legal c h =
      let is_taken : (q : ℕ) → taken costs' measure l q ≡ taken costs measure l q = λ q. ap (λ (xs : List Running). total (λ x. measure x.request) xs) (same_runs hands limit l legal c q) in
      let is_charged : (q : ℕ) → charged costs' l q ≡ charged costs l q = λ q. ap (λ (xs : List Running). total (λ x. x.charge) xs) (same_runs hands limit l legal c q) in
      record {
        under = λ q. (let u = is_taken q in let o = is_charged q in let e = h.under q in omega arith);
        over = λ q. (let u = is_taken q in let o = is_charged q in let e = h.over q in omega arith);
        both = λ q p two. (let u = is_taken q in let o = is_charged q in let u' = is_taken p in let o' = is_charged p in let e = h.both q p two in omega arith);
      }

  legal_before : (hands : ℕ → List ℕ) (limit : ℕ) (x : LogEntry) (l : List LogEntry) → IsLegal hands limit (events (x ∷ l)) → IsLegal hands limit (events l)
  legal_before hands limit (Happens e) l legal = legal.1
  legal_before hands limit (Spends j p old new) l legal = legal
  legal_before hands limit (Settles j p old new) l legal = legal

  pub are_same_judged : (measure : ℕ → ℕ) (slack : ℕ) (hands : ℕ → List ℕ) (limit : ℕ) (l : List LogEntry) → IsLegal hands limit (events l) → Covers l → AreJudged slack costs measure l → AreJudged slack costs' measure l
  are_same_judged measure slack hands limit [] legal c h = same_judged measure slack hands limit [] legal c h
  are_same_judged measure slack hands limit (x ∷ l) legal c h =
      (same_judged measure slack hands limit (x ∷ l) legal c h.0, are_same_judged measure slack hands limit l (legal_before hands limit x l legal) (covers_before x l c) h.1)

-- what is true of a log is true of each beginning of it
settled_beginning : (queues : ℕ) (costs : List ℕ) (hands : ℕ → List ℕ) (limit : ℕ) (later l : List LogEntry) → IsSettled queues costs hands limit (later ++ l) → IsSettled queues costs hands limit l
settled_beginning queues costs hands limit [] l s = s
settled_beginning queues costs hands limit (Happens e ∷ later) l s = settled_beginning queues costs hands limit later l (s.0.1, s.1.1)
settled_beginning queues costs hands limit (Spends r q old new ∷ later) l s = settled_beginning queues costs hands limit later l (s.0, s.1.1)
settled_beginning queues costs hands limit (Settles r q old new ∷ later) l s = settled_beginning queues costs hands limit later l (s.0, s.1.1)

measured_beginning : (measure : ℕ → ℕ) (later l : List LogEntry) → AreMeasures measure (later ++ l) → AreMeasures measure l
measured_beginning measure [] l m = m
measured_beginning measure (Happens e ∷ later) l m = measured_beginning measure later l m
measured_beginning measure (Spends r q old new ∷ later) l m = measured_beginning measure later l m
measured_beginning measure (Settles r q old new ∷ later) l m = measured_beginning measure later l m.1

judged_beginning : (slack : ℕ) (costs : List ℕ) (measure : ℕ → ℕ) (later l : List LogEntry) → AreJudged slack costs measure (later ++ l) → AreJudged slack costs measure l
judged_beginning slack costs measure [] l h = h
judged_beginning slack costs measure (x ∷ later) l h = judged_beginning slack costs measure later l h.1

-- the law of settled logs
abbrev pub Isolates : Type 0
Isolates = (slack queues : ℕ) (costs : List ℕ) (measure : ℕ → ℕ) (hands : ℕ → List ℕ) (limit : ℕ) (stretch earlier : List LogEntry) (q other : ℕ)
    → IsSettled queues costs hands limit (stretch ++ earlier) → AreMeasures measure (stretch ++ earlier) → AreJudged slack costs measure (stretch ++ earlier) → q < queues → other < queues
    → IsNeverEmptyIn (stretch ++ earlier) (length stretch) q → seat_time measure stretch other ≤ seat_time measure stretch q + 2 * widest costs + 3 * slack

module _ (law : Isolates) (queues : ℕ) (costs : List ℕ) (measure : ℕ → ℕ) (hands : ℕ → List ℕ) (limit : ℕ) (l : List LogEntry) (settled : IsSettled queues costs hands limit l) (measures : AreMeasures measure l) (slack : ℕ)
    (judged : AreJudged slack costs measure l) where
  agrees : (r : ℕ) → came_in (events l) r ≡ true → width (costs_of (came_in (events l)) 0 costs) r ≡ width costs r
  agrees r e = cost_kept (came_in (events l)) 0 costs r (subst (λ (n : ℕ). came_in (events l) n ≡ true) (omega arith) e)

  widest_is : widest (costs_of (came_in (events l)) 0 costs) ≤ largest_cost costs l
  widest_is = widest_low (came_in (events l)) 0 costs (largest_cost costs l) (λ r e. largest_of costs l r (subst (λ (n : ℕ). came_in (events l) n ≡ true) (omega arith) e))

  pub met : (a b ahead : ℕ) → a < queues → b < queues → IsAhead measure l a b ahead → ahead ≤ 2 * largest_cost costs l + 3 * slack
  met a b ahead in_a in_b h =
      let costs' = costs_of (came_in (events l)) 0 costs in
      let t = came_in (events l) in
      let is = h.is_stretch.is in
      let all : IsSettled queues costs' hands limit l = (settled.0, same_follows queues costs costs' t agrees hands limit l settled.0 (λ r e. e) settled.1) in
      let part = settled_beginning queues costs' hands limit h.later (h.stretch ++ h.earlier) (subst (IsSettled queues costs' hands limit) is all) in
      let measured = measured_beginning measure h.later (h.stretch ++ h.earlier) (subst (AreMeasures measure) is measures) in
      let judged' = judged_beginning slack costs' measure h.later (h.stretch ++ h.earlier) (subst (AreJudged slack costs' measure) is (are_same_judged queues costs costs' t agrees measure slack hands limit l settled.0 (λ r e. e) judged)) in
      let less = law slack queues costs' measure hands limit h.stretch h.earlier a b part measured judged' in_a in_b h.is_stretch.never_empty in
      let by = h.by in
      let wide = widest_is in
      omega arith

pub sides_meet : Isolates → (queues : ℕ) (costs : List ℕ) (measure : ℕ → ℕ) (hands : ℕ → List ℕ) (limit : ℕ) (l : List LogEntry) → IsSettled queues costs hands limit l → AreMeasures measure l
    → (s : Sides) → AreSides queues costs measure l s → IfSome s.furthest (λ f. f.ahead ≤ 2 * s.largest_cost + 3 * s.slack)
sides_meet law queues costs measure hands limit l settled measures s sides =
    subst (λ (n : ℕ). IfSome s.furthest (λ f. f.ahead ≤ 2 * n + 3 * s.slack)) (sym sides.largest_cost) (by_case s.furthest sides.nearest) where
      by_case : (best : Option Furthest) → IsNearest queues measure l best → IfSome best (λ f. f.ahead ≤ 2 * largest_cost costs l + 3 * s.slack)
      by_case None none = tt
      by_case (Some f) far = met law queues costs measure hands limit l settled measures s.slack sides.slack.judged f.busy f.other f.ahead far.is_busy far.is_other far.attained
