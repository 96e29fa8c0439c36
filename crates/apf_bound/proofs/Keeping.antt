-- What is kept of a log, after one entry more.
use Rattle.std.proofs.Common.{◌≡◌, ℕ, suc, ◌+◌, ◌-◌, ◌*◌, ◌<◌, ◌≤◌, true, false, List, [], ◌∷◌, length, get_or, Option, refl, sym, ap, ◌∙◌, subst, arith}
use Rattle.std.specs.Prelude.{◌==◌, ◌&&◌, nat_lt, not, min, max, if◌then◌else◌}
use Rattle.std.proofs.Math.ListN.{set}
use Rattle.apf_history.specs.declared.events.Event.TheVariants.{Enter, Full, Dispatch, Strike}
use Rattle.apf_history.specs.declared.events.LogEntry.{LogEntry}
use Rattle.apf_history.specs.declared.events.LogEntry.TheVariants.{Happens, Spends, Settles}
use Rattle.apf_history.specs.Numbered.{width}
use Rattle.apf_history.specs.History.{waiting}
use Rattle.apf_history.specs.Charged.{events, IsSettled, AreMeasures}
use Rattle.apf_bound.specs.Bounds.{IsNearest, IsLeastSlack, AreSides, largest_cost}
use Rattle.apf_bound.specs.declared.furthest.Furthest.{Furthest}
use Rattle.apf_bound.specs.Pairs.{cell}
use Rattle.apf_bound.specs.Stretched.{AreStretchesOf, IsBestOf, IsPair, ahead_after, is_passed, raised, largest}
use Rattle.apf_bound.specs.Misjudged.{IsRaisedTo, IsJudgedOf}
use Rattle.apf_bound.specs.Kept.{BoundView, IsShaped, IsRanged, AreSidesOf, IsKeptOf, Counts, queues_of}
use Rattle.apf_bound.proofs.Stretching.{now_low}
use Rattle.apf_bound.proofs.Counting.{entered_one, dispatched_one, struck_one, few_wait, few_events}
use Rattle.apf_bound.proofs.Following.{none_moved, entered_p, struck_p, dispatched_p}
use Rattle.apf_bound.proofs.Nearest.{nearest}
use Rattle.apf_bound.proofs.Judging.{spends_before, none_began, began, ended_of_p, changed_of_p}

module _ (costs : List ℕ) (measure : ℕ → ℕ) (hands : ℕ → List ℕ) (limit : ℕ) where
  -- nothing happened yet
  pub opening_kept : (b : BoundView) → ((q : ℕ) → get_or b.stretches.waiting q 0 ≡ 0) → ((q : ℕ) → get_or b.stretches.waited q false ≡ false) → ((x y : ℕ) → cell b.stretches.ahead x y ≡ 0)
      → ((x y : ℕ) → cell b.stretches.most x y ≡ 0) → ((q : ℕ) → get_or b.judged.taken q 0 ≡ 0) → ((q : ℕ) → get_or b.judged.charged q 0 ≡ 0) → b.judged.slack ≡ 0 → b.largest_cost ≡ 0
      → IsKeptOf costs measure hands limit [] b
  unfolding IsKeptOf
  opening_kept b waiting waited ahead most taken charged slack none settled measures ranged = record {
    stretches = record {
      waiting = λ q low. waiting q;
      waited = λ q low. waited q;
      ahead = λ x y low low'. ahead x y;
      most = λ x y low low'. most x y;
    };
    judged = record {
      taken = taken;
      charged = charged;
      slack = record {
        judged = record {
          under = λ x. (omega arith);
          over = λ x. (omega arith);
          both = λ x p two. (omega arith);
        };
        least = λ other all. (omega arith);
      };
    };
    largest_cost = none;
  }

  -- what is true of a log is true of it before its newest entry
  settled_before : (queues : ℕ) (x : LogEntry) (l : List LogEntry) → IsSettled queues costs hands limit (x ∷ l) → IsSettled queues costs hands limit l
  settled_before queues (Happens e) l s = (s.0.1, s.1.1)
  settled_before queues (Spends r q old new) l s = (s.0, s.1.1)
  settled_before queues (Settles r q old new) l s = (s.0, s.1.1)

  measures_before : (x : LogEntry) (l : List LogEntry) → AreMeasures measure (x ∷ l) → AreMeasures measure l
  measures_before (Happens e) l m = m
  measures_before (Spends r q old new) l m = m
  measures_before (Settles r q old new) l m = m.1

  ranged_before : (x : LogEntry) (l : List LogEntry) → IsRanged costs measure (x ∷ l) → IsRanged costs measure l
  ranged_before x l h = record {
    most = h.most;
    low_costs = h.low_costs;
    low_measures = h.low_measures;
    low_charges = spends_before costs measure h.most x l h.low_charges;
    few = (let few = h.few in let more = mul_more (length l) h.most in omega arith);
    short = (let short = h.short in omega arith);
  } where
    mul_more : (n m : ℕ) → n * m ≤ suc n * m
    mul_more n m = omega arith

  -- nothing is stored of a request that is refused
  pub refused_kept : (l : List LogEntry) (b : BoundView) (r q : ℕ) → IsKeptOf costs measure hands limit l b → IsKeptOf costs measure hands limit (Happens (Full r q) ∷ l) b
  unfolding IsKeptOf
  refused_kept l b r q kept settled measures ranged =
      let x = Happens (Full r q) in
      let was = kept (settled_before (queues_of b) x l settled) (measures_before x l measures) (ranged_before x l ranged) in
      record {
        stretches = none_moved measure l b.stretches was.stretches x (λ p. refl) (λ p. refl);
        judged = none_began costs measure l b.judged was.judged x (λ p. refl) (λ p. refl);
        largest_cost = was.largest_cost;
      }

  module _ (law : Counts) (l : List LogEntry) (b b' : BoundView) (shaped : IsShaped b) (same : queues_of b' ≡ queues_of b) (kept : IsKeptOf costs measure hands limit l b) where
    before : (x : LogEntry) → IsSettled (queues_of b') costs hands limit (x ∷ l) → AreMeasures measure (x ∷ l) → IsRanged costs measure (x ∷ l) → AreSidesOf costs measure l b
    unfolding IsKeptOf
    before x settled measures ranged =
        kept (subst (λ (n : ℕ). IsSettled n costs hands limit l) same (settled_before (queues_of b') x l settled)) (measures_before x l measures) (ranged_before x l ranged)

    -- a request enters
    pub entered_kept : (r q cost : ℕ) → q < queues_of b → width costs r ≡ cost
        → b'.stretches.waiting ≡ set b.stretches.waiting q (min (get_or b.stretches.waiting q 0 + 1) largest) → b'.stretches.waited ≡ set b.stretches.waited q true → b'.stretches.ahead ≡ b.stretches.ahead
        → b'.stretches.most ≡ b.stretches.most → b'.judged ≡ b.judged → b'.largest_cost ≡ max b.largest_cost cost
        → IsKeptOf costs measure hands limit (Happens (Enter r q) ∷ l) b'
    unfolding IsKeptOf
    entered_kept r q cost low is_cost is_waiting is_waited is_ahead is_most is_judged is_largest settled measures ranged =
        let x = Happens (Enter r q) in
        let was = before x settled measures ranged in
        record {
          stretches = entered_p measure l b.stretches b'.stretches same shaped.waiting shaped.waited was.stretches r q low (λ p. entered_one law hands limit (events l) r q p settled.0)
              (let few = few_wait law hands limit (events l) q settled.0.1 in let less = few_events l in let short = ranged.short in omega arith) is_waiting is_waited is_ahead is_most;
          judged = subst (IsJudgedOf costs measure (x ∷ l)) (sym is_judged) (none_began costs measure l b.judged was.judged x (λ p. refl) (λ p. refl));
          largest_cost = is_largest ∙ (ap (λ (n : ℕ). max n cost) was.largest_cost ∙ ap (λ (n : ℕ). max (largest_cost costs l) n) (sym is_cost));
        }

    -- a request is dispatched
    pub dispatched_kept : (r q cost measured : ℕ) → q < queues_of b → width costs r ≡ cost → measure r ≡ measured
        → b'.stretches.waiting ≡ set b.stretches.waiting q (get_or b.stretches.waiting q 0 - 1) → b'.stretches.waited ≡ b.stretches.waited
        → ((x y : ℕ) → x < queues_of b → y < queues_of b → cell b'.stretches.ahead x y ≡ ahead_after b.stretches q measured x y)
        → ((x y : ℕ) → x < queues_of b → y < queues_of b → cell b'.stretches.most x y ≡ (if is_passed b.stretches q x y then max (cell b.stretches.most x y) (raised measured (cell b.stretches.ahead x y)) else cell b.stretches.most x y))
        → b'.judged.taken ≡ set b.judged.taken q (min (get_or b.judged.taken q 0 + measured) largest) → b'.judged.charged ≡ set b.judged.charged q (min (get_or b.judged.charged q 0 + cost) largest)
        → IsRaisedTo b'.judged.taken b'.judged.charged b.judged.slack b'.judged.slack → b'.largest_cost ≡ b.largest_cost
        → IsKeptOf costs measure hands limit (Happens (Dispatch r q) ∷ l) b'
    unfolding IsKeptOf
    dispatched_kept r q cost measured low is_cost is_measured is_waiting is_waited is_ahead is_most is_taken is_charged raised_to is_largest settled measures ranged =
        let x = Happens (Dispatch r q) in
        let was = before x settled measures ranged in
        record {
          stretches = dispatched_p measure l b.stretches b'.stretches same shaped.waiting shaped.waited was.stretches r q low (λ p. dispatched_one law hands limit (events l) r q p settled.0)
              (λ x y. (let less = now_low measure ranged.most l x y ranged.low_measures in let one = ranged.low_measures r in let few = ranged.few in omega arith)) is_waiting is_waited
              (subst (λ (n : ℕ). (x y : ℕ) → x < queues_of b → y < queues_of b → cell b'.stretches.ahead x y ≡ ahead_after b.stretches q n x y) (sym is_measured) is_ahead)
              (subst (λ (n : ℕ). (x y : ℕ) → x < queues_of b → y < queues_of b → cell b'.stretches.most x y ≡ (if is_passed b.stretches q x y then max (cell b.stretches.most x y) (raised n (cell b.stretches.ahead x y)) else cell b.stretches.most x y)) (sym is_measured) is_most);
          judged = began costs measure l b.judged was.judged b'.judged q (let t = shaped.taken in omega arith) (let t = shaped.charged in omega arith) ranged.most ranged.low_costs ranged.low_measures raised_to r ranged.low_charges ranged.few
              (is_taken ∙ ap (λ (n : ℕ). set b.judged.taken q (min (get_or b.judged.taken q 0 + n) largest)) (sym is_measured))
              (is_charged ∙ ap (λ (n : ℕ). set b.judged.charged q (min (get_or b.judged.charged q 0 + n) largest)) (sym is_cost));
          largest_cost = is_largest ∙ was.largest_cost;
        }

    -- a request is struck out of its queue
    pub struck_kept : (r q : ℕ) → q < queues_of b
        → b'.stretches.waiting ≡ set b.stretches.waiting q (get_or b.stretches.waiting q 0 - 1) → b'.stretches.waited ≡ b.stretches.waited
        → ((x y : ℕ) → y < queues_of b → cell b'.stretches.ahead x y ≡ (if (x == q) && not (nat_lt 1 (get_or b.stretches.waiting q 0)) then 0 else cell b.stretches.ahead x y)) → b'.stretches.most ≡ b.stretches.most
        → b'.judged ≡ b.judged → b'.largest_cost ≡ b.largest_cost
        → IsKeptOf costs measure hands limit (Happens (Strike r q) ∷ l) b'
    unfolding IsKeptOf
    struck_kept r q low is_waiting is_waited is_ahead is_most is_judged is_largest settled measures ranged =
        let x = Happens (Strike r q) in
        let was = before x settled measures ranged in
        record {
          stretches = struck_p measure l b.stretches b'.stretches same shaped.waiting shaped.waited was.stretches r q low (λ p. struck_one law hands limit (events l) r q p settled.0) is_waiting is_waited is_ahead is_most;
          judged = subst (IsJudgedOf costs measure (x ∷ l)) (sym is_judged) (none_began costs measure l b.judged was.judged x (λ p. refl) (λ p. refl));
          largest_cost = is_largest ∙ was.largest_cost;
        }

    -- a request ends
    pub settled_kept : (r q old new : ℕ) → q < queues_of b → b'.stretches ≡ b.stretches
        → b'.judged.taken ≡ set b.judged.taken q (get_or b.judged.taken q 0 - new) → b'.judged.charged ≡ set b.judged.charged q (get_or b.judged.charged q 0 - old)
        → IsRaisedTo b'.judged.taken b'.judged.charged b.judged.slack b'.judged.slack → b'.largest_cost ≡ b.largest_cost
        → IsKeptOf costs measure hands limit (Settles r q old new ∷ l) b'
    unfolding IsKeptOf
    settled_kept r q old new low is_stretches is_taken is_charged raised_to is_largest settled measures ranged =
        let x = Settles r q old new in
        let was = before x settled measures ranged in
        record {
          stretches = subst (AreStretchesOf measure (x ∷ l)) (sym is_stretches) (none_moved measure l b.stretches was.stretches x (λ p. refl) (λ p. refl));
          judged = ended_of_p costs measure l b.judged was.judged b'.judged q (let t = shaped.taken in omega arith) (let t = shaped.charged in omega arith) ranged.most ranged.low_costs ranged.low_measures raised_to
              r old new settled.1.0 measures.0 ranged.low_charges ranged.few is_taken is_charged;
          largest_cost = is_largest ∙ was.largest_cost;
        }

    -- a request that executes is charged another amount
    pub spent_kept : (r q old new : ℕ) → q < queues_of b → b'.stretches ≡ b.stretches
        → b'.judged.taken ≡ set b.judged.taken q (get_or b.judged.taken q 0) → b'.judged.charged ≡ set b.judged.charged q (min (get_or b.judged.charged q 0 - old + new) largest)
        → IsRaisedTo b'.judged.taken b'.judged.charged b.judged.slack b'.judged.slack → b'.largest_cost ≡ b.largest_cost
        → IsKeptOf costs measure hands limit (Spends r q old new ∷ l) b'
    unfolding IsKeptOf
    spent_kept r q old new low is_stretches is_taken is_charged raised_to is_largest settled measures ranged =
        let x = Spends r q old new in
        let was = before x settled measures ranged in
        record {
          stretches = subst (AreStretchesOf measure (x ∷ l)) (sym is_stretches) (none_moved measure l b.stretches was.stretches x (λ p. refl) (λ p. refl));
          judged = changed_of_p costs measure l b.judged was.judged b'.judged q (let t = shaped.taken in omega arith) (let t = shaped.charged in omega arith) ranged.most ranged.low_costs ranged.low_measures raised_to
              r old new settled.1.0 ranged.low_charges ranged.few is_taken is_charged;
          largest_cost = is_largest ∙ was.largest_cost;
        }

  -- what is stored is that of the log
  pub told : (l : List LogEntry) (b now : BoundView) → b ≡ now → IsKeptOf costs measure hands limit l now → IsSettled (queues_of now) costs hands limit l → AreMeasures measure l → IsRanged costs measure l
      → (best : Option Furthest) (slack : ℕ) → IsBestOf (cell b.stretches.most) (IsPair b.stretches) best → slack ≡ b.judged.slack
      → AreSides (queues_of now) costs measure l (record { furthest = best; largest_cost = b.largest_cost; slack = slack })
  unfolding IsKeptOf
  told l b now view kept settled measures ranged best slack is_best is_slack =
      let are = subst (AreSidesOf costs measure l) (sym view) (kept settled measures ranged) in
      record {
        nearest = subst (λ (n : ℕ). IsNearest n measure l best) (ap queues_of view) (nearest measure l b.stretches are.stretches best is_best);
        largest_cost = are.largest_cost;
        slack = subst (IsLeastSlack costs measure l) (sym is_slack) are.judged.slack;
      }
