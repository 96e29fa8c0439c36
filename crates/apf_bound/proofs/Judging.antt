-- What is kept of the requests that execute, after one entry more.
use Rattle.std.proofs.Common.{◌≡◌, ◌≢◌, ℕ, suc, ◌+◌, ◌-◌, ◌*◌, ◌<◌, ◌≤◌, inl, inr, Bool, true, false, cond, eqb, List, [], ◌∷◌, length, get_or, refl, sym, ap, ◌∙◌, subst, arith}
use Rattle.std.specs.Prelude.{◌==◌, ◌&&◌, min, if◌then◌else◌}
use Rattle.std.proofs.Math.ListN.{set}
use Rattle.std.proofs.lemmas.Bool.{cases_eq, eq-eqb, ne_eqb, eqb-true, false≢true}
use Rattle.apf_history.specs.declared.events.Event.TheVariants.{Enter, Full, Dispatch, Strike}
use Rattle.apf_history.specs.declared.events.LogEntry.{LogEntry}
use Rattle.apf_history.specs.declared.events.LogEntry.TheVariants.{Happens, Spends, Settles}
use Rattle.apf_history.specs.Numbered.{width}
use Rattle.apf_history.specs.Charged.{Running, ended, IsAmong, runs, total, charged, taken, IsJudged, AreJudged, SpendsWithin}
use Rattle.apf_bound.specs.Bounds.{IsLeastSlack}
use Rattle.apf_bound.specs.Stretched.{largest}
use Rattle.apf_bound.specs.Misjudged.{JudgedView, IsRaisedTo, IsJudgedOf}
use Rattle.apf_bound.proofs.Following.{put_at}

-- without one request that executes
both_are : (a b : Bool) → (a && b) ≡ true → (a ≡ true) × (b ≡ true)
both_are true true e = (refl, refl)
both_are true false e = absurd (false≢true e)
both_are false b e = absurd (false≢true e)

module _ (f : Running → ℕ) (r k : ℕ) where
  ended_one : (x : Running) (rest all : ℕ) (xs : List Running) (t : Bool) → ((x.request == r) && (x.charge == k)) ≡ t → total f xs ≡ all → (t ≡ false → rest + f (record { request = r; charge = k }) ≡ all)
      → total f (ended r k xs) ≡ rest → total f (if t then xs else x ∷ ended r k xs) + f (record { request = r; charge = k }) ≡ f x + all
  ended_one x rest all xs true e is more is_rest =
      let b = both_are (x.request == r) (x.charge == k) e in
      let one = eqb-true x.request r b.0 in
      let other = eqb-true x.charge k b.1 in
      let same : f x ≡ f (record { request = r; charge = k }) = ap (λ (n : ℕ). f (record { request = n; charge = x.charge })) one ∙ ap (λ (n : ℕ). f (record { request = r; charge = n })) other in
      omega arith
  ended_one x rest all xs false e is more is_rest = let m = more refl in omega arith

  pub total_without : (xs : List Running) → IsAmong r k xs → total f (ended r k xs) + f (record { request = r; charge = k }) ≡ total f xs
  total_without [] h = absurd h
  total_without (x ∷ xs) h = ended_one x (total f (ended r k xs)) (total f xs) xs ((x.request == r) && (x.charge == k)) refl refl
      (λ e. elim h [
        | inl here ↦ absurd (false≢true (sym e ∙ (ap (λ (t : Bool). t && (x.charge == k)) (eq-eqb x.request r here.0) ∙ eq-eqb x.charge k here.1)))
        | inr there ↦ total_without xs there
      ]) refl

  pub total_less : (xs : List Running) → total f (ended r k xs) ≤ total f xs
  total_less [] = omega arith
  total_less (x ∷ xs) = by_test ((x.request == r) && (x.charge == k)) (total_less xs) where
    by_test : (t : Bool) → total f (ended r k xs) ≤ total f xs → total f (if t then xs else x ∷ ended r k xs) ≤ f x + total f xs
    by_test true less = omega arith
    by_test false less = omega arith

  spent_less : (new : ℕ) (t : Bool) (xs : List Running) → total f (if t then record { request = r; charge = new } ∷ ended r k xs else xs) ≤ total f xs + f (record { request = r; charge = new })
  spent_less new true xs = let less = total_less xs in omega arith
  spent_less new false xs = omega arith

  settled_less : (t : Bool) (xs : List Running) → total f (if t then ended r k xs else xs) ≤ total f xs
  settled_less true xs = total_less xs
  settled_less false xs = omega arith

part : (t : Bool) (n : ℕ) → cond t n 0 ≤ n
part true n = omega arith
part false n = omega arith

add_mul_one : (n m : ℕ) → suc n * m ≡ n * m + m
add_mul_one n m = omega arith

module _ (costs : List ℕ) (measure : ℕ → ℕ) where
  -- what executes after one entry more
  dispatched_taken : (r p : ℕ) (l : List LogEntry) (q : ℕ) → taken costs measure (Happens (Dispatch r p) ∷ l) q ≡ taken costs measure l q + cond (eqb p q) (measure r) 0
  dispatched_taken r p l q = by_test (eqb p q) where
    by_test : (t : Bool) → total (λ x. measure x.request) (if t then record { request = r; charge = width costs r } ∷ runs costs l q else runs costs l q) ≡ taken costs measure l q + cond t (measure r) 0
    by_test true = omega arith
    by_test false = omega arith

  dispatched_charged : (r p : ℕ) (l : List LogEntry) (q : ℕ) → charged costs (Happens (Dispatch r p) ∷ l) q ≡ charged costs l q + cond (eqb p q) (width costs r) 0
  dispatched_charged r p l q = by_test (eqb p q) where
    by_test : (t : Bool) → total (λ x. x.charge) (if t then record { request = r; charge = width costs r } ∷ runs costs l q else runs costs l q) ≡ charged costs l q + cond t (width costs r) 0
    by_test true = omega arith
    by_test false = omega arith

  settled_taken : (r p old new : ℕ) (l : List LogEntry) (q : ℕ) → IsAmong r old (runs costs l p) → taken costs measure (Settles r p old new ∷ l) q + cond (eqb p q) (measure r) 0 ≡ taken costs measure l q
  settled_taken r p old new l q among = elim (cases_eq p q) [
    | inl same ↦ subst (λ (n : ℕ). taken costs measure (Settles r p old new ∷ l) n + cond (eqb p n) (measure r) 0 ≡ taken costs measure l n) same
        (rw (eq-eqb p p refl) (total_without (λ x. measure x.request) r old (runs costs l p) among))
    | inr two ↦ rw (ne_eqb p q two) (omega arith)
  ]

  settled_charged : (r p old new : ℕ) (l : List LogEntry) (q : ℕ) → IsAmong r old (runs costs l p) → charged costs (Settles r p old new ∷ l) q + cond (eqb p q) old 0 ≡ charged costs l q
  settled_charged r p old new l q among = elim (cases_eq p q) [
    | inl same ↦ subst (λ (n : ℕ). charged costs (Settles r p old new ∷ l) n + cond (eqb p n) old 0 ≡ charged costs l n) same
        (rw (eq-eqb p p refl) (total_without (λ x. x.charge) r old (runs costs l p) among))
    | inr two ↦ rw (ne_eqb p q two) (omega arith)
  ]

  spent_taken : (r p old new : ℕ) (l : List LogEntry) (q : ℕ) → IsAmong r old (runs costs l p) → taken costs measure (Spends r p old new ∷ l) q ≡ taken costs measure l q
  spent_taken r p old new l q among = elim (cases_eq p q) [
    | inl same ↦ subst (λ (n : ℕ). taken costs measure (Spends r p old new ∷ l) n ≡ taken costs measure l n) same
        (rw (eq-eqb p p refl) (let all = total_without (λ x. measure x.request) r old (runs costs l p) among in omega arith))
    | inr two ↦ rw (ne_eqb p q two) refl
  ]

  spent_charged : (r p old new : ℕ) (l : List LogEntry) (q : ℕ) → IsAmong r old (runs costs l p) → charged costs (Spends r p old new ∷ l) q + cond (eqb p q) old 0 ≡ charged costs l q + cond (eqb p q) new 0
  spent_charged r p old new l q among = elim (cases_eq p q) [
    | inl same ↦ subst (λ (n : ℕ). charged costs (Spends r p old new ∷ l) n + cond (eqb p n) old 0 ≡ charged costs l n + cond (eqb p n) new 0) same
        (rw (eq-eqb p p refl) (let all = total_without (λ x. x.charge) r old (runs costs l p) among in omega arith))
    | inr two ↦ rw (ne_eqb p q two) refl
  ]

  -- what executes comes to no more than the log is long
  module _ (most : ℕ) where
    one_taken : (x : LogEntry) (l : List LogEntry) (q : ℕ) → ((r : ℕ) → measure r ≤ most) → taken costs measure (x ∷ l) q ≤ taken costs measure l q + most
    one_taken (Happens (Enter r p)) l q low = omega arith
    one_taken (Happens (Full r p)) l q low = omega arith
    one_taken (Happens (Strike r p)) l q low = omega arith
    one_taken (Happens (Dispatch r p)) l q low = let is = dispatched_taken r p l q in let less = low r in let some = part (eqb p q) (measure r) in omega arith
    one_taken (Spends r p old new) l q low = let less = low r in let more : taken costs measure (Spends r p old new ∷ l) q ≤ taken costs measure l q + measure r = spent_less (λ x. measure x.request) r old new (eqb p q) (runs costs l q) in omega arith
    one_taken (Settles r p old new) l q low = let more : taken costs measure (Settles r p old new ∷ l) q ≤ taken costs measure l q = settled_less (λ x. measure x.request) r old (eqb p q) (runs costs l q) in omega arith

    pub taken_low : (l : List LogEntry) (q : ℕ) → ((r : ℕ) → measure r ≤ most) → taken costs measure l q ≤ length l * most
    taken_low [] q low = omega arith
    taken_low (x ∷ l) q low = let before = taken_low l q low in let more = one_taken x l q low in let long = add_mul_one (length l) most in omega arith

    one_charged : (x : LogEntry) (l : List LogEntry) (q : ℕ) → ((r : ℕ) → width costs r ≤ most) → SpendsWithin most (λ r. 1) (x ∷ l) → charged costs (x ∷ l) q ≤ charged costs l q + most
    one_charged (Happens (Enter r p)) l q low spends = omega arith
    one_charged (Happens (Full r p)) l q low spends = omega arith
    one_charged (Happens (Strike r p)) l q low spends = omega arith
    one_charged (Happens (Dispatch r p)) l q low spends = let is = dispatched_charged r p l q in let less = low r in let some = part (eqb p q) (width costs r) in omega arith
    one_charged (Spends r p old new) l q low spends = let less = spends.0 in let more : charged costs (Spends r p old new ∷ l) q ≤ charged costs l q + new = spent_less (λ x. x.charge) r old new (eqb p q) (runs costs l q) in omega arith
    one_charged (Settles r p old new) l q low spends = let more : charged costs (Settles r p old new ∷ l) q ≤ charged costs l q = settled_less (λ x. x.charge) r old (eqb p q) (runs costs l q) in omega arith

    pub spends_before : (x : LogEntry) (l : List LogEntry) → SpendsWithin most (λ r. 1) (x ∷ l) → SpendsWithin most (λ r. 1) l
    spends_before (Happens e) l h = h
    spends_before (Spends r p old new) l h = h.1
    spends_before (Settles r p old new) l h = h

    pub charged_low : (l : List LogEntry) (q : ℕ) → ((r : ℕ) → width costs r ≤ most) → SpendsWithin most (λ r. 1) l → charged costs l q ≤ length l * most
    charged_low [] q low spends = omega arith
    charged_low (x ∷ l) q low spends =
        let before = charged_low l q low (spends_before x l spends) in let more = one_charged x l q low spends in let long = add_mul_one (length l) most in omega arith

-- the slack, raised to both gaps
head_judged : (slack : ℕ) (costs : List ℕ) (measure : ℕ → ℕ) (l : List LogEntry) → AreJudged slack costs measure l → IsJudged slack costs measure l
head_judged slack costs measure [] h = h
head_judged slack costs measure (x ∷ l) h = h.0

still_judged : (low high : ℕ) (costs : List ℕ) (measure : ℕ → ℕ) (l : List LogEntry) → low ≤ high → IsJudged low costs measure l → IsJudged high costs measure l
still_judged low high costs measure l less h = record {
  under = λ x. (let u = h.under x in omega arith);
  over = λ x. (let u = h.over x in omega arith);
  both = λ x p two. (let u = h.both x p two in omega arith);
}

are_still_judged : (low high : ℕ) (costs : List ℕ) (measure : ℕ → ℕ) (l : List LogEntry) → low ≤ high → AreJudged low costs measure l → AreJudged high costs measure l
are_still_judged low high costs measure [] less h = still_judged low high costs measure [] less h
are_still_judged low high costs measure (x ∷ l) less h = (still_judged low high costs measure (x ∷ l) less h.0, are_still_judged low high costs measure l less h.1)

module _ (costs : List ℕ) (measure : ℕ → ℕ) (x : LogEntry) (l : List LogEntry) (ts cs : List ℕ) (before slack : ℕ)
    (taken_is : (q : ℕ) → get_or ts q 0 ≡ taken costs measure (x ∷ l) q) (charged_is : (q : ℕ) → get_or cs q 0 ≡ charged costs (x ∷ l) q) (raised : IsRaisedTo ts cs before slack) where
  judged_here : raised.under + raised.over ≤ slack → IsJudged slack costs measure (x ∷ l)
  judged_here less = record {
    under = λ q. (let t = taken_is q in let c = charged_is q in let u = raised.under_is.most q in omega arith);
    over = λ q. (let t = taken_is q in let c = charged_is q in let u = raised.over_is.most q in omega arith);
    both = λ q p two. (let t = taken_is q in let c = charged_is q in let u = raised.under_is.most q in let t' = taken_is p in let c' = charged_is p in let u' = raised.over_is.most p in omega arith);
  }

  no_less : (other : ℕ) → IsJudged other costs measure (x ∷ l) → raised.under + raised.over ≤ other
  no_less other h =
      let q = raised.under_is.place in let p = raised.over_is.place in
      let t = taken_is q in let c = charged_is q in let t' = taken_is p in let c' = charged_is p in
      let u = raised.under_is.at in let o = raised.over_is.at in
      let under = h.under q in let over = h.over p in
      elim (cases_eq q p) [
        | inl same ↦ (let e = ap (λ (n : ℕ). get_or ts n 0) same in let e' = ap (λ (n : ℕ). get_or cs n 0) same in omega arith)
        | inr two ↦ (let both = h.both q p two in omega arith)
      ]

  pub slack_raised : (q p : ℕ) → ((n : ℕ) → get_or ts n 0 ≤ q) → ((n : ℕ) → get_or cs n 0 ≤ p) → q + p < 18446744073709551616 → IsLeastSlack costs measure l before → IsLeastSlack costs measure (x ∷ l) slack
  slack_raised q p low low' few h =
      let t = low raised.under_is.place in let c = low' raised.over_is.place in
      let u = raised.under_is.at in let o = raised.over_is.at in
      let is = raised.slack_is in
      let less : raised.under + raised.over ≤ slack = omega arith in
      let less' : before ≤ slack = omega arith in
      record {
        judged = (judged_here less, are_still_judged before slack costs measure l less' h.judged);
        least = λ other all. (let no = no_less other all.0 in let old = h.least other all.1 in omega arith);
      }

-- a list in which one number is put says a function that is changed there
put_is : (f : ℕ → ℕ) (xs ys : List ℕ) (p v : ℕ) → ys ≡ set xs p v → p < length xs → v ≡ f p → ((q : ℕ) → p ≢ q → get_or xs q 0 ≡ f q) → (q : ℕ) → get_or ys q 0 ≡ f q
put_is f xs ys p v is low here others q = ap (λ (ns : List ℕ). get_or ns q 0) is ∙ (put_at xs p v 0 q low ∙ elim (cases_eq p q) [
  | inl same ↦ subst (λ (n : ℕ). cond (eqb p n) v (get_or xs n 0) ≡ f n) same (ap (λ (t : Bool). cond t v (get_or xs p 0)) (eq-eqb p p refl) ∙ here)
  | inr two ↦ ap (λ (t : Bool). cond t v (get_or xs q 0)) (ne_eqb p q two) ∙ others q two
])

this_part : (p n : ℕ) → cond (eqb p p) n 0 ≡ n
this_part p n = ap (λ (t : Bool). cond t n 0) (eq-eqb p p refl)

no_part : (p q n : ℕ) → p ≢ q → cond (eqb p q) n 0 ≡ 0
no_part p q n two = ap (λ (t : Bool). cond t n 0) (ne_eqb p q two)

module _ (costs : List ℕ) (measure : ℕ → ℕ) (l : List LogEntry) (j : JudgedView) (before : IsJudgedOf costs measure l j) where
  -- nothing begins and nothing ends
  pub none_began : (x : LogEntry) → ((q : ℕ) → taken costs measure (x ∷ l) q ≡ taken costs measure l q) → ((q : ℕ) → charged costs (x ∷ l) q ≡ charged costs l q) → IsJudgedOf costs measure (x ∷ l) j
  none_began x same same' = record {
    taken = λ q. before.taken q ∙ sym (same q);
    charged = λ q. before.charged q ∙ sym (same' q);
    slack = record {
      judged = (
        record {
          under = λ q. (let t = same q in let c = same' q in let u = (head_judged j.slack costs measure l before.slack.judged).under q in omega arith);
          over = λ q. (let t = same q in let c = same' q in let u = (head_judged j.slack costs measure l before.slack.judged).over q in omega arith);
          both = λ q p two. (let t = same q in let c = same' q in let t' = same p in let c' = same' p in let u = (head_judged j.slack costs measure l before.slack.judged).both q p two in omega arith);
        },
        before.slack.judged,
      );
      least = λ other all. before.slack.least other all.1;
    };
  }

  module _ (j' : JudgedView) (p : ℕ) (low : p < length j.taken) (low' : p < length j.charged) (most : ℕ) (low_costs : (r : ℕ) → width costs r ≤ most) (low_measures : (r : ℕ) → measure r ≤ most)
      (raised : IsRaisedTo j'.taken j'.charged j.slack j'.slack) where
    all_moved : (x : LogEntry) → SpendsWithin most (λ r. 1) (x ∷ l) → 2 * (length (x ∷ l) * most) < 18446744073709551616
        → ((q : ℕ) → get_or j'.taken q 0 ≡ taken costs measure (x ∷ l) q) → ((q : ℕ) → get_or j'.charged q 0 ≡ charged costs (x ∷ l) q) → IsJudgedOf costs measure (x ∷ l) j'
    all_moved x spends few is is' = record {
      taken = is;
      charged = is';
      slack = slack_raised costs measure x l j'.taken j'.charged j.slack j'.slack is is' raised (length (x ∷ l) * most) (length (x ∷ l) * most)
          (λ n. (let e = is n in let less = taken_low costs measure most (x ∷ l) n low_measures in omega arith)) (λ n. (let e = is' n in let less = charged_low costs measure most (x ∷ l) n low_costs spends in omega arith)) (omega arith) before.slack;
    }

    -- a request is dispatched from p
    pub began : (r : ℕ) → SpendsWithin most (λ r. 1) l → 2 * (length (Happens (Dispatch r p) ∷ l) * most) < 18446744073709551616
        → j'.taken ≡ set j.taken p (min (get_or j.taken p 0 + measure r) largest) → j'.charged ≡ set j.charged p (min (get_or j.charged p 0 + width costs r) largest)
        → IsJudgedOf costs measure (Happens (Dispatch r p) ∷ l) j'
    began r spends few is is' =
        let x = Happens (Dispatch r p) in
        let t = before.taken p in let c = before.charged p in
        let e = dispatched_taken costs measure r p l p in let e' = dispatched_charged costs measure r p l p in
        let one = this_part p (measure r) in let one' = this_part p (width costs r) in
        let less = taken_low costs measure most (x ∷ l) p low_measures in let less' = charged_low costs measure most (x ∷ l) p low_costs spends in
        all_moved x spends few
        (put_is (taken costs measure (x ∷ l)) j.taken j'.taken p (min (get_or j.taken p 0 + measure r) largest) is low (omega arith)
        (λ q two. (let was = before.taken q in let e = dispatched_taken costs measure r p l q in let none = no_part p q (measure r) two in omega arith)))
        (put_is (charged costs (x ∷ l)) j.charged j'.charged p (min (get_or j.charged p 0 + width costs r) largest) is' low' (omega arith)
        (λ q two. (let was = before.charged q in let e = dispatched_charged costs measure r p l q in let none = no_part p q (width costs r) two in omega arith)))

    -- a request ends that was dispatched from p
    pub ended_of_p : (r old new : ℕ) → IsAmong r old (runs costs l p) → new ≡ measure r → SpendsWithin most (λ r. 1) l → 2 * (length (Settles r p old new ∷ l) * most) < 18446744073709551616
        → j'.taken ≡ set j.taken p (get_or j.taken p 0 - new) → j'.charged ≡ set j.charged p (get_or j.charged p 0 - old)
        → IsJudgedOf costs measure (Settles r p old new ∷ l) j'
    ended_of_p r old new among same spends few is is' =
        let x = Settles r p old new in
        let t = before.taken p in let c = before.charged p in
        let e = settled_taken costs measure r p old new l p among in let e' = settled_charged costs measure r p old new l p among in
        let one = this_part p (measure r) in let one' = this_part p old in
        all_moved x spends few
        (put_is (taken costs measure (x ∷ l)) j.taken j'.taken p (get_or j.taken p 0 - new) is low (omega arith)
        (λ q two. (let was = before.taken q in let e = settled_taken costs measure r p old new l q among in let none = no_part p q (measure r) two in omega arith)))
        (put_is (charged costs (x ∷ l)) j.charged j'.charged p (get_or j.charged p 0 - old) is' low' (omega arith)
        (λ q two. (let was = before.charged q in let e = settled_charged costs measure r p old new l q among in let none = no_part p q old two in omega arith)))

    -- a request that executes is charged another amount
    pub changed_of_p : (r old new : ℕ) → IsAmong r old (runs costs l p) → SpendsWithin most (λ r. 1) (Spends r p old new ∷ l) → 2 * (length (Spends r p old new ∷ l) * most) < 18446744073709551616
        → j'.taken ≡ set j.taken p (get_or j.taken p 0) → j'.charged ≡ set j.charged p (min (get_or j.charged p 0 - old + new) largest)
        → IsJudgedOf costs measure (Spends r p old new ∷ l) j'
    changed_of_p r old new among spends few is is' =
        let x = Spends r p old new in
        let t = before.taken p in let c = before.charged p in
        let e = spent_taken costs measure r p old new l p among in let e' = spent_charged costs measure r p old new l p among in
        let one = this_part p new in let one' = this_part p old in
        let some : old ≤ charged costs l p = (let all = total_without (λ x. x.charge) r old (runs costs l p) among in omega arith) in
        let less' = charged_low costs measure most (x ∷ l) p low_costs spends in
        all_moved x spends few
        (put_is (taken costs measure (x ∷ l)) j.taken j'.taken p (get_or j.taken p 0) is low (omega arith)
        (λ q two. (let was = before.taken q in let e = spent_taken costs measure r p old new l q among in omega arith)))
        (put_is (charged costs (x ∷ l)) j.charged j'.charged p (min (get_or j.charged p 0 - old + new) largest) is' low' (omega arith)
        (λ q two. (let was = before.charged q in let e = spent_charged costs measure r p old new l q among in let none = no_part p q old two in let none' = no_part p q new two in omega arith)))
