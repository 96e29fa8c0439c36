-- What became of each request in a legal history.
use Rattle.std.proofs.Common.{◌≡◌, ◌≢◌, ℕ, ◌<◌, ◌⊎◌, inl, inr, Bool, true, false, eqb, List, [], ◌∷◌, ◌++◌, refl, sym, ap, ◌∙◌, subst, arith}
use Rattle.std.specs.Prelude.{◌||◌, Contains}
use Rattle.std.proofs.lemmas.Bool.{cases_eq, ne_eqb, false≢true}
use Rattle.std.proofs.lemmas.List.Elements.{Contains-append_left, Contains-push, Contains-push_cases}
use Rattle.apf_history.specs.declared.events.Event.{Event}
use Rattle.apf_history.specs.declared.events.Event.TheVariants.{Enter, Full, Dispatch, Strike}
use Rattle.apf_history.specs.declared.events.Status.{Status}
use Rattle.apf_history.specs.declared.events.Status.TheVariants as status_is
use Rattle.apf_history.specs.History.{request_of, NamesRequests, has_arrived, waiting, MayFollow, IsLegal}
use Rattle.apf_history.specs.Order.{makes, finds, status, has_entered, AreStatuses}
use Rattle.apf_history.proofs.Sums.{put_here, put_else}
use Rattle.apf_history.proofs.Lists.{Contains-head, Contains-tail, Contains-none, Contains-cons_cases, Contains-without, without-contains, first_contains}
use Rattle.apf_history.proofs.Waiting.{or_false, other_number, waiting_arrived, waiting_else, waiting_enter, waiting_dispatch, waiting_strike}

-- the newest event, and the others
pub made_here : (e : Event) (h : List Event) → status (e ∷ h) (request_of e) ≡ makes e
made_here e h = put_here (status h) (request_of e) (makes e)

pub made_else : (e : Event) (h : List Event) (r : ℕ) → r ≢ request_of e → status (e ∷ h) r ≡ status h r
made_else e h r ne = put_else (status h) (request_of e) (makes e) r ne

made_at : (e : Event) (h : List Event) (r : ℕ) → r ≡ request_of e → status (e ∷ h) r ≡ makes e
made_at e h r same = ap (status (e ∷ h)) same ∙ made_here e h

-- an event leaves nobody away
makes_something : (e : Event) → makes e ≢ status_is.Away
makes_something (Enter r q) e = cc
makes_something (Full r q) e = cc
makes_something (Dispatch r q) e = cc
makes_something (Strike r q) e = cc

-- who is away did not arrive
pub away_new : (h : List Event) (r : ℕ) → status h r ≡ status_is.Away → has_arrived h r ≡ false
away_new [] r e = refl
away_new (f ∷ h) r e = elim (cases_eq r (request_of f)) [
  | inl same ↦ absurd (makes_something f (sym (made_at f h r same) ∙ e))
  | inr ne ↦ arrived_else f ne (away_new h r (sym (made_else f h r ne) ∙ e))
] where
  arrived_else : (f : Event) → r ≢ request_of f → has_arrived h r ≡ false → has_arrived (f ∷ h) r ≡ false
  arrived_else (Enter j q) ne e = ap (λ (b : Bool). b || has_arrived h r) (ne_eqb j r (λ x. ne (sym x))) ∙ e
  arrived_else (Full j q) ne e = ap (λ (b : Bool). b || has_arrived h r) (ne_eqb j r (λ x. ne (sym x))) ∙ e
  arrived_else (Dispatch j q) ne e = e
  arrived_else (Strike j q) ne e = e

-- if anything became of a request, an event made that of it
pub event_of : (h : List Event) (r : ℕ) (x : Status) → status h r ≡ x → x ≢ status_is.Away → (e : Event) × Contains h e × (request_of e ≡ r) × (makes e ≡ x)
event_of [] r x b ne = absurd (ne (sym b))
event_of (e ∷ h) r x b ne = elim (cases_eq r (request_of e)) [
  | inl same ↦ (e, Contains-head e h, sym same, sym (made_at e h r same) ∙ b)
  | inr other ↦ let f = event_of h r x (sym (made_else e h r other) ∙ b) ne in (f.0, Contains-tail e h f.0 f.1, f.2, f.3)
]

-- the event that made this of a request, by its kind
by_dispatch : (h : List Event) (r : ℕ) (e : Event) → Contains h e → request_of e ≡ r → makes e ≡ status_is.Dispatched → (q : ℕ) × Contains h (Dispatch r q)
by_dispatch h r (Enter j q) c same is = absurd (cc)
by_dispatch h r (Full j q) c same is = absurd (cc)
by_dispatch h r (Dispatch j q) c same is = (q, subst (λ (i : ℕ). Contains h (Dispatch i q)) same c)
by_dispatch h r (Strike j q) c same is = absurd (cc)

by_strike : (h : List Event) (r : ℕ) (e : Event) → Contains h e → request_of e ≡ r → makes e ≡ status_is.Struck → (q : ℕ) × Contains h (Strike r q)
by_strike h r (Enter j q) c same is = absurd (cc)
by_strike h r (Full j q) c same is = absurd (cc)
by_strike h r (Dispatch j q) c same is = absurd (cc)
by_strike h r (Strike j q) c same is = (q, subst (λ (i : ℕ). Contains h (Strike i q)) same c)

by_full : (h : List Event) (r : ℕ) (e : Event) → Contains h e → request_of e ≡ r → makes e ≡ status_is.Full → (q : ℕ) × Contains h (Full r q)
by_full h r (Enter j q) c same is = absurd (cc)
by_full h r (Full j q) c same is = (q, subst (λ (i : ℕ). Contains h (Full i q)) same c)
by_full h r (Dispatch j q) c same is = absurd (cc)
by_full h r (Strike j q) c same is = absurd (cc)

-- who enters before an event, enters no less after it
entered_after : (f : Event) → has_entered (finds f) ≡ true → has_entered (makes f) ≡ true
entered_after (Enter r q) e = refl
entered_after (Full r q) e = absurd (false≢true e)
entered_after (Dispatch r q) e = refl
entered_after (Strike r q) e = refl

module _ (hands : ℕ → List ℕ) (limit : ℕ) where
  -- who did not arrive is away
  pub new_away : (h : List Event) → IsLegal hands limit h → (r : ℕ) → has_arrived h r ≡ false → status h r ≡ status_is.Away
  new_away [] l r e = refl
  new_away (Enter j q ∷ h) l r e = let o = or_false (eqb j r) (has_arrived h r) e in made_else (Enter j q) h r (λ x. other_number j r o.0 (sym x)) ∙ new_away h l.1 r o.1
  new_away (Full j q ∷ h) l r e = let o = or_false (eqb j r) (has_arrived h r) e in made_else (Full j q) h r (λ x. other_number j r o.0 (sym x)) ∙ new_away h l.1 r o.1
  new_away (Dispatch j q ∷ h) l r e =
      let other : r ≢ j = λ same. false≢true (sym e ∙ (ap (has_arrived h) same ∙ waiting_arrived h q j (first_contains (waiting h q) j l.0))) in
      made_else (Dispatch j q) h r other ∙ new_away h l.1 r e
  new_away (Strike j q ∷ h) l r e =
      let other : r ≢ j = λ same. false≢true (sym e ∙ (ap (has_arrived h) same ∙ waiting_arrived h q j l.0)) in
      made_else (Strike j q) h r other ∙ new_away h l.1 r e

  -- who stands in a queue waits
  pub waits : (h : List Event) → IsLegal hands limit h → (q r : ℕ) → Contains (waiting h q) r → status h r ≡ status_is.Waits
  waits [] l q r c = absurd (Contains-none r c)
  waits (Enter j p ∷ h) l q r c = elim (cases_eq r j) [
    | inl same ↦ made_at (Enter j p) h r same
    | inr ne ↦ made_else (Enter j p) h r ne ∙ waits h l.1 q r (elim (cases_eq p q) [
      | inl e ↦ elim (Contains-push_cases (waiting h p) j r (subst (λ (xs : List ℕ). Contains xs r) (ap (waiting (Enter j p ∷ h)) (sym e) ∙ waiting_enter hands limit h l.1 j p l.0.0) c)) [
        | inl old ↦ subst (λ (s : ℕ). Contains (waiting h s) r) e old
        | inr new ↦ absurd (ne (sym new))
      ]
      | inr other ↦ subst (λ (xs : List ℕ). Contains xs r) (waiting_else h j p q other) c
    ])
  ]
  waits (Full j p ∷ h) l q r c =
      let other : r ≢ j = λ same. false≢true (sym l.0.0 ∙ (ap (has_arrived h) (sym same) ∙ waiting_arrived h q r c)) in
      made_else (Full j p) h r other ∙ waits h l.1 q r c
  waits (Dispatch j p ∷ h) l q r c =
      let kept = Contains-without j (waiting h q) r (subst (λ (xs : List ℕ). Contains xs r) (waiting_dispatch h j p q) c) in
      made_else (Dispatch j p) h r kept.1 ∙ waits h l.1 q r kept.0
  waits (Strike j p ∷ h) l q r c =
      let kept = Contains-without j (waiting h q) r (subst (λ (xs : List ℕ). Contains xs r) (waiting_strike h j p q) c) in
      made_else (Strike j p) h r kept.1 ∙ waits h l.1 q r kept.0

  -- who waits stands in a queue
  pub waits_in : (h : List Event) → IsLegal hands limit h → (r : ℕ) → status h r ≡ status_is.Waits → (q : ℕ) × Contains (waiting h q) r
  waits_in [] l r e = absurd (cc)
  waits_in (Enter j p ∷ h) l r e =
      let here = waiting_enter hands limit h l.1 j p l.0.0 in
      elim (cases_eq r j) [
        | inl same ↦ (p, subst (λ (xs : List ℕ). Contains xs r) (sym here) (subst (λ (i : ℕ). Contains (waiting h p ++ j ∷ []) i) (sym same) (Contains-push (waiting h p) j)))
        | inr ne ↦ let w = waits_in h l.1 r (sym (made_else (Enter j p) h r ne) ∙ e) in
            elim (cases_eq p w.0) [
              | inl at ↦ (p, subst (λ (xs : List ℕ). Contains xs r) (sym here) (Contains-append_left (waiting h p) (j ∷ []) r (subst (λ (s : ℕ). Contains (waiting h s) r) (sym at) w.1)))
              | inr other ↦ (w.0, subst (λ (xs : List ℕ). Contains xs r) (sym (waiting_else h j p w.0 other)) w.1)
            ]
      ]
  waits_in (Full j p ∷ h) l r e = elim (cases_eq r j) [
    | inl same ↦ absurd (let m : status (Full j p ∷ h) r ≡ status_is.Full = made_at (Full j p) h r same in cc)
    | inr ne ↦ waits_in h l.1 r (sym (made_else (Full j p) h r ne) ∙ e)
  ]
  waits_in (Dispatch j p ∷ h) l r e = elim (cases_eq r j) [
    | inl same ↦ absurd (let m : status (Dispatch j p ∷ h) r ≡ status_is.Dispatched = made_at (Dispatch j p) h r same in cc)
    | inr ne ↦ let w = waits_in h l.1 r (sym (made_else (Dispatch j p) h r ne) ∙ e) in
        (w.0, subst (λ (xs : List ℕ). Contains xs r) (sym (waiting_dispatch h j p w.0)) (without-contains j (waiting h w.0) r w.1 ne))
  ]
  waits_in (Strike j p ∷ h) l r e = elim (cases_eq r j) [
    | inl same ↦ absurd (let m : status (Strike j p ∷ h) r ≡ status_is.Struck = made_at (Strike j p) h r same in cc)
    | inr ne ↦ let w = waits_in h l.1 r (sym (made_else (Strike j p) h r ne) ∙ e) in
        (w.0, subst (λ (xs : List ℕ). Contains xs r) (sym (waiting_strike h j p w.0)) (without-contains j (waiting h w.0) r w.1 ne))
  ]

  -- what an event finds
  pub found : (h : List Event) → IsLegal hands limit h → (e : Event) → MayFollow hands limit h e → status h (request_of e) ≡ finds e
  found h l (Enter r q) m = new_away h l r m.0
  found h l (Full r q) m = new_away h l r m.0
  found h l (Dispatch r q) m = waits h l q r (first_contains (waiting h q) r m)
  found h l (Strike r q) m = waits h l q r m

  finds_either : (e : Event) → (finds e ≡ status_is.Away) ⊎ (finds e ≡ status_is.Waits)
  finds_either (Enter r q) = inl refl
  finds_either (Full r q) = inl refl
  finds_either (Dispatch r q) = inr refl
  finds_either (Strike r q) = inr refl

  -- of a request that was dispatched, struck or refused, this stays
  pub final : (h : List Event) → IsLegal hands limit h → (e : Event) → Contains h e → makes e ≢ status_is.Waits → status h (request_of e) ≡ makes e
  final [] l e c w = absurd (Contains-none e c)
  final (f ∷ h) l e c w = elim (Contains-cons_cases f h e c) [
    | inl is ↦ subst (λ (g : Event). status (f ∷ h) (request_of g) ≡ makes g) is (made_here f h)
    | inr there ↦ let was = final h l.1 e there w in
        elim (cases_eq (request_of e) (request_of f)) [
          | inl same ↦ absurd (let b : makes e ≡ finds f = sym was ∙ (ap (status h) same ∙ found h l.1 f l.0) in
              elim (finds_either f) [ inl x ↦ makes_something e (b ∙ x) | inr x ↦ w (b ∙ x) ])
          | inr ne ↦ made_else f h (request_of e) ne ∙ was
        ]
  ]

  -- who entered has an Enter, and no one else
  pub entered_by : (h : List Event) → IsLegal hands limit h → (r q : ℕ) → Contains h (Enter r q) → has_entered (status h r) ≡ true
  entered_by [] l r q c = absurd (Contains-none (Enter r q) c)
  entered_by (f ∷ h) l r q c = elim (Contains-cons_cases f h (Enter r q) c) [
    | inl is ↦ subst (λ (g : Event). has_entered (status (f ∷ h) (request_of g)) ≡ has_entered (makes g)) is (ap has_entered (made_here f h))
    | inr there ↦ let was = entered_by h l.1 r q there in
        elim (cases_eq r (request_of f)) [
          | inl same ↦ ap has_entered (made_at f h r same)
              ∙ entered_after f (ap has_entered (sym (found h l.1 f l.0)) ∙ (ap (λ (i : ℕ). has_entered (status h i)) (sym same) ∙ was))
          | inr ne ↦ ap has_entered (made_else f h r ne) ∙ was
        ]
  ]

  pub entered_in : (h : List Event) → IsLegal hands limit h → (r : ℕ) → has_entered (status h r) ≡ true → (q : ℕ) × Contains h (Enter r q)
  entered_in [] l r e = absurd (false≢true e)
  entered_in (f ∷ h) l r e = elim (cases_eq r (request_of f)) [
    | inl same ↦ enters_at f (entered_in h l.1) same (ap has_entered (sym (made_at f h r same)) ∙ e) (found h l.1 f l.0)
    | inr ne ↦ let w = entered_in h l.1 r (ap has_entered (sym (made_else f h r ne)) ∙ e) in (w.0, Contains-tail f h (Enter r w.0) w.1)
  ] where
    enters_at : (f : Event) → ((r : ℕ) → has_entered (status h r) ≡ true → (q : ℕ) × Contains h (Enter r q)) → r ≡ request_of f → has_entered (makes f) ≡ true → status h (request_of f) ≡ finds f → (q : ℕ) × Contains (f ∷ h) (Enter r q)
    enters_at (Enter j q) old same e was = (q, subst (λ (i : ℕ). Contains (Enter j q ∷ h) (Enter i q)) (sym same) (Contains-head (Enter j q) h))
    enters_at (Full j q) old same e was = absurd (false≢true e)
    enters_at (Dispatch j q) old same e was = let w = old r (ap (λ (i : ℕ). has_entered (status h i)) same ∙ ap has_entered was) in (w.0, Contains-tail (Dispatch j q) h (Enter r w.0) w.1)
    enters_at (Strike j q) old same e was = let w = old r (ap (λ (i : ℕ). has_entered (status h i)) same ∙ ap has_entered was) in (w.0, Contains-tail (Strike j q) h (Enter r w.0) w.1)

  pub statuses : (h : List Event) → IsLegal hands limit h → AreStatuses h
  statuses h l = record {
    away = λ r. (away_new h r, new_away h l r);
    waits = λ r. (waits_in h l r, λ w. waits h l w.0 r w.1);
    dispatched = λ r. (
      λ is. (let e = event_of h r status_is.Dispatched is (λ x. cc) in by_dispatch h r e.0 e.1 e.2 e.3),
      λ w. final h l (Dispatch r w.0) w.1 (λ x. cc),
    );
    struck = λ r. (
      λ is. (let e = event_of h r status_is.Struck is (λ x. cc) in by_strike h r e.0 e.1 e.2 e.3),
      λ w. final h l (Strike r w.0) w.1 (λ x. cc),
    );
    full = λ r. (
      λ is. (let e = event_of h r status_is.Full is (λ x. cc) in by_full h r e.0 e.1 e.2 e.3),
      λ w. final h l (Full r w.0) w.1 (λ x. cc),
    );
    entered = λ r. (entered_in h l r, λ w. entered_by h l r w.0 w.1);
  }

-- who waits is one of the requests
named : (n : ℕ) (h : List Event) (e : Event) → NamesRequests n h → Contains h e → request_of e < n
named n [] e m c = absurd (Contains-none e c)
named n (f ∷ h) e m c = elim (Contains-cons_cases f h e c) [
  | inl is ↦ subst (λ (g : Event). request_of g < n) is m.0
  | inr there ↦ named n h e m.1 there
]

waits_something : status_is.Waits ≢ status_is.Away
waits_something e = cc

pub waits_named : (hands : ℕ → List ℕ) (limit : ℕ) (h : List Event) → IsLegal hands limit h → (n : ℕ) → NamesRequests n h → (q r : ℕ) → Contains (waiting h q) r → r < n
waits_named hands limit h l n m q r c =
    let e = event_of h r status_is.Waits (waits hands limit h l q r c) waits_something in
    let k = named n h e.0 m e.1 in let same = e.2 in omega arith
