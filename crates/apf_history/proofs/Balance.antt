-- No queue is served much more than one that is never empty.
use Rattle.std.proofs.Common.{◌≡◌, ◌≢◌, ℕ, zero, suc, ◌+◌, ◌*◌, ◌<◌, ◌≤◌, ◌⊎◌, inl, inr, Bool, cond, List, [], ◌∷◌, ◌++◌, length, refl, sym, ap, ◌∙◌, arith}
use Rattle.std.specs.Prelude.{max, slice_index}
use Rattle.std.proofs.lemmas.Bool.{cases_eq, eq-eqb, ne_eqb}
use Rattle.apf_history.specs.declared.events.Event.{Event}
use Rattle.apf_history.specs.declared.events.Event.TheVariants.{Enter, Full, Dispatch, Strike}
use Rattle.apf_history.specs.Numbered.{put, width}
use Rattle.apf_history.specs.History.{waiting}
use Rattle.apf_history.specs.Fair.{Numbers, after_enter, numbers, DispatchesChoices, IsFair, service, IsNeverEmpty, widest, DifferAtMost}
use Rattle.apf_history.proofs.Sums.{put_here, put_else}
use Rattle.apf_history.proofs.Lists.{without, first_split}
use Rattle.apf_history.proofs.Waiting.{IsLegal-append, waiting_else, waiting_dispatch, waiting_strike}

-- no width is above the widest
pub width-le-widest : (widths : List ℕ) (r : ℕ) → width widths r ≤ widest widths
width-le-widest [] r = omega arith
width-le-widest (k ∷ ks) zero = omega arith
width-le-widest (k ∷ ks) (suc r) = let old = width-le-widest ks r in omega arith

choices_rest : (queues : ℕ) (widths : List ℕ) (e : Event) (h : List Event) → DispatchesChoices queues widths (e ∷ h) → DispatchesChoices queues widths h
choices_rest queues widths (Enter r q) h d = d
choices_rest queues widths (Full r q) h d = d
choices_rest queues widths (Dispatch r q) h d = d.1
choices_rest queues widths (Strike r q) h d = d

choices_append : (queues : ℕ) (widths : List ℕ) (later earlier : List Event) → DispatchesChoices queues widths (later ++ earlier) → DispatchesChoices queues widths earlier
choices_append queues widths [] earlier d = d
choices_append queues widths (e ∷ later) earlier d = choices_append queues widths later earlier (choices_rest queues widths e (later ++ earlier) d)

-- each beginning of a fair history is fair
pub IsFair-append : (queues : ℕ) (widths : List ℕ) (hands : ℕ → List ℕ) (limit : ℕ) (later earlier : List Event) → IsFair queues widths hands limit (later ++ earlier) → IsFair queues widths hands limit earlier
IsFair-append queues widths hands limit later earlier f = (IsLegal-append hands limit later earlier f.0, choices_append queues widths later earlier f.1)

-- the numbers of a history keep within one width of one another, where someone waits
record AreNear (queues most : ℕ) (queue : ℕ → List ℕ) (v : Numbers) : Type 0 where
  -- no queue's next is far above that of a queue that is not empty
  next : (x p : ℕ) → p < queues → queue p ≢ [] → v.next x ≤ v.next p + most
  -- nor is the level's virtual time
  time : (p : ℕ) → p < queues → queue p ≢ [] → v.virtual_time ≤ v.next p + most
  -- and no queue's next is far above the level's virtual time
  ahead : (x : ℕ) → v.next x ≤ v.virtual_time + most

module _ (queues most : ℕ) (queue after : ℕ → List ℕ) (v : Numbers) (near : AreNear queues most queue v) where
  -- nobody comes to wait where nobody waited
  fewer : ((p : ℕ) → after p ≢ [] → queue p ≢ []) → AreNear queues most after v
  fewer was = record { next = λ x p l ne. near.next x p l (was p ne); time = λ p l ne. near.time p l (was p ne); ahead = near.ahead }

  -- the numbers after an Enter into q
  entered_near : (q : ℕ) → ((p : ℕ) → p ≢ q → after p ≡ queue p) → (ws : List ℕ) → queue q ≡ ws → AreNear queues most after (after_enter q ws v)
  entered_near q others (w ∷ ws) is = fewer (λ p ne. elim (cases_eq p q) [
    | inl same ↦ λ none. some w ws (sym is ∙ (ap queue (sym same) ∙ none))
    | inr other ↦ λ none. ne (others p other ∙ none)
  ]) where
    some : (y : ℕ) (ys : List ℕ) → (y ∷ ys) ≡ [] → ⊥
    some y ys e = cc
  entered_near q others [] is =
      let from : ℕ = max (v.next q) v.virtual_time in
      let here : put v.next q from q ≡ from = put_here v.next q from in
      let else : (x : ℕ) → x ≢ q → put v.next q from x ≡ v.next x = λ x ne. put_else v.next q from x ne in
      let at : (x : ℕ) → x ≡ q → put v.next q from x ≡ from = λ x same. ap (put v.next q from) same ∙ here in
      let old : (p : ℕ) → p ≢ q → after p ≢ [] → queue p ≢ [] = λ p other ne none. ne (others p other ∙ none) in
      record {
        next = λ x p l ne. elim (cases_eq p q) [
          | inl same ↦ elim (cases_eq x q) [
            | inl s ↦ (let a = at p same in let b = at x s in omega arith)
            | inr o ↦ (let a = at p same in let b = else x o in let k = near.ahead x in omega arith)
          ]
          | inr other ↦ elim (cases_eq x q) [
            | inl s ↦ (let a = else p other in let b = at x s in let k = near.next q p l (old p other ne) in let t = near.time p l (old p other ne) in omega arith)
            | inr o ↦ (let a = else p other in let b = else x o in let k = near.next x p l (old p other ne) in omega arith)
          ]
        ];
        time = λ p l ne. elim (cases_eq p q) [
          | inl same ↦ (let a = at p same in omega arith)
          | inr other ↦ (let a = else p other in let t = near.time p l (old p other ne) in omega arith)
        ];
        ahead = λ x. elim (cases_eq x q) [
          | inl s ↦ (let b = at x s in let k = near.ahead q in omega arith)
          | inr o ↦ (let b = else x o in let k = near.ahead x in omega arith)
        ];
      }

  -- the numbers after a Dispatch from q of a request of this width: the finish of q is not far above any next
  dispatched_near : (q k : ℕ) → k ≤ most → ((p : ℕ) → p < queues → queue p ≢ [] → v.next q + k ≤ v.next p + most) → ((p : ℕ) → after p ≢ [] → queue p ≢ [])
      → AreNear queues most after (record { next = put v.next q (v.next q + k); virtual_time = max v.virtual_time (v.next q); robin = q })
  dispatched_near q k narrow least was =
      let to : ℕ = v.next q + k in
      let here : put v.next q to q ≡ to = put_here v.next q to in
      let else : (x : ℕ) → x ≢ q → put v.next q to x ≡ v.next x = λ x ne. put_else v.next q to x ne in
      let at : (x : ℕ) → x ≡ q → put v.next q to x ≡ to = λ x same. ap (put v.next q to) same ∙ here in
      record {
        next = λ x p l ne. elim (cases_eq p q) [
          | inl same ↦ elim (cases_eq x q) [
            | inl s ↦ (let a = at p same in let b = at x s in omega arith)
            | inr o ↦ (let a = at p same in let b = else x o in let e = ap v.next same in let m = near.next x p l (was p ne) in omega arith)
          ]
          | inr other ↦ elim (cases_eq x q) [
            | inl s ↦ (let a = else p other in let b = at x s in let m = least p l (was p ne) in omega arith)
            | inr o ↦ (let a = else p other in let b = else x o in let m = near.next x p l (was p ne) in omega arith)
          ]
        ];
        time = λ p l ne. elim (cases_eq p q) [
          | inl same ↦ (let a = at p same in let e = ap v.next same in let t = near.time p l (was p ne) in omega arith)
          | inr other ↦ (let a = else p other in let t = near.time p l (was p ne) in let m = near.next q p l (was p ne) in omega arith)
        ];
        ahead = λ x. elim (cases_eq x q) [
          | inl s ↦ (let b = at x s in omega arith)
          | inr o ↦ (let b = else x o in let m = near.ahead x in omega arith)
        ];
      }

-- who waits after a dispatch or a strike waited before
pub was_dispatch : (h : List Event) (j p q : ℕ) → waiting (Dispatch j p ∷ h) q ≢ [] → waiting h q ≢ []
was_dispatch h j p q ne none = ne (waiting_dispatch h j p q ∙ ap (without j) none)

pub was_strike : (h : List Event) (j p q : ℕ) → waiting (Strike j p ∷ h) q ≢ [] → waiting h q ≢ []
was_strike h j p q ne none = ne (waiting_strike h j p q ∙ ap (without j) none)

-- the numbers of every fair history
near : (queues : ℕ) (widths : List ℕ) (hands : ℕ → List ℕ) (limit : ℕ) (h : List Event) → IsFair queues widths hands limit h → AreNear queues (widest widths) (waiting h) (numbers queues widths h)
near queues widths hands limit [] f = record { next = λ x p l ne. omega arith; time = λ p l ne. omega arith; ahead = λ x. omega arith }
near queues widths hands limit (Enter r q ∷ h) f =
    entered_near queues (widest widths) (waiting h) (waiting (Enter r q ∷ h)) (numbers queues widths h) (near queues widths hands limit h (f.0.1, f.1))
    q (λ p other. waiting_else h r q p (λ x. other (sym x))) (waiting h q) refl
near queues widths hands limit (Full r q ∷ h) f = near queues widths hands limit h (f.0.1, f.1)
near queues widths hands limit (Strike r q ∷ h) f =
    fewer queues (widest widths) (waiting h) (waiting (Strike r q ∷ h)) (numbers queues widths h) (near queues widths hands limit h (f.0.1, f.1)) (was_strike h r q)
near queues widths hands limit (Dispatch r q ∷ h) f =
    let first : slice_index (waiting h q) 0 ≡ r = ap (λ (xs : List ℕ). slice_index xs 0) (first_split (waiting h q) r f.0.0) in
    let wide : width widths (slice_index (waiting h q) 0) ≡ width widths r = ap (width widths) first in
    dispatched_near queues (widest widths) (waiting h) (waiting (Dispatch r q ∷ h)) (numbers queues widths h) (near queues widths hands limit h (f.0.1, f.1.1))
    q (width widths r) (width-le-widest widths r)
    (λ p l ne. (let least = f.1.0.has_least_finish p l ne in let k = width-le-widest widths (slice_index (waiting h p) 0) in omega arith))
    (was_dispatch h r q)

-- a queue that is entered while someone waits in it keeps its next
next_enter : (v : Numbers) (p q : ℕ) (ws : List ℕ) → (p ≡ q → ws ≢ []) → (after_enter p ws v).next q ≡ v.next q
next_enter v p q (w ∷ ws) some = refl
next_enter v p q [] some = put_else v.next p (max (v.next p) v.virtual_time) q (λ e. some (sym e) refl)

-- over a stretch in which q is never empty, its next grows by its service
grows : (queues : ℕ) (widths : List ℕ) (q : ℕ) (stretch h : List Event) → IsNeverEmpty (stretch ++ h) (length stretch) q
    → (numbers queues widths (stretch ++ h)).next q ≡ (numbers queues widths h).next q + service widths stretch q
grows queues widths q [] h never = omega arith
grows queues widths q (Enter r p ∷ stretch) h never =
    let old = grows queues widths q stretch h (λ k l. never (suc k) (omega arith)) in
    let same = next_enter (numbers queues widths (stretch ++ h)) p q (waiting (stretch ++ h) p) (λ e none. never 1 (omega arith) (ap (waiting (stretch ++ h)) (sym e) ∙ none)) in
    same ∙ old
grows queues widths q (Full r p ∷ stretch) h never = grows queues widths q stretch h (λ k l. never (suc k) (omega arith))
grows queues widths q (Strike r p ∷ stretch) h never = grows queues widths q stretch h (λ k l. never (suc k) (omega arith))
grows queues widths q (Dispatch r p ∷ stretch) h never =
    let v = numbers queues widths (stretch ++ h) in
    let old = grows queues widths q stretch h (λ k l. never (suc k) (omega arith)) in
    elim (cases_eq p q) [
      | inl same ↦
          (let n : put v.next p (v.next p + width widths r) q ≡ v.next p + width widths r = ap (put v.next p (v.next p + width widths r)) (sym same) ∙ put_here v.next p (v.next p + width widths r) in
          let e : v.next p ≡ v.next q = ap v.next same in
          let s : service widths (Dispatch r p ∷ stretch) q ≡ service widths stretch q + width widths r = ap (λ (b : Bool). cond b (service widths stretch q + width widths r) (service widths stretch q)) (eq-eqb p q same) in
          omega arith)
      | inr ne ↦
          (let n : put v.next p (v.next p + width widths r) q ≡ v.next q = put_else v.next p (v.next p + width widths r) q (λ x. ne (sym x)) in
          let s : service widths (Dispatch r p ∷ stretch) q ≡ service widths stretch q = ap (λ (b : Bool). cond b (service widths stretch q + width widths r) (service widths stretch q)) (ne_eqb p q ne) in
          omega arith)
    ]

-- a list is empty or is not
pub is_empty : (xs : List ℕ) → (xs ≡ []) ⊎ (xs ≢ [])
is_empty [] = inl refl
is_empty (x ∷ xs) = inr (λ e. cc)

pub still_empty : (xs : List ℕ) → ¬ (xs ≢ []) → xs ≡ []
still_empty [] never = refl
still_empty (x ∷ xs) never = absurd (never (λ e. cc))

pub time_enter : (v : Numbers) (p : ℕ) (ws : List ℕ) → (after_enter p ws v).virtual_time ≡ v.virtual_time
time_enter v p [] = refl
time_enter v p (w ∷ ws) = refl

-- an Enter takes no queue's next back
pub next_enter_least : (v : Numbers) (p b : ℕ) (ws : List ℕ) → v.next b ≤ (after_enter p ws v).next b
next_enter_least v p b (w ∷ ws) = omega arith
next_enter_least v p b [] = elim (cases_eq b p) [
  | inl same ↦ (let e = ap v.next same in let n : put v.next p (max (v.next p) v.virtual_time) b ≡ max (v.next p) v.virtual_time = ap (put v.next p (max (v.next p) v.virtual_time)) same ∙ put_here v.next p (max (v.next p) v.virtual_time) in omega arith)
  | inr other ↦ (let n : put v.next p (max (v.next p) v.virtual_time) b ≡ v.next b = put_else v.next p (max (v.next p) v.virtual_time) b other in omega arith)
]

-- a queue that stops being empty starts no earlier than the level's virtual time
pub next_entered : (v : Numbers) (p b : ℕ) (ws : List ℕ) → p ≡ b → ws ≡ [] → v.virtual_time ≤ (after_enter p ws v).next b
next_entered v p b (w ∷ ws) same none = absurd (cons_some w ws none) where
  cons_some : (y : ℕ) (ys : List ℕ) → (y ∷ ys) ≡ [] → ⊥
  cons_some y ys e = cc
next_entered v p b [] same none = (let n : put v.next p (max (v.next p) v.virtual_time) b ≡ max (v.next p) v.virtual_time = ap (put v.next p (max (v.next p) v.virtual_time)) (sym same) ∙ put_here v.next p (max (v.next p) v.virtual_time) in omega arith)

-- over a stretch the level's virtual time does not go back
time_grows : (queues : ℕ) (widths : List ℕ) (stretch h : List Event) → (numbers queues widths h).virtual_time ≤ (numbers queues widths (stretch ++ h)).virtual_time
time_grows queues widths [] h = omega arith
time_grows queues widths (Enter r p ∷ stretch) h = let old = time_grows queues widths stretch h in let same = time_enter (numbers queues widths (stretch ++ h)) p (waiting (stretch ++ h) p) in omega arith
time_grows queues widths (Full r p ∷ stretch) h = time_grows queues widths stretch h
time_grows queues widths (Strike r p ∷ stretch) h = time_grows queues widths stretch h
time_grows queues widths (Dispatch r p ∷ stretch) h = let old = time_grows queues widths stretch h in omega arith

-- a number that every queue that is not empty and the level's virtual time have almost reached when a stretch begins: what a queue is served
-- in the stretch brings its next past that number, or it was not served and is empty
abbrev Reached : (queues : ℕ) (widths : List ℕ) (from most : ℕ) (b : ℕ) (stretch h : List Event) → Type 0
Reached queues widths from most b stretch h =
    ((service widths stretch b ≡ 0) × (waiting (stretch ++ h) b ≡ []))
    ⊎ (service widths stretch b + from ≤ (numbers queues widths (stretch ++ h)).next b + most)

reached : (queues : ℕ) (widths : List ℕ) (from most b : ℕ) (stretch h : List Event)
    → DispatchesChoices queues widths (stretch ++ h)
    → (waiting h b ≢ [] → from ≤ (numbers queues widths h).next b + most)
    → from ≤ (numbers queues widths h).virtual_time + most
    → Reached queues widths from most b stretch h
reached queues widths from most b [] h d waits time = elim (is_empty (waiting h b)) [
  | inl none ↦ inl (refl, none)
  | inr some ↦ (let w = waits some in inr (omega arith))
]
reached queues widths from most b (Enter r p ∷ stretch) h d waits time =
    let old = reached queues widths from most b stretch h d waits time in
    let grown = time_grows queues widths stretch h in
    let v = numbers queues widths (stretch ++ h) in
    elim (cases_eq p b) [
      | inl same ↦ elim old [
        | inl none ↦ (let here = next_entered v p b (waiting (stretch ++ h) p) same (ap (waiting (stretch ++ h)) same ∙ none.1) in let zero_is = none.0 in inr (omega arith))
        | inr high ↦ (let here = next_enter_least v p b (waiting (stretch ++ h) p) in inr (omega arith))
      ]
      | inr other ↦ elim old [
        | inl none ↦ inl (none.0, waiting_else (stretch ++ h) r p b other ∙ none.1)
        | inr high ↦ (let here = next_enter_least v p b (waiting (stretch ++ h) p) in inr (omega arith))
      ]
    ]
reached queues widths from most b (Full r p ∷ stretch) h d waits time = reached queues widths from most b stretch h d waits time
reached queues widths from most b (Strike r p ∷ stretch) h d waits time = elim (reached queues widths from most b stretch h d waits time) [
  | inl none ↦ inl (none.0, still_empty (waiting (Strike r p ∷ (stretch ++ h)) b) (λ some. was_strike (stretch ++ h) r p b some none.1))
  | inr high ↦ inr high
]
reached queues widths from most b (Dispatch r p ∷ stretch) h d waits time =
    let old = reached queues widths from most b stretch h d.1 waits time in
    let v = numbers queues widths (stretch ++ h) in
    elim (cases_eq p b) [
      | inl same ↦ elim old [
        | inl none ↦ absurd (d.0.is_waited_in (ap (waiting (stretch ++ h)) same ∙ none.1))
        | inr high ↦
            (let n : put v.next p (v.next p + width widths r) b ≡ v.next p + width widths r = ap (put v.next p (v.next p + width widths r)) (sym same) ∙ put_here v.next p (v.next p + width widths r) in
            let e : v.next p ≡ v.next b = ap v.next same in
            let s : service widths (Dispatch r p ∷ stretch) b ≡ service widths stretch b + width widths r = ap (λ (y : Bool). cond y (service widths stretch b + width widths r) (service widths stretch b)) (eq-eqb p b same) in
            inr (omega arith))
      ]
      | inr ne ↦
          (let n : put v.next p (v.next p + width widths r) b ≡ v.next b = put_else v.next p (v.next p + width widths r) b (λ x. ne (sym x)) in
          let s : service widths (Dispatch r p ∷ stretch) b ≡ service widths stretch b = ap (λ (y : Bool). cond y (service widths stretch b + width widths r) (service widths stretch b)) (ne_eqb p b ne) in
          elim old [
            | inl none ↦ inl (s ∙ none.0, still_empty (waiting (Dispatch r p ∷ (stretch ++ h)) b) (λ some. was_dispatch (stretch ++ h) r p b some none.1))
            | inr high ↦ inr (omega arith)
          ])
    ]

-- while q is never empty, no queue is served more than q and twice the largest width
pub isolated : (queues : ℕ) (widths : List ℕ) (hands : ℕ → List ℕ) (limit : ℕ) (later stretch earlier : List Event) (q other : ℕ)
    → IsFair queues widths hands limit (later ++ (stretch ++ earlier)) → q < queues → other < queues
    → IsNeverEmpty (stretch ++ earlier) (length stretch) q
    → service widths stretch other ≤ service widths stretch q + 2 * widest widths
isolated queues widths hands limit later stretch earlier q other f lq lo never =
    let fair = IsFair-append queues widths hands limit later (stretch ++ earlier) f in
    let end = near queues widths hands limit (stretch ++ earlier) fair in
    let start = near queues widths hands limit earlier (IsFair-append queues widths hands limit stretch earlier fair) in
    let g = grows queues widths q stretch earlier never in
    let e = end.next other q lq (never 0 (omega arith)) in
    elim (reached queues widths ((numbers queues widths earlier).next q) (widest widths) other stretch earlier fair.1 (λ some. start.next q other lo some) (start.ahead q)) [
      | inl none ↦ (let z = none.0 in omega arith)
      | inr high ↦ omega arith
    ]

-- so two queues that are never empty are served alike
pub balanced : (queues : ℕ) (widths : List ℕ) (hands : ℕ → List ℕ) (limit : ℕ) (later stretch earlier : List Event) (a b : ℕ)
    → IsFair queues widths hands limit (later ++ (stretch ++ earlier)) → a < queues → b < queues
    → IsNeverEmpty (stretch ++ earlier) (length stretch) a → IsNeverEmpty (stretch ++ earlier) (length stretch) b
    → DifferAtMost (2 * widest widths) (service widths stretch a) (service widths stretch b)
balanced queues widths hands limit later stretch earlier a b fair la lb na nb = (
  isolated queues widths hands limit later stretch earlier b a fair lb la nb,
  isolated queues widths hands limit later stretch earlier a b fair la lb na,
)
