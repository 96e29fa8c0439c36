-- The standings of all flows, by one request more.
use Rattle.std.proofs.Common.{◌≡◌, ◌≢◌, ℕ, ◌+◌, ◌*◌, ◌-◌, ◌^◌, ◌<◌, ◌≤◌, inl, inr, List, [], ◌∷◌, length, get_or, set, map, refl, sym, ap, ◌∙◌, subst, arith, eq-eqb, ne_eqb}
use Rattle.std.specs.Prelude.{Bool, true, false, None, ◌==◌, All, count_by, cond}
use Rattle.std.specs.List.{range_with_len}
use Rattle.std.proofs.lemmas.Bool.{cases_eq}
use Rattle.std.proofs.lemmas.List.{ext_get_or, length-set, get_or-set_same, get_or-set_other}
use Rattle.std.proofs.lemmas.List.FromFn.{get_or-map-range_with_len, length-map-range_with_len}
use Rattle.std.proofs.lemmas.List.Sums.{sum_by-cons}
use Rattle.apf_picture.specs.declared.rank.Standing.{Standing}
use Rattle.apf_picture.specs.declared.scene.Outcome.{Outcome}
use Rattle.apf_words.specs.declared.decision.Decision.TheVariants.{Execute}
use Rattle.apf_picture.specs.Ranks.{IsOfSome, count_of, wait_if, waited_by, standing_of, standings_of}

abbrev pub none_standing : Standing
none_standing = record { flow = 0; waited = 0; requests = 0 }

pub length-standings : (outcomes : List Outcome) (of : List ℕ) (flows : ℕ) → length (standings_of outcomes of flows) ≡ flows
length-standings outcomes of flows = length-map-range_with_len (standing_of outcomes of) 0 flows

-- the standing of the request's own flow, and of another one
own : (o : Outcome) (os : List Outcome) (f flow : ℕ) (fs : List ℕ) → flow ≡ f
    → standing_of (o ∷ os) (f ∷ fs) flow ≡ record { flow = flow; waited = waited_by os fs flow + o.wait; requests = count_of fs flow + 1 }
own o os f flow fs same =
    let e : (f == flow) ≡ true = eq-eqb f flow (sym same) in
    let p : wait_if (f == flow) o + waited_by os fs flow ≡ waited_by os fs flow + o.wait = (let h = ap (λ (b : Bool). wait_if b o) e in omega arith) in
    let q : count_of (f ∷ fs) flow ≡ count_of fs flow + 1 = (let s = sum_by-cons (λ (x : ℕ). cond (x == flow) 1 0) f fs in let h : cond {A = ℕ} (f == flow) 1 0 ≡ 1 = ap (λ (b : Bool). cond {A = ℕ} b 1 0) e in omega arith) in
    λ i. record { flow = flow; waited = p i; requests = q i }

other : (o : Outcome) (os : List Outcome) (f flow : ℕ) (fs : List ℕ) → flow ≢ f → standing_of (o ∷ os) (f ∷ fs) flow ≡ standing_of os fs flow
other o os f flow fs ne =
    let e : (f == flow) ≡ false = ne_eqb f flow (λ z. ne (sym z)) in
    let p : wait_if (f == flow) o + waited_by os fs flow ≡ waited_by os fs flow = (let h = ap (λ (b : Bool). wait_if b o) e in omega arith) in
    let q : count_of (f ∷ fs) flow ≡ count_of fs flow = (let s = sum_by-cons (λ (x : ℕ). cond (x == flow) 1 0) f fs in let h : cond {A = ℕ} (f == flow) 1 0 ≡ 0 = ap (λ (b : Bool). cond {A = ℕ} b 1 0) e in omega arith) in
    λ i. record { flow = flow; waited = p i; requests = q i }

module _ (o : Outcome) (os : List Outcome) (f : ℕ) (fs : List ℕ) (flows : ℕ) where
  at : (os' : List Outcome) (fs' : List ℕ) (i : ℕ) → i < flows → get_or (standings_of os' fs' flows) i none_standing ≡ standing_of os' fs' i
  at os' fs' i low = get_or-map-range_with_len (standing_of os' fs') 0 flows i i none_standing low (omega arith)

  -- the request's flow is one of these
  pub counted_here : f < flows → (s : Standing) → s ≡ standing_of os fs f
      → set (standings_of os fs flows) f (record { flow = s.flow; waited = s.waited + o.wait; requests = s.requests + 1 }) ≡ standings_of (o ∷ os) (f ∷ fs) flows
  counted_here inside s is =
      let was = standings_of os fs flows in
      let now : Standing = record { flow = s.flow; waited = s.waited + o.wait; requests = s.requests + 1 } in
      let long = length-standings os fs flows in
      let more : now ≡ standing_of (o ∷ os) (f ∷ fs) f = ap (λ (x : Standing). record { flow = x.flow; waited = x.waited + o.wait; requests = x.requests + 1 }) is ∙ sym (own o os f f fs refl) in
      ext_get_or none_standing (set was f now) (standings_of (o ∷ os) (f ∷ fs) flows) (length-set was f now ∙ (long ∙ sym (length-standings (o ∷ os) (f ∷ fs) flows)))
      (λ i low.
      let here : i < flows = subst (λ (n : ℕ). i < n) (length-set was f now ∙ long) low in
      sym (at (o ∷ os) (f ∷ fs) i here ∙ sym (elim (cases_eq i f) [
        | inl e ↦
            subst (λ (j : ℕ). get_or (set was f now) j none_standing ≡ standing_of (o ∷ os) (f ∷ fs) j) (sym e)
            (get_or-set_same was f now none_standing (subst (λ (n : ℕ). f < n) (sym long) inside) ∙ more)
        | inr ne ↦ get_or-set_other was f i now none_standing ne ∙ (at os fs i here ∙ sym (other o os f i fs ne))
      ])))

  -- it is none of these
  pub counted_past : flows ≤ f → standings_of os fs flows ≡ standings_of (o ∷ os) (f ∷ fs) flows
  counted_past past =
      ext_get_or none_standing (standings_of os fs flows) (standings_of (o ∷ os) (f ∷ fs) flows) (length-standings os fs flows ∙ sym (length-standings (o ∷ os) (f ∷ fs) flows))
      (λ i low.
      let here : i < flows = subst (λ (n : ℕ). i < n) (length-standings os fs flows) low in
      at os fs i here ∙ (sym (other o os f i fs (λ e. absurd (omega (arith, here, past, e)))) ∙ sym (at (o ∷ os) (f ∷ fs) i here)))

-- each standing has its flow's number
pub known : (os : List Outcome) (fs : List ℕ) (flows : ℕ) → All (λ (s : Standing). s.flow < flows) (standings_of os fs flows)
known os fs flows i d low =
    let here : i < flows = subst (λ (n : ℕ). i < n) (length-standings os fs flows) low in
    subst (λ (s : Standing). s.flow < flows) (sym (get_or-map-range_with_len (standing_of os fs) 0 flows i i d here (omega arith))) here

-- none was counted yet
pub none_yet : (flows : ℕ) → All (IsOfSome 0) (standings_of [] [] flows)
none_yet flows i d low =
    let here : i < flows = subst (λ (n : ℕ). i < n) (length-standings [] [] flows) low in
    subst (λ (s : Standing). IsOfSome 0 s) (sym (get_or-map-range_with_len (standing_of [] []) 0 flows i i d here (omega arith))) (omega arith, omega arith)

abbrev pub no_outcome : Outcome
no_outcome = record { decision = Execute; wait = 0; queue = None }
