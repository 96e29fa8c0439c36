-- For how many seats the requests of a level ask, as they come and are over, and what the level claims by that.
use Rattle.std.proofs.Common.{◌≡◌, ◌∙◌, ℕ, suc, ◌+◌, ◌-◌, ◌*◌, ◌<◌, ◌≤◌, inl, inr, List, [], ◌∷◌, ◌++◌, length, cond, refl, sym, ap, subst, arith, append_assoc}
use Rattle.std.specs.Prelude.{nat_le}
use Rattle.std.proofs.lemmas.Bool.{le-leb}
use Rattle.std.proofs.lemmas.Bool.Decides.{leb_tells}
use Rattle.std.proofs.lemmas.List.{append-nil}
use Rattle.apf_times.specs.declared.window.Arrival.{Arrival}
use Rattle.apf_traces.specs.declared.request.TraceRequest.{TraceRequest}
use Rattle.apf_stream.specs.declared.ended.Ended.{Ended}
use Rattle.apf_lending.specs.Demands.{Stretch, length_of}
use Rattle.apf_lending.specs.declared.claim.Claim.{Claim}
use Rattle.apf_lender.specs.Periods.{AskFor, AskingView, AsksFor, Claims, EndsPeriod, IsNew}
use Rattle.apf_lender.specs.declared.bounds.Bounds.{Bounds}
use Rattle.apf_cluster.specs.Lending.{Adjustment, AreOver, AsksToo, ClaimsAt, HasClaimed, IsAsked, asked_at, came_by, over_by, period}

abbrev pub Came : Type 0
Came = Arrival TraceRequest

-- ---- sums

in_time : (a time w : ℕ) → a ≤ time → cond (nat_le a time) w 0 ≡ w
in_time a time w low = ap (λ b. cond b w 0) (le-leb a time low)

too_late : (a time w : ℕ) → time < a → cond (nat_le a time) w 0 ≡ 0
too_late a time w low = elim (leb_tells a time) [
  | inl h ↦ let reached = h.1 in absurd (omega (arith, reached, low))
  | inr h ↦ ap (λ b. cond b w 0) h.0
]

came_more : (came : List Came) (x : Came) (time : ℕ) → came_by (came ++ x ∷ []) time ≡ came_by came time + cond (nat_le x.item.arrives_at time) x.item.width 0
came_more [] x time = omega arith
came_more (y ∷ came) x time = let more = came_more came x time in omega (arith, more)

over_more : (told : List Ended) (e : Ended) (time : ℕ) → over_by (told ++ e ∷ []) time ≡ over_by told time + cond (nat_le e.over_at time) e.hold.asked.width 0
over_more [] e time = omega arith
over_more (y ∷ told) e time = let more = over_more told e time in omega (arith, more)

-- ---- claims go by what was asked for before

asks_alike : (f g : ℕ → ℕ) (from at : ℕ) (ss : List Stretch) → from + length_of ss ≤ at → ((time : ℕ) → time < at → g time ≡ f time) → AskFor f from ss → AskFor g from ss
asks_alike f g from at [] low same a = tt
asks_alike f g from at (s ∷ ss) low same a =
    (a.0, (λ time late early. same time (omega (arith, low, early)) ∙ a.1 time late early), asks_alike f g (from + s.micros) at ss (omega (arith, low)) same a.2)

claims_alike : (b : Bounds) (f g : ℕ → ℕ) (began at before lately : ℕ) (claim : Claim) → ((time : ℕ) → time < at → g time ≡ f time) → Claims b f began at before lately claim → Claims b g began at before lately claim
claims_alike b f g began at before lately claim same c =
    let i = c.is in
    record {
      observed = c.observed;
      is = record { stretches = i.stretches; ask = asks_alike f g began at i.stretches (let w = i.whole in omega (arith, w)) same i.ask; whole = i.whole; observed = i.observed };
      smoothed = c.smoothed;
      claims = c.claims;
    }

claimed_alike : (i : ℕ) (b : Bounds) (f g : ℕ → ℕ) (past : List Adjustment) (lately : ℕ) → ((time : ℕ) → time < period * length past → g time ≡ f time) → HasClaimed i b f past lately → HasClaimed i b g past lately
claimed_alike i b f g [] lately same h = h
claimed_alike i b f g (a ∷ past) lately same h = (
  h.0,
  h.1,
  claimed_alike i b f g past h.0 (λ time low. same time (omega (arith, low))) h.2,
  h.3,
  claims_alike b f g (period * length past) (period * suc (length past)) h.0 lately h.1 same h.4,
)

-- ---- a level goes on

-- nobody came yet
pub new_asked : (i : ℕ) (b : Bounds) (v : AskingView) → IsNew b 0 v → IsAsked i b [] [] [] v
new_asked i b v n = record {
  bounds_are = n.same;
  began = n.began;
  follows = n.nobody (asked_at [] []) (λ time late. refl);
  enough = λ time late. omega arith;
  claimed = n.none;
}

-- one came too
pub came_asked : (x : Came) (v v' : AskingView) → AsksFor x.item.arrives_at (v.demand.seats + x.item.width) v v' → AsksToo x v v'
came_asked x v v' a i b past came told h =
    let at = x.item.arrives_at in
    let w = x.item.width in
    let f = asked_at came told in
    let g = asked_at (came ++ x ∷ []) told in
    let before : (time : ℕ) → time < at → g time ≡ f time = λ time low.
    ap (λ (n : ℕ). n - over_by told time) (came_more came x time ∙ ap (λ (n : ℕ). came_by came time + n) (too_late at time w low) ∙ omega arith) in
    let after : (time : ℕ) → at ≤ time → came_by (came ++ x ∷ []) time ≡ came_by came time + w = λ time late.
    came_more came x time ∙ ap (λ (n : ℕ). came_by came time + n) (in_time at time w late) in
    let forward = a.forward in
    let since = a.since in
    let order = h.follows.order in
    let began = h.began in
    record {
      bounds_are = a.bounds ∙ h.bounds_are;
      began = a.began ∙ h.began;
      follows = a.follows f g h.follows before (λ time late.
          let now : f time ≡ v.demand.seats = h.follows.now time (omega (arith, late, forward)) in
          let enough = h.enough time (omega (arith, late, forward)) in
          let more = after time late in
          omega (arith, now, enough, more));
      enough = λ time late.
          let enough = h.enough time (omega (arith, late, since, forward)) in
          let more = after time (omega (arith, late, since)) in
          omega (arith, enough, more);
      claimed = subst (HasClaimed i b g past) (sym a.smoothed) (claimed_alike i b f g past v.smoothed (λ time low. before time (omega (arith, low, began, order, forward))) h.claimed);
    }

-- one is over
pub over_asked : (e : Ended) (v v' : AskingView) → e.hold.asked.width ≤ v.demand.seats → AsksFor e.over_at (v.demand.seats - e.hold.asked.width) v v' → AreOver (e ∷ []) v v'
over_asked e v v' some a i b past came told h =
    let at = e.over_at in
    let w = e.hold.asked.width in
    let f = asked_at came told in
    let g = asked_at came (told ++ e ∷ []) in
    let before : (time : ℕ) → time < at → g time ≡ f time = λ time low.
    ap (λ (n : ℕ). came_by came time - n) (over_more told e time ∙ ap (λ (n : ℕ). over_by told time + n) (too_late at time w low) ∙ omega arith) in
    let after : (time : ℕ) → at ≤ time → over_by (told ++ e ∷ []) time ≡ over_by told time + w = λ time late.
    over_more told e time ∙ ap (λ (n : ℕ). over_by told time + n) (in_time at time w late) in
    let forward = a.forward in
    let since = a.since in
    let order = h.follows.order in
    let began = h.began in
    record {
      bounds_are = a.bounds ∙ h.bounds_are;
      began = a.began ∙ h.began;
      follows = a.follows f g h.follows before (λ time late.
          let now : f time ≡ v.demand.seats = h.follows.now time (omega (arith, late, forward)) in
          let more = after time late in
          omega (arith, now, more));
      enough = λ time late.
          let low : v.demand.since ≤ time = omega (arith, late, since, forward) in
          let enough = h.enough time low in
          let now : f time ≡ v.demand.seats = h.follows.now time low in
          let more = after time (omega (arith, late, since)) in
          omega (arith, enough, now, more, some);
      claimed = subst (HasClaimed i b g past) (sym a.smoothed) (claimed_alike i b f g past v.smoothed (λ time low. before time (omega (arith, low, began, order, forward))) h.claimed);
    }

-- nobody is over
pub none_over : (v : AskingView) → AreOver [] v v
none_over v i b past came told h = subst (λ (l : List Ended). IsAsked i b past came l v) (sym (append-nil told)) h

-- some are over, and one more
pub over_then : (ends : List Ended) (e : Ended) (v mid v' : AskingView) → AreOver ends v mid → AreOver (e ∷ []) mid v' → AreOver (ends ++ e ∷ []) v v'
over_then ends e v mid v' some one i b past came told h =
    subst (λ (l : List Ended). IsAsked i b past came l v') (append_assoc told ends (e ∷ [])) (one i b past came (told ++ ends) (some i b past came told h))

-- a period ends
pub ended_asked : (at : ℕ) (claim : Claim) (v v' : AskingView) → EndsPeriod at v v' claim → ClaimsAt at claim v v'
ended_asked at claim v v' e i b past came told a h is here =
    let f = asked_at came told in
    let claims = e.claims f h.follows in
    record {
      bounds_are = e.bounds ∙ h.bounds_are;
      began = e.began ∙ is;
      follows = e.follows f h.follows;
      enough = λ time late. h.enough time (let s = e.since in let w = e.forward in omega (arith, late, s, w));
      claimed = (
        v.smoothed,
        claim,
        h.claimed,
        here,
        subst (λ (n : ℕ). Claims b f (period * length past) n v.smoothed v'.smoothed claim) is
            (subst (λ (n : ℕ). Claims b f n at v.smoothed v'.smoothed claim) h.began (subst (λ (l : Bounds). Claims l f v.demand.began at v.smoothed v'.smoothed claim) h.bounds_are claims)),
      );
    }
