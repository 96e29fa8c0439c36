-- The seats that were asked for, stretch by stretch.
use Rattle.std.proofs.Common.{◌≡◌, ℕ, zero, suc, ◌+◌, ◌-◌, ◌<◌, ◌≤◌, List, [], ◌∷◌, ◌++◌, sym, ◌∙◌, subst, arith}
use Rattle.apf_lending.specs.Demands.{AreAsked, DemandView, IsObserved, Stretch, length_of, then_asked}
use Rattle.apf_lending.specs.declared.demand.Observed.{Observed}
use Rattle.apf_lender.specs.Periods.{AskFor, AskingView, Follows, IsObservedOf}

-- what is the same before a time
pub asks_alike : (f g : ℕ → ℕ) (from at : ℕ) (ss : List Stretch) → from + length_of ss ≤ at → ((time : ℕ) → time < at → g time ≡ f time) → AskFor f from ss → AskFor g from ss
asks_alike f g from at [] low same a = tt
asks_alike f g from at (s ∷ ss) low same a =
    (a.0, (λ time late early. same time (omega (arith, low, early)) ∙ a.1 time late early), asks_alike f g (from + s.micros) at ss (omega (arith, low)) same a.2)

-- the same seats for so long
ask_more : (f : ℕ → ℕ) (from : ℕ) (ss : List Stretch) (seats n : ℕ) → 1 ≤ n → ((time : ℕ) → from + length_of ss ≤ time → time < from + length_of ss + n → f time ≡ seats) → AskFor f from ss
    → AskFor f from (ss ++ record { seats = seats; micros = n } ∷ [])
ask_more f from [] seats n lasts now a = (lasts, (λ time late early. now time (omega (arith, late)) (omega (arith, early))), tt)
ask_more f from (s ∷ ss) seats n lasts now a =
    (a.0, a.1, ask_more f (from + s.micros) ss seats n lasts (λ time late early. now time (omega (arith, late)) (omega (arith, early))) a.2)

pub ask_then : (f : ℕ → ℕ) (from : ℕ) (ss : List Stretch) (seats n : ℕ) → ((time : ℕ) → from + length_of ss ≤ time → time < from + length_of ss + n → f time ≡ seats) → AskFor f from ss
    → AskFor f from (then_asked ss seats n)
ask_then f from ss seats zero now a = a
ask_then f from ss seats (suc n) now a = ask_more f from ss seats (suc n) (omega arith) now a

length_more : (ss : List Stretch) (s : Stretch) → length_of (ss ++ s ∷ []) ≡ length_of ss + s.micros
length_more [] s = omega arith
length_more (x ∷ ss) s = let more = length_more ss s in omega (arith, more)

pub length_then : (ss : List Stretch) (seats n : ℕ) → length_of (then_asked ss seats n) ≡ length_of ss + n
length_then ss seats zero = omega arith
length_then ss seats (suc n) = length_more ss (record { seats = seats; micros = suc n })

-- what was asked for until this time, and other seats from then on
pub follows_on : (before after : ℕ → ℕ) (at seats : ℕ) (a a' : AskingView) → a.demand.since ≤ at → a'.demand.began ≡ a.demand.began → a'.demand.since ≡ at → a'.demand.seats ≡ seats
    → ((ss : List Stretch) → AreAsked ss a.demand.seats a.demand.since a.demand → AreAsked (then_asked ss a.demand.seats (at - a.demand.since)) seats at a'.demand)
    → Follows before a → ((time : ℕ) → time < at → after time ≡ before time) → ((time : ℕ) → at ≤ time → after time ≡ seats) → Follows after a'
follows_on before after at seats a a' forward began since seats_are changes f same now =
    let ss = f.stretches in
    let whole : a.demand.began + length_of ss ≡ a.demand.since = let w = f.asked.whole in let o = f.order in omega (arith, w, o) in
    let asked = changes ss f.asked in
    record {
      order = let o = f.order in omega (arith, o, forward, began, since);
      stretches = then_asked ss a.demand.seats (at - a.demand.since);
      asked = subst (λ (n : ℕ). AreAsked (then_asked ss a.demand.seats (at - a.demand.since)) n a'.demand.since a'.demand) (sym seats_are)
          (subst (λ (n : ℕ). AreAsked (then_asked ss a.demand.seats (at - a.demand.since)) seats n a'.demand) (sym since) asked);
      before = subst (λ (n : ℕ). AskFor after n (then_asked ss a.demand.seats (at - a.demand.since))) (sym began)
          (ask_then after a.demand.began ss a.demand.seats (at - a.demand.since)
          (λ time late early. same time (omega (arith, early, whole, forward)) ∙ f.now time (omega (arith, late, whole)))
          (asks_alike before after a.demand.began at ss (omega (arith, whole, forward)) same f.before));
      now = λ time late. now time (omega (arith, late, since)) ∙ sym seats_are;
    }

-- what was observed until this time
pub observed_of : (f : ℕ → ℕ) (at : ℕ) (a : AskingView) (d : DemandView) (o : Observed) → a.demand.since ≤ at
    → ((ss : List Stretch) → AreAsked ss a.demand.seats a.demand.since a.demand → AreAsked (then_asked ss a.demand.seats (at - a.demand.since)) a.demand.seats at d)
    → d.since ≡ at → d.seats ≡ a.demand.seats → ((ss : List Stretch) → AreAsked ss d.seats d.since d → IsObserved ss o) → Follows f a → IsObservedOf f a.demand.began at o
observed_of f at a d o forward changes since seats observed follows =
    let ss = follows.stretches in
    let more = then_asked ss a.demand.seats (at - a.demand.since) in
    let whole : a.demand.began + length_of ss ≡ a.demand.since = let w = follows.asked.whole in let o = follows.order in omega (arith, w, o) in
    let asked : AreAsked more a.demand.seats at d = changes ss follows.asked in
    record {
      stretches = more;
      ask = ask_then f a.demand.began ss a.demand.seats (at - a.demand.since) (λ time late early. follows.now time (omega (arith, late, whole))) follows.before;
      whole = let l = length_then ss a.demand.seats (at - a.demand.since) in omega (arith, l, whole, forward);
      observed = observed more (subst (λ (n : ℕ). AreAsked more n d.since d) (sym seats) (subst (λ (n : ℕ). AreAsked more a.demand.seats n d) (sym since) asked));
    }

-- the next period begins with the same seats
pub begins : (f : ℕ → ℕ) (at : ℕ) (a a' : AskingView) → a.demand.since ≤ at → a'.demand.began ≡ at → a'.demand.since ≡ at → a'.demand.seats ≡ a.demand.seats
    → AreAsked [] a.demand.seats at a'.demand → Follows f a → Follows f a'
begins f at a a' forward began since seats asked follows = record {
  order = omega (arith, began, since);
  stretches = [];
  asked = subst (λ (n : ℕ). AreAsked [] n a'.demand.since a'.demand) (sym seats) (subst (λ (n : ℕ). AreAsked [] a.demand.seats n a'.demand) (sym since) asked);
  before = tt;
  now = λ time late. follows.now time (omega (arith, late, since, forward)) ∙ sym seats;
}
