-- What the queues of a settled log take while a request waits.
use Rattle.std.proofs.Common.{◌≡◌, ℕ, zero, suc, ◌+◌, ◌*◌, ◌<◌, ◌≤◌, true, List, [], ◌∷◌, ◌++◌, length, eqb, refl, sym, ap, ◌∙◌, subst, arith}
use Rattle.std.specs.Prelude.{Contains}
use Rattle.std.proofs.lemmas.Bool.{eq-eqb, or_left}
use Rattle.apf_history.specs.declared.events.Event.{Event}
use Rattle.apf_history.specs.declared.events.Event.TheVariants.{Enter}
use Rattle.apf_history.specs.declared.events.LogEntry.{LogEntry}
use Rattle.apf_history.specs.declared.events.LogEntry.TheVariants.{Happens, Spends, Settles}
use Rattle.apf_history.specs.Numbered.{width}
use Rattle.apf_history.specs.History.{has_arrived, waiting, IsLegal}
use Rattle.apf_history.specs.Fair.{widest}
use Rattle.apf_history.specs.Waits.{total_time}
use Rattle.apf_history.specs.Charged.{events, seat_time, IsSettled, AreMeasures, AreJudged, IsNeverEmptyIn, HaveSeats, SpendsWithin}
use Rattle.apf_history.proofs.Lists.{Contains-none}
use Rattle.apf_history.proofs.Waits.{arrived_later, waited, own_of, seat_time_is}
use Rattle.apf_history.proofs.Settled.{isolated, isolated_by_seats}

events_append : (stretch l : List LogEntry) → events (stretch ++ l) ≡ events stretch ++ events l
events_append [] l = refl
events_append (Happens e ∷ stretch) l = ap (λ h. e ∷ h) (events_append stretch l)
events_append (Spends j p old new ∷ stretch) l = events_append stretch l
events_append (Settles j p old new ∷ stretch) l = events_append stretch l

module _ (hands : ℕ → List ℕ) (limit q r : ℕ) (l : List LogEntry) (arrived : has_arrived (events l) r ≡ true) where
  -- who arrived has arrived ever after
  still : (stretch : List LogEntry) → has_arrived (events (stretch ++ l)) r ≡ true
  still stretch = subst (λ (h : List Event). has_arrived h r ≡ true) (sym (events_append stretch l)) (arrived_later (events stretch) (events l) r arrived)

  -- while a request waits, its queue is never empty
  never : (stretch : List LogEntry) → IsLegal hands limit (events (stretch ++ l)) → Contains (waiting (events (stretch ++ l)) q) r → IsNeverEmptyIn (stretch ++ l) (length stretch) q
  never stretch legal c zero low = λ none. Contains-none r (subst (λ (xs : List ℕ). Contains xs r) none c)
  never [] legal c (suc k) low = absurd (omega arith)
  never (Happens e ∷ stretch) legal c (suc k) low = never stretch legal.1 (waited hands limit (events (stretch ++ l)) legal.1 e legal.0 q r (still stretch) c) k (omega arith)
  never (Spends j p old new ∷ stretch) legal c (suc k) low = never stretch legal c k (omega arith)
  never (Settles j p old new ∷ stretch) legal c (suc k) low = never stretch legal c k (omega arith)

module _ (queues : ℕ) (costs : List ℕ) (measure : ℕ → ℕ) (hands : ℕ → List ℕ) (limit : ℕ) (stretch earlier : List LogEntry) (q r : ℕ)
    (settled : IsSettled queues costs hands limit (stretch ++ Happens (Enter r q) ∷ earlier)) (waits : Contains (waiting (events (stretch ++ Happens (Enter r q) ∷ earlier)) q) r) where
  abbrev l : List LogEntry
  l = Happens (Enter r q) ∷ earlier

  arrived : has_arrived (events l) r ≡ true
  arrived = or_left (eqb r r) (has_arrived (events earlier) r) (eq-eqb r r refl)

  -- the requests of its own queue take at most what those take that stood before it
  own : seat_time measure stretch q ≤ total_time measure (waiting (events earlier) q)
  own =
      let legal = subst (IsLegal hands limit) (events_append stretch l) settled.0 in
      let there = subst (λ (h : List Event). Contains (waiting h q) r) (events_append stretch l) waits in
      let all = own_of measure hands limit (events stretch) (events earlier) q r legal there in
      let is = seat_time_is measure q stretch in omega arith

  never_empty : IsNeverEmptyIn (stretch ++ l) (length stretch) q
  never_empty = never hands limit q r l arrived stretch settled.0 waits

pub own_settled : (queues : ℕ) (costs : List ℕ) (measure : ℕ → ℕ) (hands : ℕ → List ℕ) (limit : ℕ) (stretch earlier : List LogEntry) (q r : ℕ)
    → IsSettled queues costs hands limit (stretch ++ Happens (Enter r q) ∷ earlier)
    → Contains (waiting (events (stretch ++ Happens (Enter r q) ∷ earlier)) q) r
    → seat_time measure stretch q ≤ total_time measure (waiting (events earlier) q)
own_settled queues costs measure hands limit stretch earlier q r settled waits = own queues costs measure hands limit stretch earlier q r settled waits

pub others_settled : (slack queues : ℕ) (costs : List ℕ) (measure : ℕ → ℕ) (hands : ℕ → List ℕ) (limit : ℕ) (stretch earlier : List LogEntry) (q r other : ℕ)
    → IsSettled queues costs hands limit (stretch ++ Happens (Enter r q) ∷ earlier) → AreMeasures measure (stretch ++ Happens (Enter r q) ∷ earlier)
    → AreJudged slack costs measure (stretch ++ Happens (Enter r q) ∷ earlier)
    → Contains (waiting (events (stretch ++ Happens (Enter r q) ∷ earlier)) q) r
    → q < queues → other < queues
    → seat_time measure stretch other ≤ total_time measure (waiting (events earlier) q) + 2 * widest costs + 3 * slack
others_settled slack queues costs measure hands limit stretch earlier q r other settled measures judged waits lq lo =
    let mine = own queues costs measure hands limit stretch earlier q r settled waits in
    let apart = isolated slack queues costs measure hands limit stretch (Happens (Enter r q) ∷ earlier) q other settled measures judged lq lo (never_empty queues costs measure hands limit stretch earlier q r settled waits) in omega arith

pub by_seats_settled : (seats longest queues : ℕ) (wide measure : ℕ → ℕ) (costs : List ℕ) (hands : ℕ → List ℕ) (limit : ℕ) (stretch earlier : List LogEntry) (q r other : ℕ)
    → ((i : ℕ) → width costs i ≤ wide i * longest) → ((i : ℕ) → measure i ≤ wide i * longest)
    → IsSettled queues costs hands limit (stretch ++ Happens (Enter r q) ∷ earlier) → AreMeasures measure (stretch ++ Happens (Enter r q) ∷ earlier)
    → SpendsWithin longest wide (stretch ++ Happens (Enter r q) ∷ earlier) → HaveSeats seats wide measure costs (stretch ++ Happens (Enter r q) ∷ earlier)
    → Contains (waiting (events (stretch ++ Happens (Enter r q) ∷ earlier)) q) r
    → q < queues → other < queues
    → seat_time measure stretch other ≤ total_time measure (waiting (events earlier) q) + 2 * widest costs + 3 * (seats * longest)
by_seats_settled seats longest queues wide measure costs hands limit stretch earlier q r other low short settled measures spends seated waits lq lo =
    let mine = own queues costs measure hands limit stretch earlier q r settled waits in
    let apart = isolated_by_seats seats longest queues wide measure costs hands limit stretch (Happens (Enter r q) ∷ earlier) q other low short settled measures spends seated lq lo (never_empty queues costs measure hands limit stretch earlier q r settled waits) in omega arith
