-- Histories whose charges are set right: logs of events, and of what requests that execute are charged from then on. The newest entry comes first.
use Rattle.std.specs.Prelude.{◌≡◌, ◌≢◌, ℕ, ◌+◌, ◌-◌, ◌*◌, ◌≤◌, ◌==◌, ◌&&◌, ◌⊎◌, if◌then◌else◌, List, [], ◌∷◌, drop, Option, Some, None}
use Rattle.apf_history.specs.declared.events.Event.{Event}
use Rattle.apf_history.specs.declared.events.Event.TheVariants.{Enter, Dispatch}
use Rattle.apf_history.specs.declared.events.Charge.{Charge}
use Rattle.apf_history.specs.declared.events.LogEntry.{LogEntry}
use Rattle.apf_history.specs.declared.events.LogEntry.TheVariants.{Happens, Spends, Settles}
use Rattle.apf_history.specs.Numbered.{put, width}
use Rattle.apf_history.specs.History.{waiting, IsLegal}
use Rattle.apf_history.specs.Fair.{Numbers, opening_numbers, after_enter, after_event, IsChoice}

-- the history of a log: its events
abbrev pub events : List LogEntry → List Event
events [] = []
events (Happens e ∷ l) = e ∷ events l
events (Spends r q old new ∷ l) = events l
events (Settles r q old new ∷ l) = events l

-- a request of q was charged `old`, and is charged `new` in place of it
abbrev pub after_charge : ℕ → ℕ → ℕ → Numbers → Numbers
after_charge q old new v = record v { next = put v.next q (v.next q + new - old) }

-- the numbers of a log
abbrev pub charged_numbers : ℕ → List ℕ → List LogEntry → Numbers
charged_numbers queues costs [] = opening_numbers queues
charged_numbers queues costs (Happens e ∷ l) = after_event costs (events l) e (charged_numbers queues costs l)
charged_numbers queues costs (Spends r q old new ∷ l) = after_charge q old new (charged_numbers queues costs l)
charged_numbers queues costs (Settles r q old new ∷ l) = after_charge q old new (charged_numbers queues costs l)

-- a request that executes, and what it is charged so far
pub record Running : Type 0 where
  pub request : ℕ
  pub charge : ℕ

-- without the first of these that is r and is charged k
abbrev pub ended : ℕ → ℕ → List Running → List Running
ended r k [] = []
ended r k (x ∷ xs) = if (x.request == r) && (x.charge == k) then xs else x ∷ ended r k xs

-- r is one of these, and is charged k
abbrev pub IsAmong : ℕ → ℕ → List Running → Type 0
IsAmong r k [] = ⊥
IsAmong r k (x ∷ xs) = ((x.request ≡ r) × (x.charge ≡ k)) ⊎ IsAmong r k xs

-- the requests that execute from q: those that were dispatched from it and are not settled
abbrev pub begun : List ℕ → Event → ℕ → List Running → List Running
begun costs (Dispatch r p) q xs = if p == q then record { request = r; charge = width costs r } ∷ xs else xs
begun costs _ q xs = xs

abbrev pub runs : List ℕ → List LogEntry → ℕ → List Running
runs costs [] q = []
runs costs (Happens e ∷ l) q = begun costs e q (runs costs l q)
runs costs (Spends r p old new ∷ l) q = if p == q then record { request = r; charge = new } ∷ ended r old (runs costs l q) else runs costs l q
runs costs (Settles r p old new ∷ l) q = if p == q then ended r old (runs costs l q) else runs costs l q

-- what a queue is charged for r while r executes. None if r was not dispatched, or is settled
abbrev pub charge_after : List ℕ → Event → ℕ → Option Charge → Option Charge
charge_after costs (Dispatch j p) r before = if j == r then Some (record { queue = p; amount = width costs j }) else before
charge_after costs _ r before = before

abbrev pub charge_of : List ℕ → List LogEntry → ℕ → Option Charge
charge_of costs [] r = None
charge_of costs (Happens e ∷ l) r = charge_after costs e r (charge_of costs l r)
charge_of costs (Spends j p old new ∷ l) r = if j == r then Some (record { queue = p; amount = new }) else charge_of costs l r
charge_of costs (Settles j p old new ∷ l) r = if j == r then None else charge_of costs l r

-- the sum of f over requests that execute
abbrev pub total : (Running → ℕ) → List Running → ℕ
total f [] = 0
total f (x ∷ xs) = f x + total f xs

-- what is charged for the requests that execute from q
abbrev pub charged : List ℕ → List LogEntry → ℕ → ℕ
charged costs l q = total (λ x. x.charge) (runs costs l q)

-- what the requests that execute from q will have taken
abbrev pub taken : List ℕ → (ℕ → ℕ) → List LogEntry → ℕ → ℕ
taken costs measure l q = total (λ x. measure x.request) (runs costs l q)

-- what an event gives q
abbrev pub given : (ℕ → ℕ) → Event → ℕ → ℕ → ℕ
given measure (Dispatch r p) q n = if p == q then n + measure r else n
given measure _ q n = n

-- the measured seat-time of the requests that were dispatched from q in a stretch of a log
abbrev pub seat_time : (ℕ → ℕ) → List LogEntry → ℕ → ℕ
seat_time measure [] q = 0
seat_time measure (Happens e ∷ l) q = given measure e q (seat_time measure l q)
seat_time measure (Spends r p old new ∷ l) q = seat_time measure l q
seat_time measure (Settles r p old new ∷ l) q = seat_time measure l q

-- by how much an event moves q on that is not a charge: a queue that stops being empty starts no earlier than the level's virtual time
abbrev pub moved : List Event → Event → Numbers → ℕ → ℕ
moved h (Enter r p) v q = (after_enter p (waiting h p) v).next q - v.next q
moved h _ v q = 0

-- what the number of q would be, had each request been charged its measure when it was dispatched. No level has it: it is what the law compares with
abbrev pub true_next : ℕ → List ℕ → (ℕ → ℕ) → List LogEntry → ℕ → ℕ
true_next queues costs measure [] q = 0
true_next queues costs measure (Happens e ∷ l) q =
    given measure e q (true_next queues costs measure l q + moved (events l) e (charged_numbers queues costs l) q)
true_next queues costs measure (Spends r p old new ∷ l) q = true_next queues costs measure l q
true_next queues costs measure (Settles r p old new ∷ l) q = true_next queues costs measure l q

-- an entry may follow: a Dispatch is of the choice, and a charge is of a request that executes and is charged so much
abbrev pub IsNext : ℕ → List ℕ → List LogEntry → LogEntry → Type 0
IsNext queues costs l (Happens (Dispatch r q)) = IsChoice queues costs (waiting (events l)) (charged_numbers queues costs l) q
IsNext queues costs l (Happens _) = Unit {0}
IsNext queues costs l (Spends r q old new) = IsAmong r old (runs costs l q)
IsNext queues costs l (Settles r q old new) = IsAmong r old (runs costs l q)

abbrev pub FollowsChoices : ℕ → List ℕ → List LogEntry → Type 0
FollowsChoices queues costs [] = Unit {0}
FollowsChoices queues costs (x ∷ l) = IsNext queues costs l x × FollowsChoices queues costs l

-- a settled log: its history is legal, and each entry may follow those before it
abbrev pub IsSettled : ℕ → List ℕ → (ℕ → List ℕ) → ℕ → List LogEntry → Type 0
IsSettled queues costs hands limit l = IsLegal hands limit (events l) × FollowsChoices queues costs l

-- this is what requests took, as far as they are settled
abbrev pub AreMeasures : (ℕ → ℕ) → List LogEntry → Type 0
AreMeasures measure [] = Unit {0}
AreMeasures measure (Happens e ∷ l) = AreMeasures measure l
AreMeasures measure (Spends r q old new ∷ l) = AreMeasures measure l
AreMeasures measure (Settles r q old new ∷ l) = (new ≡ measure r) × AreMeasures measure l

-- what executes is misjudged by at most so much: from no queue is what executes so far under-charged, and from no other so far over-charged,
-- that the two come to more
pub record IsJudged (slack : ℕ) (costs : List ℕ) (measure : ℕ → ℕ) (l : List LogEntry) : Type 0 where
  pub under : (x : ℕ) → taken costs measure l x ≤ charged costs l x + slack
  pub over : (x : ℕ) → charged costs l x ≤ taken costs measure l x + slack
  pub both : (x p : ℕ) → x ≢ p → taken costs measure l x + charged costs l p ≤ charged costs l x + taken costs measure l p + slack

-- at each place of the log
abbrev pub AreJudged : ℕ → List ℕ → (ℕ → ℕ) → List LogEntry → Type 0
AreJudged slack costs measure [] = IsJudged slack costs measure []
AreJudged slack costs measure (x ∷ l) = IsJudged slack costs measure (x ∷ l) × AreJudged slack costs measure l

-- q is never empty in the newest n entries of a log, both ends included
abbrev pub IsNeverEmptyIn : List LogEntry → ℕ → ℕ → Type 0
IsNeverEmptyIn l n q = (k : ℕ) → k ≤ n → waiting (events (drop k l)) q ≢ []

-- the log of a history in which nothing is settled
abbrev pub log_of : List Event → List LogEntry
log_of [] = []
log_of (e ∷ h) = Happens e ∷ log_of h

-- the seats of a request that executes, if it is charged something else than it will have taken
abbrev pub misjudged : (ℕ → ℕ) → (ℕ → ℕ) → Running → ℕ
misjudged wide measure x = if x.charge == measure x.request then 0 else wide x.request

-- the seats of the requests that execute from q, and are charged something else than they will have taken
abbrev pub misjudged_from : (ℕ → ℕ) → (ℕ → ℕ) → List ℕ → List LogEntry → ℕ → ℕ
misjudged_from wide measure costs l q = total (misjudged wide measure) (runs costs l q)

-- these have seats: those of two queues have no more than the level's together
pub record HasSeats (seats : ℕ) (wide measure : ℕ → ℕ) (costs : List ℕ) (l : List LogEntry) : Type 0 where
  pub each : (x : ℕ) → misjudged_from wide measure costs l x ≤ seats
  pub both : (x p : ℕ) → x ≢ p → misjudged_from wide measure costs l x + misjudged_from wide measure costs l p ≤ seats

-- at each place of the log
abbrev pub HaveSeats : ℕ → (ℕ → ℕ) → (ℕ → ℕ) → List ℕ → List LogEntry → Type 0
HaveSeats seats wide measure costs [] = Unit {0}
HaveSeats seats wide measure costs (x ∷ l) = HasSeats seats wide measure costs (x ∷ l) × HaveSeats seats wide measure costs l

-- no request that executes is charged for a longer run than this so far
abbrev pub SpendsWithin : ℕ → (ℕ → ℕ) → List LogEntry → Type 0
SpendsWithin longest wide [] = Unit {0}
SpendsWithin longest wide (Spends r q old new ∷ l) = (new ≤ wide r * longest) × SpendsWithin longest wide l
SpendsWithin longest wide (_ ∷ l) = SpendsWithin longest wide l

-- 1 if the request is r
abbrev pub one_if_is : ℕ → ℕ → ℕ
one_if_is r j = if j == r then 1 else 0

-- how many times r was dispatched from q, and how many times it was settled
abbrev pub dispatched_in : ℕ → ℕ → Event → ℕ → ℕ
dispatched_in r q (Dispatch j p) n = if p == q then one_if_is r j + n else n
dispatched_in r q _ n = n

abbrev pub dispatches_in : ℕ → ℕ → List LogEntry → ℕ
dispatches_in r q [] = 0
dispatches_in r q (Happens e ∷ l) = dispatched_in r q e (dispatches_in r q l)
dispatches_in r q (Spends j p old new ∷ l) = dispatches_in r q l
dispatches_in r q (Settles j p old new ∷ l) = dispatches_in r q l

abbrev pub settles_in : ℕ → ℕ → List LogEntry → ℕ
settles_in r q [] = 0
settles_in r q (Happens e ∷ l) = settles_in r q l
settles_in r q (Spends j p old new ∷ l) = settles_in r q l
settles_in r q (Settles j p old new ∷ l) = if p == q then one_if_is r j + settles_in r q l else settles_in r q l
