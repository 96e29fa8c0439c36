-- The numbers of a live level, and how they go on.
use Rattle.std.specs.Prelude.{◌≡◌, ℕ, ◌+◌, ◌-◌, ◌*◌, ◌^◌, ◌≤◌, min, List, [], ◌∷◌, length, sum_by}
use Rattle.apf_words.specs.Limits.{max_requests}
use Rattle.apf_words.specs.declared.decision.Decision.{Decision}
use Rattle.apf_words.specs.declared.decision.Decision.TheVariants.{Execute, QueueFull, Closed, ConcurrencyLimit, Cancelled}
use Rattle.apf_gate.specs.declared.counts.Counts.{Counts}
use Rattle.apf_gate.specs.Slots.{round_of, coded_width}
use Rattle.apf_gate.specs.Tokens.{PassToken}
use Rattle.apf_local.specs.declared.answer.Answer.{Answer}
use Rattle.apf_local.specs.declared.answer.Answer.TheVariants.{Run, Over, Busy, Waits, Released, Spent, Wrong}
use Rattle.apf_local.specs.declared.answer.Place.{Place}
use Rattle.apf_local.specs.declared.answer.Place.TheVariants as places
use Rattle.apf_local.specs.Levels.{LocalView}
use Rattle.apf_service.specs.declared.tally.Tally.{Tally}

-- what a slot holds: where its newest request is, and the number of that
pub record Held : Type 0 where
  pub place : Place
  pub number : ℕ

-- what each slot holds, by the places of the slots and by their Passes
abbrev pub held_by : List Place → List PassToken → List Held
held_by [] passes = []
held_by (place ∷ places) [] = []
held_by (place ∷ places) (token ∷ passes) = record { place = place; number = token.pass.number } ∷ held_by places passes

-- what the slots of a level hold
abbrev pub slots_of : LocalView → List Held
slots_of l = held_by l.places l.owner.passes

-- one more decision of this kind
abbrev pub counted : Decision → Counts → Counts
counted Execute c = record c { executed = c.executed + 1 }
counted QueueFull c = record c { queue_full = c.queue_full + 1 }
counted Closed c = record c { closed = c.closed + 1 }
counted ConcurrencyLimit c = record c { concurrency_limit = c.concurrency_limit + 1 }
counted Cancelled c = record c { cancelled = c.cancelled + 1 }

-- no request ever came
abbrev pub no_counts : Counts
no_counts = record { executed = 0; queue_full = 0; closed = 0; concurrency_limit = 0; cancelled = 0 }

abbrev pub no_tally : Tally
no_tally = record { counts = no_counts; waiting = 0; running = 0; seats = 0 }

-- a request of this width executes from now on
abbrev pub started : ℕ → Tally → Tally
started width t = record t { counts = counted Execute t.counts; running = t.running + 1; seats = t.seats + width }

-- one more waits
abbrev pub queued : Tally → Tally
queued t = record t { waiting = t.waiting + 1 }

-- one more was decided so, and did not execute
abbrev pub ended : Decision → Tally → Tally
ended decision t = record t { counts = counted decision t.counts }

-- one that waited does so no longer
abbrev pub left : Tally → Tally
left t = record t { waiting = t.waiting - 1 }

-- a request of this width gave its seats back
abbrev pub finished : ℕ → Tally → Tally
finished width t = record t { running = t.running - 1; seats = t.seats - width }

-- the numbers after an arrival or an attempt of a request of this width that was answered so
abbrev pub after_arrival : ℕ → Answer → Tally → Tally
after_arrival width Run t = started width t
after_arrival width Waits t = queued t
after_arrival width (Over decision) t = ended decision t
after_arrival width Busy t = t
after_arrival width Released t = t
after_arrival width Spent t = t
after_arrival width Wrong t = t

-- the numbers after a request of this width that waited read where it is: one that is over was cancelled
abbrev pub after_poll : ℕ → Place → Tally → Tally
after_poll width places.Runs t = started width (left t)
after_poll width places.Free t = ended Cancelled (left t)
after_poll width (places.Fresh ask) t = t
after_poll width places.Waits t = t

-- the numbers after a request of this width that executed gave its seats back
abbrev pub after_finish : ℕ → Answer → Tally → Tally
after_finish width Released t = finished width t
after_finish width Run t = t
after_finish width (Over decision) t = t
after_finish width Busy t = t
after_finish width Waits t = t
after_finish width Spent t = t
after_finish width Wrong t = t

-- how many of these decisions there were
abbrev pub decided_in : Counts → ℕ
decided_in c = c.executed + c.queue_full + c.closed + c.concurrency_limit + c.cancelled

-- how many requests ever arrived: those that were decided, and those that wait
abbrev pub arrived_in : Tally → ℕ
arrived_in t = decided_in t.counts + t.waiting

-- a request that is there as a number: 1 if it waits
abbrev pub waits_at : Place → ℕ
waits_at places.Free = 0
waits_at (places.Fresh ask) = 0
waits_at places.Waits = 1
waits_at places.Runs = 0

-- 1 if it executes
abbrev pub runs_at : Place → ℕ
runs_at places.Free = 0
runs_at (places.Fresh ask) = 0
runs_at places.Waits = 0
runs_at places.Runs = 1

-- its width if it executes
abbrev pub seats_at : Place → ℕ → ℕ
seats_at places.Free number = 0
seats_at (places.Fresh ask) number = 0
seats_at places.Waits number = 0
seats_at places.Runs number = coded_width number

-- the same of a slot's request
abbrev pub waits_in : Held → ℕ
waits_in h = waits_at h.place

abbrev pub runs_in : Held → ℕ
runs_in h = runs_at h.place

abbrev pub seats_in : Held → ℕ
seats_in h = seats_at h.place h.number

-- how many times the slot was given, at most as many as it can be
abbrev pub rounds_in : Held → ℕ
rounds_in h = min (round_of h.number) (2 ^ 46)

-- the numbers are those of these slots: who waits, who executes, the seats of those who execute; and each request that arrived holds a slot or held one
pub record IsTallyOf (slots : List Held) (t : Tally) : Type 0 where
  pub waiting : t.waiting ≡ sum_by waits_in slots
  pub running : t.running ≡ sum_by runs_in slots
  pub seats : t.seats ≡ sum_by seats_in slots
  pub arrived : arrived_in t ≤ sum_by rounds_in slots

-- a level of at most 10,000 slots, each with its Pass, and with room for two events of each, whose numbers these are
pub record IsTallied (l : LocalView) (t : Tally) : Type 0 where
  pub few : length l.places ≤ max_requests
  pub each_its_pass : length l.owner.passes ≡ length l.places
  pub room : l.owner.book.notes.capacity ≡ 2 * length l.places
  pub numbers : IsTallyOf (slots_of l) t
