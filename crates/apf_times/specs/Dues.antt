-- What is due, and the order in which it is carried out.
use Rattle.std.specs.Prelude.{ℕ, ◌+◌, Bool}
use Rattle.std.specs.declared.cmp.Ordering.{Ordering}
use Rattle.std.specs.Ordering.{nat_cmp, ordering_then, is_lt}
use Rattle.apf_times.specs.declared.due.Due.{Due}
use Rattle.apf_times.specs.declared.due.Kind.{Kind}
use Rattle.apf_times.specs.declared.due.Kind.TheVariants.{Finish, GiveUp, Arrive}

-- a request that was given its seats at this time has run for so long
abbrev pub finish : ℕ → ℕ → ℕ → Due
finish request started_at runs_for = record { at = started_at + runs_for; kind = Finish; request = request }

-- a request that arrived at this time has waited for so long
abbrev pub giving_up : ℕ → ℕ → ℕ → Due
giving_up request arrives_at patience = record { at = arrives_at + patience; kind = GiveUp; request = request }

-- at one time finishes come first, then the ends of patience, then arrivals
abbrev pub turn : Kind → ℕ
turn Finish = 0
turn GiveUp = 1
turn Arrive = 2

-- by time, then by kind, then by the request's number
abbrev pub due_cmp : Due → Due → Ordering
due_cmp a b = ordering_then (nat_cmp a.at b.at) (ordering_then (nat_cmp (turn a.kind) (turn b.kind)) (nat_cmp a.request b.request))

-- whether a is due before b
abbrev pub is_before : Due → Due → Bool
is_before a b = is_lt (due_cmp a b)
