-- The requests that are counted: those that come from a time on.
use Rattle.std.specs.Prelude.{◌≡◌, ℕ, nat_le, Bool, ◌&&◌, true, List, ◌++◌, ◌∷◌, [], Option, Some, None}
use Rattle.std.specs.List.{filter}
use Rattle.apf_times.specs.declared.window.Arrival.{Arrival}
use Rattle.apf_traces.specs.declared.request.TraceRequest.{TraceRequest}
use Rattle.apf_stream.specs.declared.ended.Ended.{Ended}
use Rattle.apf_rows.specs.Accounts.{IsInReach}
use Rattle.apf_rows.specs.Rows.{AreRows, HaveMet, IsMet, RowsView}
use Rattle.apf_rows.specs.Tables.{IsTable}
use Rattle.apf_rows.specs.declared.table.Table.{Table}
use Rattle.apf_cluster.specs.declared.late.Late.{Late}

-- those of these that come from this time on
abbrev pub came_from : ℕ → List (Arrival TraceRequest) → List (Arrival TraceRequest)
came_from since came = filter (λ (x : Arrival TraceRequest). nat_le since x.item.arrives_at) came

-- those of these that came from this time on
abbrev pub told_from : ℕ → List Ended → List Ended
told_from since told = filter (λ (e : Ended). nat_le since e.hold.asked.times.arrives_at) told

-- All requests are counted, by rows of the lane; or those from a later time on, by rows of their own
abbrev pub AreCountedBy : ℕ → List (Arrival TraceRequest) → List Ended → Option RowsView → Type 0
AreCountedBy since came told None = since ≡ 0
AreCountedBy since came told (Some rows) = HaveMet (came_from since came) rows × AreRows (told_from since told) rows

-- these came, and these were told: those from a time on are counted
abbrev pub AreCounted : List (Arrival TraceRequest) → List Ended → Late → Type 0
AreCounted came told l = AreCountedBy l.since came told l.rows

-- whatever came and was told before: this one came too
abbrev pub CountsToo : Arrival TraceRequest → Late → Late → Type 0
CountsToo x l l' = (came : List (Arrival TraceRequest)) (told : List Ended) → AreCounted came told l → AreCounted (came ++ x ∷ []) told l'

-- whatever came and was told before: these were told too
abbrev pub CountsTold : List Ended → Late → Late → Type 0
CountsTold ends l l' = (came : List (Arrival TraceRequest)) (told : List Ended) → AreCounted came told l → AreCounted came (told ++ ends) l'

-- what was told can be counted in these rows: it is in reach, and its flow came, if it is counted
abbrev pub CanCountIn : Option RowsView → ℕ → Ended → Type 0
CanCountIn None since e = Unit {0}
CanCountIn (Some rows) since e = nat_le since e.hold.asked.times.arrives_at ≡ true → IsInReach e × IsMet rows e.hold.asked.hash

-- the same of what is counted from a time on
abbrev pub CanCount : Late → Ended → Type 0
CanCount l e = CanCountIn l.rows l.since e

-- the table of those that are counted, where this is the one of all
abbrev pub IsTableSince : Late → Table → Table → Type 0
IsTableSince l whole t = (came : List (Arrival TraceRequest)) (told : List Ended) → AreCounted came told l → IsTable came told whole → IsTable (came_from l.since came) (told_from l.since told) t

-- a request that came at this time was turned away, and is counted
abbrev pub is_counted : ℕ → (turned_away : Bool) → ℕ → Bool
is_counted since turned_away at = turned_away && nat_le since at
