-- What is printed of what flows came to.
use Rattle.std.specs.Prelude.{ℕ, ◌*◌, Bool, true, false, nat_eq, List, [], ◌++◌, if◌then◌else◌, codes, decimal}
use Rattle.std.specs.List.{flat_map}
use Rattle.apf_flows.specs.Names.{hash_text, of_names_text}
use Rattle.apf_rows.specs.declared.account.Figures.{Figures}
use Rattle.apf_rows.specs.declared.sums.Sums.{Sums}
use Rattle.apf_rows.specs.declared.table.Line.{Line}
use Rattle.apf_rows.specs.declared.table.Table.{Table}

-- a percentile, with a mark before one that is shortened
abbrev pub percentile_text : Bool → ℕ → List ℕ
percentile_text true wait = decimal wait
percentile_text false wait = codes "~" ++ decimal wait

-- how many requests were decided how
unfoldable pub decided_text : Sums → List ℕ
decided_text s = codes " requests " ++ decimal s.requests ++ codes " executed " ++ decimal s.executed
    ++ codes " rejected " ++ decimal s.rejected ++ codes " cancelled " ++ decimal s.cancelled

-- how long they waited
unfoldable pub waits_text : Figures → List ℕ
waits_text f = (codes " wait median " ++ percentile_text f.is_exact f.median) ++ ((codes " p99 " ++ percentile_text f.is_exact f.high) ++ (codes " longest " ++ decimal f.sums.longest))

-- what they used, and how long they waited
unfoldable pub used_text : Figures → List ℕ
used_text f = codes " seat-time " ++ decimal f.sums.seat_time ++ waits_text f

-- the line of a flow
unfoldable pub flow_text : Line → List ℕ
flow_text l = codes "flow " ++ hash_text l.hash ++ decided_text l.figures.sums ++ used_text l.figures ++ of_names_text l.names ++ codes "\n"

-- the line of the flows that have no row of their own, if there are any
unfoldable pub others_text : Figures → List ℕ
others_text f = if nat_eq f.sums.requests 0 then [] else codes "others" ++ decided_text f.sums ++ used_text f ++ codes "\n"

-- when the last thing was done, and the seats that were used and that could have been
unfoldable pub spent_text : (limit : ℕ) → Sums → List ℕ
spent_text limit s = codes "end " ++ decimal s.last ++ codes " seat-time " ++ decimal s.seat_time ++ codes " of " ++ decimal (limit * s.last)

-- how long all requests waited, and for how long one waits before it gives up
unfoldable pub waited_text : (patience : ℕ) → Sums → List ℕ
waited_text patience s = codes " waited " ++ decimal s.waited ++ codes " patience " ++ decimal patience ++ codes "\n"

-- a line for each flow, and the line of the whole
abbrev pub table_text : (limit patience : ℕ) → Table → List ℕ
table_text limit patience t = flat_map flow_text t.lines.items ++ (others_text t.others ++ (spent_text limit t.all.sums ++ waited_text patience t.all.sums))
