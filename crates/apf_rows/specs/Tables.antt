-- What all flows came to.
use Rattle.std.specs.Prelude.{◌≡◌, ℕ, Bool, nat_lt, map, List, All, IsPermutation}
use Rattle.std.specs.List.Sorted.{IsSortedBy}
use Rattle.apf_times.specs.declared.window.Arrival.{Arrival}
use Rattle.apf_traces.specs.declared.request.TraceRequest.{TraceRequest}
use Rattle.apf_stream.specs.declared.ended.Ended.{Ended}
use Rattle.apf_rows.specs.Accounts.{AreFigures, IsAccount}
use Rattle.apf_rows.specs.Rows.{IsFirst, flows_of, of_flow, of_others}
use Rattle.apf_rows.specs.declared.row.Row.{Row}
use Rattle.apf_rows.specs.declared.table.Line.{Line}
use Rattle.apf_rows.specs.declared.table.Table.{Table}

-- the line of a row
pub record IsLineOf (r : Row) (l : Line) : Type 0 where
  pub hash : l.hash ≡ r.hash
  pub first : l.first ≡ r.first
  pub names : l.names ≡ r.names
  pub figures : (told : List Ended) → IsAccount told r.account → AreFigures told l.figures

-- the flow whose first line is lower comes first
abbrev pub comes_first : Line → Line → Bool
comes_first a b = nat_lt a.first b.first

-- a flow's line: the figures of its requests, under the names of its first line
pub record IsLine (came : List (Arrival TraceRequest)) (told : List Ended) (l : Line) : Type 0 where
  pub figures : AreFigures (of_flow l.hash told) l.figures
  pub named : IsFirst came l.hash l.first l.names

-- what these came to: each flow that has a row has a line, in the order of their first lines
pub record IsTable (came : List (Arrival TraceRequest)) (told : List Ended) (t : Table) : Type 0 where
  pub each : All (IsLine came told) t.lines.items
  pub flows : IsPermutation (flows_of came) (map (λ (l : Line). l.hash) t.lines.items)
  pub order : IsSortedBy comes_first t.lines.items
  pub others : AreFigures (of_others (flows_of came) told) t.others
  pub all : AreFigures told t.all
