-- What rows come to as a table.
use Rattle.std.proofs.Common.{◌≡◌, ℕ, zero, suc, ◌<◌, List, [], ◌∷◌, length, map, get_or, All, refl, sym, ap, ◌∙◌, subst, arith}
use Rattle.std.specs.Prelude.{IsPermutation}
use Rattle.std.specs.List.{AllZip}
use Rattle.std.specs.List.Sorted.{IsSortedBy}
use Rattle.std.proofs.lemmas.List.Sorted.{All-permutation, IsPermutation-map}
use Rattle.apf_times.specs.declared.window.Arrival.{Arrival}
use Rattle.apf_traces.specs.declared.request.FlowNames.{FlowNames}
use Rattle.apf_traces.specs.declared.request.TraceRequest.{TraceRequest}
use Rattle.apf_stream.specs.declared.ended.Ended.{Ended}
use Rattle.apf_rows.specs.declared.row.Row.{Row}
use Rattle.apf_rows.specs.declared.table.Line.{Line}
use Rattle.apf_rows.specs.declared.table.Table.{Table}
use Rattle.apf_rows.specs.Accounts.{AreFigures, IsAccount}
use Rattle.apf_rows.specs.Rows.{AreRows, AreRowsKept, HaveMet, IsFirst, IsNamed, RowsView, flows_of, of_flow, of_others}
use Rattle.apf_rows.specs.Tables.{IsLine, IsLineOf, IsTable, comes_first}

-- each line is its row's
line_at : (rows : List Row) (lines : List Line) (k : ℕ) (r : Row) (l : Line) → AllZip IsLineOf rows lines → k < length lines → (k < length rows) × IsLineOf (get_or rows k r) (get_or lines k l)
line_at [] [] k r l all low = absurd (omega arith)
line_at [] (y ∷ lines) k r l all low = absurd all
line_at (x ∷ rows) [] k r l all low = absurd all
line_at (x ∷ rows) (y ∷ lines) zero r l all low = (omega arith, all.0)
line_at (x ∷ rows) (y ∷ lines) (suc k) r l all low = let m = line_at rows lines k r l all.1 (omega arith) in (let a = m.0 in omega arith, m.1)

hashes_same : (rows : List Row) (lines : List Line) → AllZip IsLineOf rows lines → map (λ (l : Line). l.hash) lines ≡ map (λ (r : Row). r.hash) rows
hashes_same [] [] all = refl
hashes_same [] (y ∷ lines) all = absurd all
hashes_same (x ∷ rows) [] all = absurd all
hashes_same (x ∷ rows) (y ∷ lines) all = ap (λ (h : ℕ). h ∷ map (λ (l : Line). l.hash) lines) all.0.hash ∙ ap (λ (hs : List ℕ). x.hash ∷ hs) (hashes_same rows lines all.1)

line_of : (came : List (Arrival TraceRequest)) (told : List Ended) (r : Row) (l : Line) → IsLineOf r l → IsAccount (of_flow r.hash told) r.account → IsNamed came r → IsLine came told l
line_of came told r l is account named = record {
  figures = subst (λ (h : ℕ). AreFigures (of_flow h told) l.figures) (sym is.hash) (is.figures (of_flow r.hash told) account);
  named = subst (λ (h : ℕ). IsFirst came h l.first l.names) (sym is.hash) (subst (λ (n : ℕ). IsFirst came r.hash n l.names) (sym is.first) (subst (λ (n : _). IsFirst came r.hash r.first n) (sym is.names) named));
}

some_row : (rows : List Row) (k : ℕ) → k < length rows → Row
some_row [] k low = absurd (omega arith)
some_row (r ∷ rows) k low = r

lines_are : (came : List (Arrival TraceRequest)) (told : List Ended) (rows : List Row) (lines : List Line) → AllZip IsLineOf rows lines
    → All (λ (r : Row). IsAccount (of_flow r.hash told) r.account) rows → All (IsNamed came) rows → All (IsLine came told) lines
lines_are came told [] lines zip each named k d low = by_empty lines zip low
  where
    by_empty : (ls : List Line) → AllZip IsLineOf [] ls → k < length ls → IsLine came told (get_or lines k d)
    by_empty [] z l = absurd (omega arith)
    by_empty (y ∷ ls) z l = absurd z
lines_are came told (r ∷ rows) lines zip each named k d low =
    let m = line_at (r ∷ rows) lines k r d zip low in
    line_of came told (get_or (r ∷ rows) k r) (get_or lines k d) m.1 (each k r m.0) (named k r m.0)

pub table_of : (came : List (Arrival TraceRequest)) (told : List Ended) (v : RowsView) (lines : List Line) (t : Table) → AreRowsKept v → HaveMet came v → AreRows told v
    → AllZip IsLineOf v.rows lines → IsPermutation lines t.lines.items → IsSortedBy comes_first t.lines.items → AreFigures (of_others v.flows told) t.others → AreFigures told t.all → IsTable came told t
table_of came told v lines t kept met are zip same order others all = record {
  each = All-permutation (IsLine came told) lines t.lines.items same (lines_are came told v.rows lines zip are.each met.named);
  flows = subst (λ (fs : List ℕ). IsPermutation fs (map (λ (l : Line). l.hash) t.lines.items)) (hashes_same v.rows lines zip ∙ kept.hashes ∙ met.flows) (IsPermutation-map (λ (l : Line). l.hash) lines t.lines.items same);
  order = order;
  others = subst (λ (fs : List ℕ). AreFigures (of_others fs told) t.others) met.flows others;
  all = all;
}
