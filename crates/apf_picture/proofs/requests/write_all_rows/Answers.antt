-- One row more.
use Rattle.std.proofs.Common.{ℕ, ◌+◌, List, sym, ap, subst, take, arith}
use Rattle.std.specs.Prelude.{sum_by}
use Rattle.std.specs.Io.KnownBytes.{Appends}
use Rattle.std.proofs.lemmas.List.Sums.{sum_by_more}
use Rattle.apf_picture.specs.Bars.{all_rows, row_text, height_of}
use Rattle.apf_picture.proofs.Ranges.{appends_more, rows_taken}
use Rattle.apf_picture.proofs.requests.write_all_rows.Goals as goal

pub loop-row-preserved : goal.loop-row-preserved
loop-row-preserved g c =
    let told = g.W.Write.contents in
    let rows = c.args.rows.now in
    let i = c.loop-row.row-index in
    let row = c.row-item.result in
    let within = c.loop-row-test.true in
    let now = told c.write_row.new.out in
    let text = subst (λ (at : ℕ). Appends (told c.loop-row.out) now (row_text row c.args.cutting at c.args.end)) c.loop-row.invariant.top c.in_ok-write_row.ensures in
    record {
      rows = subst (λ (t : List ℕ). Appends (told c.args.out.now) now t) (sym (rows_taken rows i row c.args.cutting c.args.y c.args.end within c.row-item.is)) (appends_more (told c.args.out.now) (told c.loop-row.out) now (all_rows (take i rows) c.args.cutting c.args.y c.args.end) (row_text row c.args.cutting (c.args.y + sum_by height_of (take i rows)) c.args.end) c.loop-row.invariant.rows text);
      top = omega (arith, c.loop-row.invariant.top, c.height-top.ensures.height, ap height_of c.row-item.is, sum_by_more height_of rows i row within);
      few = omega (arith, c.loop-row.invariant.few, c.height-top.ensures.within);
    }
