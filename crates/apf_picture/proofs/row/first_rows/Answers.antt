-- One row more.
use Rattle.std.proofs.Common.{◌≡◌, ◌+◌, ◌∙◌, sym, refl, false, arith}
use Rattle.std.specs.Prelude.{◌==◌}
use Rattle.std.proofs.lemmas.Bool.{cond-false, ne_eqb}
use Rattle.apf_picture.specs.Labels.{called, label_at}
use Rattle.apf_picture.proofs.Ranges.{rows_more}
use Rattle.apf_picture.proofs.row.first_rows.Goals as goal

pub loop-row-preserved : goal.loop-row-preserved
loop-row-preserved c =
    let n = c.loop-row.row in
    let own_row : (n == 12) ≡ false = ne_eqb n 12 (λ same. omega (arith, same, c.loop-row-test.true, c.requires.own)) in
    rows_more c.args.lives.now (label_at c.args.trace.now c.args.firsts.now c.args.own.now c.args.is_shared) n (n + 1) (called c.in_ok-label.label) c.loop-row.rows.items c.push_row.new.rows.items (c.in_ok-label.ensures ∙ sym (cond-false (n == 12) _ _ own_row)) refl c.loop-row.invariant c.in_ok-push_row.ensures
