-- The rows of the flows that have one of their own, and the row of the others.
use Rattle.std.proofs.Common.{◌≡◌, ℕ, min, refl, subst, length, arith}
use Rattle.apf_picture.specs.Labels.{label_at}
use Rattle.apf_picture.specs.Rows.{AreRows}
use Rattle.apf_picture.proofs.Ranges.{rows_more, rows_counted}
use Rattle.apf_picture.proofs.row.rows.Goals as goal

pub returns-then-flows-le-OWN_ROWS : goal.returns-then-flows-le-OWN_ROWS
returns-then-flows-le-OWN_ROWS c =
    let label = label_at c.args.trace.now c.args.firsts.now c.args.own.now c.args.is_shared in
    let rows = c.in_ok-rows.rows in
    let all : length c.args.own.now ≡ min (length c.args.firsts.now) 13 = omega (arith, c.requires.own, c.if-flows-le-OWN_ROWS.true) in
    record {
      rows = subst (λ (n : ℕ). AreRows c.args.lives.now label n rows.items) all c.in_ok-rows.ensures;
      few = omega (arith, c.requires.own, rows.ok.0, rows_counted c.args.lives.now label (length c.args.own.now) rows.items c.in_ok-rows.ensures);
    }

pub returns-clause-rows : goal.returns-clause-rows
returns-clause-rows c =
    let label = label_at c.args.trace.now c.args.firsts.now c.args.own.now c.args.is_shared in
    let twelve : length c.args.own.now ≡ 12 = omega (arith, c.requires.own, c.if-flows-le-OWN_ROWS.false) in
    let rows = subst (λ (n : ℕ). AreRows c.args.lives.now label n c.in_ok-rows.rows.items) twelve c.in_ok-rows.ensures in
    rows_more c.args.lives.now label 12 (min (length c.args.firsts.now) 13) _ c.in_ok-rows.rows.items c.push_row.new.rows.items refl (omega (arith, c.if-flows-le-OWN_ROWS.false)) rows c.in_ok-push_row.ensures
