-- At first all is left, and then one character less.
use Rattle.std.proofs.Common.{sym, ◌∙◌, arith}
use Rattle.apf_picture.specs.Cuttings.{behind_separator as the_behind_separator}
use Rattle.apf_picture.proofs.Beginnings.{whole_behind, separator_at, other_at}
use Rattle.apf_picture.proofs.cutting.behind_separator.Goals as goal
use Rattle.apf_picture.proofs.cutting.behind_separator.Goals.{then-is_separator, else-is_separator}

pub loop-place-init : goal.loop-place-init
loop-place-init c = record { behind = whole_behind c.args.text.now; within = omega arith }

pub loop-place-preserved : goal.loop-place-preserved
loop-place-preserved c =
    let text = c.args.text.now in
    let place = c.loop-place.place in
    let character = c.index-text-place.result in
    elim c.if-is_separator.branch [
      | then-is_separator w ↦ record {
        behind = separator_at text place character c.loop-place.behind c.if-is_separator.behind (the_behind_separator text) c.loop-place-test.true c.index-text-place.is (sym c.is_separator.ensures ∙ w.if-is_separator.true) w.behind-is c.loop-place.invariant.behind;
        within = omega (arith, w.behind-is, c.loop-place-test.true);
      }
      | else-is_separator w ↦ record {
        behind = other_at text place character c.loop-place.behind c.if-is_separator.behind (the_behind_separator text) c.loop-place-test.true c.index-text-place.is (sym c.is_separator.ensures ∙ w.if-is_separator.false) w.behind-is c.loop-place.invariant.behind;
        within = omega (arith, w.behind-is, c.loop-place.invariant.within);
      }
    ]
