-- One column more, and all of them.
use Rattle.std.proofs.Common.{◌≡◌, ℕ, subst, arith}
use Rattle.std.specs.Prelude.{map}
use Rattle.std.specs.List.{range_with_len}
use Rattle.std.proofs.lemmas.List.FromFn.{map-range_with_len_more}
use Rattle.apf_picture.specs.Columns.{time_of, columns}
use Rattle.apf_picture.specs.Spans.{held, columns_of}
use Rattle.apf_picture.proofs.timeline.Timeline.columns.Goals as goal

pub loop-column-preserved : goal.loop-column-preserved
loop-column-preserved c =
    let n = c.loop-column.column in
    let more = map-range_with_len_more (λ (column : ℕ). held c.args.self.now (time_of c.args.end column)) 0 n n (omega arith) in
    cc (more, c.loop-column.invariant, c.in_ok-push.ensures.items, c.at.ensures, c.scaled.ensures.place)

pub returns : goal.returns
unfolding columns columns_of
returns c =
    let at : c.loop-column.column ≡ 880 = omega arith in
    subst (λ (n : ℕ). c.loop-column.values.items ≡ map (λ (column : ℕ). held c.args.self.now (time_of c.args.end column)) (range_with_len 0 n)) at c.loop-column.invariant
