-- One level more.
use Rattle.std.proofs.Common.{ℕ, ◌+◌, List, sym, ap, subst, take, arith}
use Rattle.std.specs.Prelude.{sum_by}
use Rattle.std.specs.Io.KnownBytes.{Appends}
use Rattle.std.proofs.KnownBytes.{Appends-trans}
use Rattle.std.proofs.lemmas.List.Sums.{sum_by_more}
use Rattle.apf_cluster_picture.specs.Levels.{high_of}
use Rattle.apf_cluster_picture.specs.Pictures.{levels_text}
use Rattle.apf_cluster_picture.specs.Strips.{level_text}
use Rattle.apf_cluster_picture.proofs.Ranges.{levels_taken}
use Rattle.apf_cluster_picture.proofs.picture.write_levels.Goals as goal

pub loop-level-preserved : goal.loop-level-preserved
loop-level-preserved g c =
    let told = g.W.Write.contents in
    let levels = c.args.levels.now in
    let i = c.loop-level.level-index in
    let level = c.level-item.result in
    let within = c.loop-level-test.true in
    let now = told c.write_level.new.out in
    let text = subst (λ (at : ℕ). Appends (told c.loop-level.out) now (level_text level c.args.end at)) c.loop-level.invariant.top c.in_ok-write_level.ensures in
    record {
      levels = subst (λ (t : List ℕ). Appends (told c.args.out.now) now t) (sym (levels_taken levels i level 124 c.args.end within c.level-item.is)) (Appends-trans (told c.args.out.now) (told c.loop-level.out) now (levels_text (take i levels) c.args.end) (level_text level c.args.end (124 + sum_by high_of (take i levels))) c.loop-level.invariant.levels text);
      top = omega (arith, c.loop-level.invariant.top, c.high-top.ensures.is, ap high_of c.level-item.is, sum_by_more high_of levels i level within);
      few = omega (arith, c.loop-level.invariant.few, c.high-top.ensures.small);
    }
