-- One bar more.
use Rattle.std.proofs.Common.{ℕ, Option, sym, subst, arith}
use Rattle.std.specs.Prelude.{slice_get}
use Rattle.std.specs.Io.KnownBytes.{Appends}
use Rattle.apf_picture.specs.declared.life.Life.{Life}
use Rattle.apf_picture.specs.Bars.{bar_at}
use Rattle.apf_picture.proofs.Ranges.{appends_range}
use Rattle.apf_picture.proofs.requests.write_bars.Goals as goal

pub loop-lane-preserved : goal.loop-lane-preserved
loop-lane-preserved g c =
    let told = g.W.Write.contents in
    let lives = c.args.lives.now in
    let n = c.loop-lane.lane in
    appends_range (told c.args.out.now) (told c.loop-lane.out) (told c.write_lane.new.out) (λ (lane : ℕ). bar_at c.args.end lane (slice_get lives lane)) 0 n n (omega arith) c.loop-lane.invariant
    (subst (λ (o : Option Life). Appends (told c.loop-lane.out) (told c.write_lane.new.out) (bar_at c.args.end n o)) (sym c.life_at-life.ensures) c.in_ok-write_lane.ensures)
