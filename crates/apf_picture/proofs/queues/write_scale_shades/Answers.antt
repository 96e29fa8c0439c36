-- One shade more.
use Rattle.std.proofs.Common.{ℕ, ◌+◌, arith}
use Rattle.apf_picture.specs.Strips.{scale_shade}
use Rattle.apf_picture.proofs.Ranges.{appends_range}
use Rattle.apf_picture.proofs.queues.write_scale_shades.Goals as goal

pub loop-place-preserved : goal.loop-place-preserved
loop-place-preserved g c =
    let told = g.W.Write.contents in
    appends_range (told c.args.out.now) (told c.loop-place.out) (told c.write_scale_shade.new.out) (λ (place : ℕ). scale_shade (place + 1)) 0 c.loop-place.place c.loop-place.place (omega arith) c.loop-place.invariant c.in_ok-write_scale_shade.ensures
