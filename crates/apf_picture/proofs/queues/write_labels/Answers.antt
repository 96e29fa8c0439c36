-- One number more, and all of them.
use Rattle.std.proofs.Common.{◌≡◌, ℕ, length, map, subst, arith}
use Rattle.std.specs.List.{flat_map, range_with_len}
use Rattle.std.specs.Io.KnownBytes.{Appends}
use Rattle.std.proofs.lemmas.List.{length-map}
use Rattle.apf_picture.specs.Columns.{queue_in}
use Rattle.apf_picture.specs.Strips.{queue_label}
use Rattle.apf_picture.proofs.Ranges.{appends_range}
use Rattle.apf_picture.proofs.queues.write_labels.Goals as goal

pub loop-place-preserved : goal.loop-place-preserved
loop-place-preserved g c =
    let told = g.W.Write.contents in
    appends_range (told c.args.out.now) (told c.loop-place.out) (told c.write_label.new.out) (queue_label (map queue_in c.args.strips.now) c.args.each) 0 c.loop-place.place c.loop-place.place (omega arith) c.loop-place.invariant c.in_ok-write_label.ensures

pub returns : goal.returns
returns g c =
    let told = g.W.Write.contents in
    let all : c.loop-place.place ≡ length (map queue_in c.args.strips.now) = omega (arith, length-map c.args.strips.now queue_in) in
    subst (λ (n : ℕ). Appends (told c.args.out.now) (told c.loop-place.out) (flat_map (queue_label (map queue_in c.args.strips.now) c.args.each) (range_with_len 0 n))) all c.loop-place.invariant
