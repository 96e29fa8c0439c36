-- There is one step that fits.
use Rattle.std.proofs.Common.{◌≡◌, ℕ, ◌∙◌, ap, subst, arith}
use Rattle.std.specs.Io.KnownBytes.{Appends}
use Rattle.std.proofs.lemmas.Result.{on_ok_weaker}
use Rattle.apf_picture.specs.Scales.{IsStep, unit_length, unit_of}
use Rattle.apf_cluster_picture.specs.Pictures.{picture_text}
use Rattle.apf_cluster_picture.proofs.picture.write_picture.Goals as goal

-- two steps that fit are one
one_step : (end unit a b : ℕ) → IsStep end unit a → IsStep end unit b → a ≡ b
one_step end unit a b first second =
    let up = first.least b second.round second.few in
    let down = second.least a first.round first.few in omega (arith, up, down)

pub returns : goal.returns
returns g c =
    let told = g.W.Write.contents in
    let unit : c.length.result ≡ unit_length (unit_of c.args.end) = c.length.ensures ∙ ap unit_length c.of.ensures in
    let own = subst (λ (unit : ℕ). IsStep c.args.end unit c.step.result) unit c.step.ensures.step in
    on_ok_weaker c.write_with.result
    (λ text step is. subst (λ (s : ℕ). Appends (told c.args.out.now) (told c.write_with.new.out) (picture_text c.args.levels.now c.args.end s)) (one_step c.args.end (unit_length (unit_of c.args.end)) c.step.result step own is) text)
    c.write_with.ensures
