use Rattle.std.proofs.Common.{rules, ◌≡◌, ◌+◌, arith, sym, ap, ◌∙◌, subst}
use Rattle.apf_words.specs.Fits.{Fits}
use Rattle.apf_words.specs.Level.{packed}
use Rattle.apf_gate.specs.declared.record.State.TheVariants.{Fresh}
use Rattle.apf_gate.specs.Records.{own_width}
use Rattle.apf_gate.specs.Tokens.{PassToken}
use Rattle.apf_gate.proofs.PassLevel.{pass_exchanges_level}
use Rattle.apf_gate.proofs.gate.Gate.exchange_for_seats.Goals as goal

pub compare_exchange-found-requires : goal.compare_exchange-found-requires
compare_exchange-found-requires g c =
    let i = c.self.invariant in
    let m = c.pass.invariant in
    let l = c.args.level in
    let fresh = subst (λ (t : PassToken). t.pass.state ≡ Fresh) (sym c.pass.view_is) c.requires.fresh in
    let room = subst (λ (t : PassToken). Fits l.seats l.limit (own_width t.pass)) (sym c.pass.view_is) c.requires.room in
    let new = c.pack-new.ensures.value ∙ ap packed (c.with_seats.ensures ∙ ap (λ k. record l { seats = l.seats + k }) m.same_width) in
    (search rules, omega (arith, i.has_words), rw (i.same_key, m.alone) (pass_exchanges_level _ i.shape i.laws _ _ _ c.pack-word.result _ l fresh c.pack-word.ensures.value c.requires.in_range c.requires.open_ c.requires.nobody room new))
