use Rattle.std.proofs.Common.{◌∙◌, ℕ, [], ◌∷◌, ap, refl, subst}
use Rattle.apf_strips.specs.declared.strip.Strip.{Strip}
use Rattle.apf_cluster.specs.Drawn.{span}
use Rattle.apf_cluster.specs.declared.drawn.Drawn.{Drawn}
use Rattle.apf_cluster.proofs.Spans.{Adds, sets_in, sets_none}
use Rattle.apf_cluster.proofs.drawn.Drawn.set.Goals.{in-Some+in_ok-add_span, in_default}
use Rattle.apf_cluster.proofs.drawn.Drawn.set.Goals as goal

pub returns-clause-draws : goal.returns-clause-draws
returns-clause-draws c =
    let new = c.args.new in
    let d : Drawn = c.args.self.now in
    let d' : Drawn = record { limit = new.limit; since = new.at; strip = c.match-self.self.strip } in
    elim c.match-self.branch [
      | in-Some+in_ok-add_span w ↦
          let s : Strip = w.in-Some.strip in
          let s' : Strip = record s { limit = w.add_span.new.series } in
          let adds : Adds (span d.limit d.since new.at ∷ []) s.limit s'.limit = subst (λ (n : ℕ). Adds (span n d.since new.at ∷ []) s.limit s'.limit) w.from.ensures w.in_ok-add_span.ensures in
          sets_in new d d' s s' w.in-Some.is (ap (λ (x : Drawn). x.strip) w.self-is) refl refl refl adds
      | in_default w ↦ sets_none new d d' (ap (λ (x : Drawn). x.strip) w.self-is ∙ w.in_default.is) refl refl
    ]
