-- What came to the log by the call was read.
use Rattle.std.proofs.Common.{refl, ◌∙◌, sym, ap}
use Rattle.apf_flow.specs.Sizes.{Sizes}
use Rattle.apf_watched.proofs.Arriving.{gone_on}
use Rattle.apf_watched.proofs.Finishing.{of_some, is_followed}
use Rattle.apf_watched.proofs.level.WatchedLevel.set_limit.Goals as goal

pub invariant_of-self : goal.invariant_of-self
invariant_of-self c =
    let l = c.self.inside.level in
    let l' = c.set_limit-old.new.self in (
      c.self.invariant.0 ∙ ap (λ (s : Sizes). s.deck) (sym c.set_limit-old.ensures.same.sizes),
      of_some l' c.take.result c.following.result c.following.ensures (λ before after is reads.
          let followed = is_followed l c.self.inside.watch before c.self.invariant.1 (sym c.take.ensures.value ∙ is) in
          gone_on l l' before before after followed reads refl (c.set_limit-old.ensures.history followed.view followed.kept)),
    )
