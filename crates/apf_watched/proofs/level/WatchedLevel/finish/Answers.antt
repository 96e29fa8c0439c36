-- What was settled was told, and what came to the log was read.
use Rattle.std.proofs.Common.{◌≡◌, Some, ◌∙◌, sym, ap}
use Rattle.apf_flow.specs.Sizes.{Sizes}
use Rattle.apf_watched.specs.declared.watch.Watch.{Watch}
use Rattle.apf_watched.specs.Followed.{IsSettled}
use Rattle.apf_watched.proofs.Finishing.{finished_on, of_some, is_followed, some_of}
use Rattle.apf_watched.proofs.level.WatchedLevel.finish.Goals as goal

pub invariant_of-self : goal.invariant_of-self
invariant_of-self c =
    let l = c.self.inside.level in
    let l' = c.finish_measured-answer.new.self in
    let e = c.finish_measured-answer.ensures in
    let told = c.finish_measured-answer.result.1 in (
      c.self.invariant.0 ∙ ap (λ (s : Sizes). s.deck) (sym e.same.sizes),
      of_some l' c.settling-watch.result c.following.result c.following.ensures (λ mid after is reads.
          let settled = some_of (λ (x : Watch). (before : Watch) × (c.take.result ≡ Some before) × IsSettled c.ticket-ticket.result told before x) c.settling-watch.result mid c.settling-watch.ensures is in
          let followed = is_followed l c.self.inside.watch settled.0 c.self.invariant.1 (sym c.take.ensures.value ∙ settled.1) in
          finished_on l l' settled.0 mid after followed reads c.ticket-ticket.result c.args.slot c.args.micros told c.finish_measured-answer.result.0 c.ticket-ticket.ensures.number e.finishes e.settles e.nothing settled.2),
    )
