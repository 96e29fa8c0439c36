-- The request was noted, and what came to the log was read.
use Rattle.std.proofs.Common.{◌≡◌, Some, ◌∙◌, sym, ap}
use Rattle.apf_flow.specs.Sizes.{Sizes}
use Rattle.apf_flow.specs.Deal.{hand_of}
use Rattle.apf_watched.specs.declared.watch.Watch.{Watch}
use Rattle.apf_watched.specs.Followed.{HasNoted}
use Rattle.apf_watched.proofs.Arriving.{arrived_on}
use Rattle.apf_watched.proofs.Finishing.{of_some, is_followed, some_of}
use Rattle.apf_watched.proofs.level.WatchedLevel.arrive.Goals as goal

pub invariant_of-self : goal.invariant_of-self
invariant_of-self c =
    let l = c.self.inside.level in
    let l' = c.arrive-answer.new.self in
    let event = c.arrive-answer.result.1 in
    let takes = c.seat_time-takes.result in (
      c.self.invariant.0 ∙ ap (λ (s : Sizes). s.deck) (sym c.arrive-answer.ensures.same.sizes),
      of_some l' c.noting-watch.result c.following.result c.following.ensures (λ mid after is reads.
          let noted = some_of (λ (x : Watch). (before : Watch) × (c.take.result ≡ Some before) × HasNoted event c.args.ask.cost takes before x) c.noting-watch.result mid c.noting-watch.ensures is in
          let followed = is_followed l c.self.inside.watch noted.0 c.self.invariant.1 (sym c.take.ensures.value ∙ noted.1) in
          arrived_on l l' noted.0 mid after followed reads c.args.slot c.args.ask (hand_of l.sizes c.args.ask.hash) takes event c.arrive-answer.result.0 c.arrive-answer.ensures.arrives noted.2),
    )
