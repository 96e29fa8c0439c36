-- Both sides are those of the log that was told.
use Rattle.std.proofs.Common.{ℕ, List, sym, subst}
use Rattle.apf_history.specs.declared.events.Event.{Event}
use Rattle.apf_history.specs.History.{IsLegal}
use Rattle.apf_history.specs.Charged.{IsSettled, FollowsChoices}
use Rattle.apf_bound.specs.Bounds.{AreSides}
use Rattle.apf_bound.specs.Kept.{queues_of}
use Rattle.apf_watched.proofs.Logs.{agree_same, measures_of}
use Rattle.apf_watched.proofs.watch.Watch.sides.Goals as goal

pub returns : goal.returns
returns c = λ l followed.
    let v = followed.view in
    let m = followed.measure in
    let b = c.args.self.now.bound in
    record {
      view = v;
      measure = m;
      kept = followed.kept;
      measures = λ short. measures_of v.history m v.log (followed.tells short).settled;
      sides = λ short ranged.
          let told = followed.tells short in
          let life = followed.kept.of_life in
          let settled : IsSettled (queues_of b) v.costs v.hands v.limit v.log =
          (subst (λ (h : List Event). IsLegal v.hands v.limit h) (sym life.events_are) life.fair.0, subst (λ (n : ℕ). FollowsChoices n v.costs v.log) (sym followed.queues) life.fair.1) in
          subst (λ (n : ℕ). AreSides n v.costs m v.log c.sides.result) followed.queues
          (c.sides.ensures v.costs m v.hands v.limit v.log (told.told v.costs m v.hands v.limit (agree_same v.history v.costs m)) settled (measures_of v.history m v.log told.settled) ranged);
    }
