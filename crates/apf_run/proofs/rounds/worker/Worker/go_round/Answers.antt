use Rattle.std.proofs.Common.{rules, arith, ◌≡◌, ◌≢◌, ℕ, ◌+◌, ◌<◌, ◌∙◌, List, length, length-set, sym, subst}
use Rattle.std.proofs.lemmas.List.{get_or-set_other}
use Rattle.std.proofs.lemmas.List.Elements.{All-set, AllWithin-more_set}
use Rattle.apf_files.specs.declared.requests.Request.{Request}
use Rattle.apf_gate.specs.Tokens.{PassToken, StationToken, pass_gate}
use Rattle.apf_line.specs.Tokens.{IsDone}
use Rattle.apf_run.specs.RoundsWorkers.{IsInRound, IsKnown, HasAsked}
use Rattle.apf_run.proofs.Known.{all_still_known}
use Rattle.apf_run.proofs.rounds.worker.Worker.go_round.Goals as goal

pub loop-place-preserved : goal.loop-place-preserved
loop-place-preserved g c =
    let was = c.loop-place.invariant in
    let requests : List Request = g.K.Plan.requests in
    let before : StationToken = c.loop-place.operator in
    let after : StationToken = c.handle.new.operator in
    let items : List PassToken = c.loop-place.slots.items in
    let at : ℕ = c.loop-place.place in
    let slot : PassToken = c.handle.new.slot in
    let here = c.handle.ensures in
    let low : at < length items = search rules in
    let same = length-set items at slot in
    record {
      load = record {
        faithful = c.is_faithful.ensures;
        own = All-set (λ (t : PassToken). pass_gate t ≡ g.K.Naming.level.gate) items at slot here.own was.load.own;
        done = All-set IsDone items at slot here.done was.load.done;
        known = All-set (IsKnown requests after) items at slot here.known (all_still_known requests before after items here.knows was.load.known);
        asked = All-set (HasAsked requests) items at slot here.asked was.load.asked;
      };
      count = same ∙ was.count;
      over = AllWithin-more_set items at slot low (IsInRound (c.args.before + 1)) was.over here.round;
      left = λ k d from until.
          let differs : k ≢ at = λ is. omega (arith, from, is) in
          subst (IsInRound c.args.before) (sym (get_or-set_other items at k slot d differs)) (was.left k d (omega (arith, from)) (omega (arith, until, same)));
    }
