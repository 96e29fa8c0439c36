use Rattle.std.proofs.Common.{rules, ◌≡◌, List, [], refl, ap, sym, subst, reverse}
use Rattle.apf_history.specs.declared.events.Event.{Event}
use Rattle.apf_gate.specs.Tokens.{GateId}
use Rattle.apf_gate.specs.Ends.{EndsWith, EndAgrees}
use Rattle.apf_book.specs.Laws.{decision_in}
use Rattle.apf_level.specs.Reports.{Ended}
use Rattle.apf_level.proofs.Ends.{ended}
use Rattle.apf_level.proofs.Idle.{agrees, arrivals, nobody_entered, decided_alone}
use Rattle.apf_level.proofs.finish.finish_unqueued.Goals as goal

pub returns-clause-finished : goal.returns-clause-finished
returns-clause-finished g c =
    let k = g.K.Naming.level in
    let d = c.args.desk.desk in
    let w = c.in_ok-words.words in
    let ps = c.args.passes.items in
    let ss = c.args.stations.items in
    let ends : EndsWith k.gate d ps ss w = subst (λ (x : GateId). EndsWith x d ps ss w) c.requires.own c.in_ok-words.ensures in
    let e : EndAgrees k.gate d ps ss w = c.every_end_agrees.ensures k.gate d ps ss w ends in
    let idle = c.requires.own_desk in
    let empty : [] ≡ reverse c.new.result.items = sym (ap (λ (l : List Event). reverse l) c.new.ensures.items) in
    record {
      ended = subst (λ (h : List Event). Ended k w.level (decision_in w) h ps ss) empty
          (ended k d w ps ss e ends.count c.requires.all.own_passes c.requires.done c.requires.heard [] idle.holds_none idle.of_log (λ q. refl)
          (agrees k d w ps ss e ends.count idle.served_none) (arrivals k d w ps ss e ends.count idle.served_none) (nobody_entered k d w ps ss ends idle.no_queues)
          (decided_alone k d w ps ss [] ends idle.no_queues)
          (λ _. refl));
      count = search rules;
    }
