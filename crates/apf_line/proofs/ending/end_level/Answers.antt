-- What the words and the history of a level say whose slots all came back.
use Rattle.std.proofs.Common.{List, length, All, refl, subst}
use Rattle.apf_gate.specs.Tokens.{GateId, PassToken}
use Rattle.apf_gate.specs.LifeEnds.{LifeEndsWith, LifeAgrees}
use Rattle.apf_line.specs.Tokens.{IsDone}
use Rattle.apf_line.proofs.Nobody.{nobody}
use Rattle.apf_line.proofs.Ended.{nobody_waits, history_agrees}
use Rattle.apf_line.proofs.ending.end_level.Goals as goal

pub returns-clause-by_desk : goal.returns-clause-by_desk
returns-clause-by_desk c = λ k v same closes.
    let d = c.args.closing.desk.desk in
    let ps : List PassToken = c.args.passes.items in
    let ss = c.args.stations.items in
    let w = c.in_ok-words.words in
    let done : All IsDone ps = c.requires.done in
    let ends : LifeEndsWith k.gate d ps ss w = subst (λ (x : GateId). LifeEndsWith x d ps ss w) same c.in_ok-words.ensures in
    let a : LifeAgrees k.gate d ps ss w = c.every_end_for_life_agrees.ensures k.gate d ps ss w ends in
    let laws = c.every_legal_history_is_in_order.ensures in
    let statuses = laws.statuses v.hands v.limit v.history closes.of_level.fair.0 in
    let counted = laws.numbers v.hands v.limit v.history closes.of_level.fair.0 in
    let numbers = length k.gate.shape.widths in
    let none = nobody k.gate d ps ss w ends a done in
    record {
      ended_as =
          record {
            drained = a.drained (λ i t low. (done i t low).back) closes.agrees.holds_none none;
            count = ends.count;
            desk = d;
            of_level = closes.of_level;
            nobody_waits = nobody_waits v.history d closes.agrees statuses numbers (λ q r. counted.waits_named numbers closes.of_level.names_requests q r) none;
            logs_nothing = closes.logs_nothing;
            newest = closes.newest;
            says = closes.agrees;
            words_agree = a;
            all_decided = λ i low undecided. (a.undecided (λ j t inside. (done j t inside).back) i low undecided).0;
            agrees = history_agrees v.history d closes.agrees statuses k.gate ps ss w a;
          };
      desk_is = refl;
    }

pub returns-clause-ended : goal.returns-clause-ended
returns-clause-ended c = λ k v same closes. (returns-clause-by_desk c k v same closes).ended_as
