use Rattle.std.proofs.Common.{rules, ◌≡◌, ◌∙◌, List, ap, sym, subst}
use Rattle.apf_model.specs.declared.response.Response.{Response}
use Rattle.apf_model.specs.declared.response.Response.TheVariants.{Queue, Reject}
use Rattle.apf_history.specs.declared.events.Event.{Event}
use Rattle.apf_gate.specs.Tokens.{GateId}
use Rattle.apf_gate.specs.Ends.{EndsWith, EndAgrees}
use Rattle.apf_book.specs.LedgerView.{LedgerView, IsLogOf}
use Rattle.apf_book.specs.Laws.{DeskAgreesWithLog, LogAgrees, decision_in}
use Rattle.apf_level.specs.Reports.{Ended}
use Rattle.apf_level.proofs.Ends.{IsDecidedBy, ended, gone}
use Rattle.apf_level.proofs.Nobody.{nobody}
use Rattle.apf_level.proofs.finish.finish_book.Goals as goal

pub returns-clause-finished : goal.returns-clause-finished
returns-clause-finished g c =
    let k = g.K.Naming.level in
    let book = c.args.book in
    let v : LedgerView = book.ledger in
    let d = book.desk.desk in
    let w = c.in_ok-words.words in
    let ps = c.args.passes.items in
    let ss = c.args.stations.items in
    let same = c.end-desk.ensures.desk in
    let ends : EndsWith k.gate d ps ss w = subst (λ x. EndsWith k.gate x ps ss w) (ap (λ x. x.desk) same) (subst (λ (x : GateId). EndsWith x c.end-desk.result.0.desk ps ss w) c.requires.own c.in_ok-words.ensures) in
    let e : EndAgrees k.gate d ps ss w = c.every_end_agrees.ensures k.gate d ps ss w ends in
    let kept = c.end-desk.ensures.kept in
    let mind : DeskAgreesWithLog d v = c.every_book_is_kept.ensures d v kept in
    let agree : LogAgrees k.gate v ps ss w = c.every_ended_book_agrees.ensures k.gate book.desk v ps ss w c.requires.own_book.gate kept ends in
    let of_log : IsLogOf v = kept.of_log in
    let law = ended k d w ps ss e ends.count c.requires.all.own_passes c.requires.done c.requires.heard v.history mind.holds_none in
    let none = nobody c.every_legal_history_is_in_order.ensures.numbers k book.desk v c.requires.own_book.gate kept mind (gone k d w ps ss e ends.count c.requires.all.own_passes c.requires.done c.requires.heard) in
    record {
      ended = subst (λ (h : List Event). Ended k w.level (decision_in w) h ps ss) (sym c.end-desk.ensures.log)
          (law (subst IsLogOf c.requires.own_book.ledger of_log) none agree.agrees agree.arrivals agree.entered (subst (λ (x : List Event). IsDecidedBy k w ps ss x) (ap (λ (y : LedgerView). y.history) c.requires.own_book.ledger) (agree.made, agree.decides))
          (λ alone. absurd (let bad : ◌≡◌ {A = Response} Queue Reject = sym kept.has_queues ∙ (ap (λ (x : GateId). x.shape.response) c.requires.own_book.gate ∙ alone) in cc)));
      count = search rules;
    }
