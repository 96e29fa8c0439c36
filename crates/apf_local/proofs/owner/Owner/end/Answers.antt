-- How the level ended, of every history of its book.
use Rattle.std.proofs.Common.{rules, ◌≡◌, refl, sym, ap, ◌∙◌, subst}
use Rattle.apf_queue.specs.View.{queue_count}
use Rattle.apf_gate.specs.declared.record.DeskRecord.{DeskRecord}
use Rattle.apf_gate.specs.Tokens.{GateId, DeskToken}
use Rattle.apf_book.specs.Life.{settles_in}
use Rattle.apf_book.specs.LifeBook.{LifeBookView, IsLifeKept}
use Rattle.apf_line.specs.Levels.{LifeId, IsBookOf}
use Rattle.apf_line.specs.Reports.{EndedBy}
use Rattle.apf_local.specs.Owners.{OwnerView}
use Rattle.apf_local.specs.Openings.{HasQueuesOf}
use Rattle.apf_local.proofs.Beginning.{of_each}
use Rattle.apf_local.proofs.owner.Owner.end.Goals as goal

pub end_level-requires-clause-own_desk : goal.end_level-requires-clause-own_desk
end_level-requires-clause-own_desk c =
    let book : LifeBookView = c.self.inside.book in
    let k : LifeId = record { gate = c.self.inside.gate; sizes = record { deck = queue_count book.queues.queues; hand = book.queues.hand }; queue_limit = book.queues.queues.length_limit; settles = settles_in book.queues } in
    let own : IsBookOf k book = record { gate = c.self.invariant.desk; queues = refl; limit = refl; hand = refl; settles = refl; known = c.self.invariant.known } in
    let lived = c.in_ok-closing.ensures.lived in
    let slots : c.self.inside.gate.shape.slots ≡ c.args.slots = (search rules) in
    (c.in_ok-closing.ensures.closes k lived.view own slots lived.kept).gate

pub returns : goal.returns
returns c = of_each _ _ (λ r ends k v same queues kept.
    let slots : k.gate.shape.slots ≡ c.args.slots = ap (λ (g : GateId). g.shape.slots) same ∙ (search rules) in
    let here : IsLifeKept v c.self.inside.book = subst (λ (o : OwnerView). IsLifeKept v o.book) (sym c.self.view_is) kept in
    let has : HasQueuesOf k c.self.inside.book = subst (λ (o : OwnerView). HasQueuesOf k o.book) (sym c.self.view_is) queues in
    let gate : k.gate ≡ c.self.inside.gate = same ∙ ap (λ (o : OwnerView). o.gate) (sym c.self.view_is) in
    let own : IsBookOf k c.self.inside.book = record { gate = c.self.invariant.desk ∙ sym gate; queues = has.queues; limit = has.limit; hand = has.hand; settles = has.settles; known = c.self.invariant.known } in
    let closes = c.in_ok-closing.ensures.closes k v own slots here in
    let here_desk : c.in_ok-closing.closing.desk.desk ≡ c.self.inside.book.desk.desk = ap (λ (d : DeskToken). d.desk) c.in_ok-closing.ensures.desk in
    subst (λ (o : OwnerView). EndedBy o.book.desk.desk k v o.passes o.stations r) c.self.view_is (subst (λ (d : DeskRecord). EndedBy d k v c.self.inside.passes.items c.self.inside.stations.items r) here_desk (ends k v (sym gate) closes))) c.end_level.result c.end_level.ensures.by_desk
