-- A request that waited is over.
use Rattle.std.proofs.Common.{rules, ◌≡◌, List, set, Some, sym, ap, ◌∙◌, subst}
use Rattle.std.specs.Prelude.{slice_get}
use Rattle.apf_local.specs.declared.answer.Place.{Place}
use Rattle.apf_local.specs.declared.answer.Place.TheVariants as places
use Rattle.apf_local.proofs.Giving.{get_set, local_then, on_then, reading_sets, finish_sets}
use Rattle.apf_local.proofs.Places.{set_again}
use Rattle.apf_local.proofs.Seats.{keeps_then, stays_seated, reading_seated, finishing_seated}
use Rattle.apf_local.proofs.level.LocalLevel.stop_waiting.Goals as goal

pub returns-then-eq-clause-same : goal.returns-then-eq-clause-same
returns-then-eq-clause-same c = local_then c.args.self.now c.cancel.new.self c.finish.new.self c.cancel.ensures.same (local_then c.cancel.new.self c.place.new.self c.finish.new.self c.place.ensures.same c.finish.ensures.same)

pub returns-then-eq-clause-frees : goal.returns-then-eq-clause-frees
returns-then-eq-clause-frees c =
    let i = c.args.slot in
    let ps : List Place = c.args.self.now.places in
    let waits : slice_get c.cancel.new.self.places i ≡ Some places.Waits = subst (λ (xs : List Place). slice_get xs i ≡ Some places.Waits) (sym c.cancel.ensures.slots.places) c.requires.waits in
    let runs : c.place.result ≡ places.Runs = (search rules) in
    let read : c.place.new.self.places ≡ set ps i places.Runs = reading_sets i c.cancel.new.self c.place.new.self c.place.result c.place.ensures.reads waits ∙ (ap (λ (p : Place). set c.cancel.new.self.places i p) runs ∙ ap (λ (xs : List Place). set xs i places.Runs) c.cancel.ensures.slots.places) in
    let here : slice_get c.place.new.self.places i ≡ Some places.Runs = subst (λ (xs : List Place). slice_get xs i ≡ Some places.Runs) (sym read) (get_set ps i places.Runs places.Waits c.requires.waits) in
    finish_sets i c.place.new.self c.finish.new.self c.finish.result c.finish.ensures.finishes here ∙ (ap (λ (xs : List Place). set xs i places.Free) read ∙ set_again ps i places.Runs places.Free)

pub returns-then-eq-clause-history : goal.returns-then-eq-clause-history
returns-then-eq-clause-history c = λ v kept.
    on_then v c.place.new.self.owner.book c.finish.new.self.owner.book (on_then v c.cancel.new.self.owner.book c.place.new.self.owner.book (c.cancel.ensures.history v kept) c.place.ensures.history) c.finish.ensures.history

pub returns-else-eq-clause-same : goal.returns-else-eq-clause-same
returns-else-eq-clause-same c = local_then c.args.self.now c.cancel.new.self c.place.new.self c.cancel.ensures.same c.place.ensures.same

pub returns-else-eq-clause-history : goal.returns-else-eq-clause-history
returns-else-eq-clause-history c = λ v kept. on_then v c.cancel.new.self.owner.book c.place.new.self.owner.book (c.cancel.ensures.history v kept) c.place.ensures.history

pub returns-then-eq-clause-seats : goal.returns-then-eq-clause-seats
returns-then-eq-clause-seats c =
    let a = c.args.self.now in let b = c.cancel.new.self in let d = c.place.new.self in let e = c.finish.new.self in
    keeps_then a d e (λ v kept. on_then v b.owner.book d.owner.book (c.cancel.ensures.history v kept) c.place.ensures.history)
    (keeps_then a b d c.cancel.ensures.history (stays_seated a b c.cancel.ensures.same c.cancel.ensures.slots) (reading_seated c.args.slot b d c.place.result c.place.ensures.same c.place.ensures.reads))
    (finishing_seated c.args.slot d e c.finish.result c.finish.ensures.same c.finish.ensures.finishes c.finish.ensures.held)

pub returns-else-eq-clause-seats : goal.returns-else-eq-clause-seats
returns-else-eq-clause-seats c =
    let a = c.args.self.now in let b = c.cancel.new.self in let d = c.place.new.self in
    keeps_then a b d c.cancel.ensures.history (stays_seated a b c.cancel.ensures.same c.cancel.ensures.slots) (reading_seated c.args.slot b d c.place.result c.place.ensures.same c.place.ensures.reads)
