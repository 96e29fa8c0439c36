-- The log by the numbers of its requests is legal.
use Rattle.std.proofs.Common.{rules, ◌≡◌, List, sym, subst}
use Rattle.std.specs.Prelude.{map}
use Rattle.apf_book.specs.declared.life_event.LifeEvent.{LifeEvent}
use Rattle.apf_local.specs.Levels.{LocalView}
use Rattle.apf_run.specs.Batches.{IsOfSlots, IsRead, IsLogOf, AreAll, by_slot}
use Rattle.apf_run.proofs.Batching.{read_of, of_each}
use Rattle.apf_run.proofs.batch.Batch.log.Goals as goal

pub returns-clause-read : goal.returns-clause-read
returns-clause-read c =
    let l : LocalView = c.args.self.now in
    let all : List LifeEvent = c.as_slice.result.now in
    let same : all ≡ c.in_ok-all.all.items = (search rules) in
    let is : IsOfSlots l = subst IsOfSlots c.self.view_is c.self.invariant in
    let are : AreAll l all = subst (AreAll l) (sym same) c.in_ok-all.ensures in
    of_each (λ log. log.items ≡ map by_slot all) (λ log. IsRead l log.items) (λ log here. subst (IsRead l) (sym here) (read_of l all is c.every_legal_history_is_in_order.ensures.numbers are)) c.by_slots.result c.by_slots.ensures

pub returns-clause-whole : goal.returns-clause-whole
returns-clause-whole c =
    let l : LocalView = c.args.self.now in
    let all : List LifeEvent = c.as_slice.result.now in
    let same : all ≡ c.in_ok-all.all.items = (search rules) in
    let are : AreAll l all = subst (AreAll l) (sym same) c.in_ok-all.ensures in
    of_each (λ log. log.items ≡ map by_slot all) (λ log. IsLogOf l log.items) (λ log here. (all, are, here)) c.by_slots.result c.by_slots.ensures
