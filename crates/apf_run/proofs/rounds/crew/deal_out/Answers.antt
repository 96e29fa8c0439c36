use Rattle.std.proofs.Common.{rules, arith, ◌≡◌, ℕ, ◌+◌, ◌<◌, ◌%◌, ◌∷◌, ◌++◌, [], List, length, get_or, set, All, sym, ap, subst, ◌∙◌, length-set}
use Rattle.std.specs.Vec.Iter.{into_iter_items}
use Rattle.std.proofs.lemmas.List.{length_push}
use Rattle.std.proofs.lemmas.List.Elements.{All-set, All-rest}
use Rattle.apf_gate.specs.Tokens.{PassToken}
use Rattle.apf_session.specs.LifeOpenings.{IsFirstOf}
use Rattle.apf_run.specs.RoundsWorkers.{Load, IsReady, held}
use Rattle.apf_run.proofs.RoundsCrews.{none_held, one_more_held, idle_ready, still_ready}
use Rattle.apf_run.proofs.rounds.crew.deal_out.Goals as goal

pub loop-slot-init : goal.loop-slot-init
loop-slot-init g c =
    let workers : List Load = c.in_ok-workers.workers.items in
    let none : held workers ≡ 0 = none_held workers c.in_ok-workers.ensures.idle in
    let all : into_iter_items c.into_iter-slot-iterator.result ≡ c.args.slots.items = search rules in
    let count = ap length all in
    record {
      next = search rules;
      ends = search rules;
      count = c.in_ok-workers.ensures.count;
      dealt = omega (arith, none, count);
      first = subst (All (IsFirstOf g.K.Naming.level.gate)) (sym all) c.requires.first;
      ready = idle_ready workers c.in_ok-workers.ensures.idle;
    }

pub loop-slot-preserved : goal.loop-slot-preserved
loop-slot-preserved g c =
    let was = c.loop-slot.invariant in
    let workers : List Load = c.loop-slot.workers.items in
    let at : ℕ = c.slot.result % c.len-in-loop-slot.result in
    let low : at < length workers = search rules in
    let old : Load = c.index_mut.result.now in
    let new : Load = c.add.new.self in
    let is : old ≡ get_or workers at old = search rules in
    let slot : PassToken = c.in-Some.slot in
    let rest : List PassToken = into_iter_items c.next.new.self in
    let step : into_iter_items c.loop-slot.slot-iterator ≡ slot ∷ rest = search rules in
    let slots : new.slots ≡ old.slots ++ slot ∷ [] = search rules in
    let longer : length new.slots ≡ length old.slots + 1 = ap length slots ∙ length_push old.slots slot in
    let left = ap length step in
    let first : IsFirstOf g.K.Naming.level.gate slot = subst (All (IsFirstOf g.K.Naming.level.gate)) step was.first 0 slot (omega arith) in
    let more : held (set workers at new) ≡ held workers + 1 = one_more_held workers at new old low (longer ∙ ap (λ (w : Load). length w.slots + 1) is) in
    record {
      next = search rules;
      ends = search rules;
      count = length-set workers at new ∙ was.count;
      dealt = omega (arith, more, left, was.dealt);
      first = All-rest (IsFirstOf g.K.Naming.level.gate) slot rest _ step was.first;
      ready = All-set IsReady workers at new (still_ready old new slot slots (subst IsReady (sym is) (was.ready at old low)) first.1) was.ready;
    }
