-- The book is the level's still, and at rest.
use Rattle.std.proofs.Common.{◌≡◌, ◌∙◌, ◌++◌, List, refl, sym, ap}
use Rattle.std.proofs.lemmas.List.{append_assoc}
use Rattle.apf_gate.specs.declared.record.Entry.{Entry}
use Rattle.apf_gate.specs.Steps.{Both}
use Rattle.apf_level.proofs.LifeHistories.{still_own, after_strike, rests, opened}
use Rattle.apf_level.proofs.life.queued.Queued.withdraw.Goals as goal

pub invariant_of-self : goal.invariant_of-self
invariant_of-self g c =
    let k = g.K.Naming.level in
    let laws = opened c.every_level_has_histories.ensures in
    let old = c.args.self.now in
    let h = c.has_a_history.ensures in
    let heard = c.hear.ensures.answer.history h.view h.kept in
    let own = still_own k old.book c.hear.new.self h.view h.view old.tied c.hear.ensures.same h.kept heard refl in
    let struck = after_strike h.view c.hear.new.self c.withdraw-struck.new.self c.hear.new.pass.pass.number c.withdraw-struck.result (c.withdraw-struck.ensures.answer h.view heard) in
    let out = still_own k c.hear.new.self c.withdraw-struck.new.self h.view struck.view own c.withdraw-struck.ensures.same heard struck.kept struck.limit in
    let now = rests laws k struck.view c.withdraw-struck.new.self c.serve.new.book c.serve.result out struck.kept c.serve.ensures.same (c.serve.ensures.served struck.view struck.kept) in
    record { has_queues = old.has_queues; tied = now.own; room = c.serve.ensures.same.room ∙ (c.withdraw-struck.ensures.same.room ∙ (c.hear.ensures.same.room ∙ old.room)); each_slot = old.each_slot; stopped = now.stopped }

pub returns-clause-goes_on : goal.returns-clause-goes_on
returns-clause-goes_on g c =
    let read = c.hear.ensures.answer.answer.1 in
    let known = c.args.pass.now.pass.knows.trace in
    let heard : read.3.trace.0 ++ known ≡ c.hear.new.pass.pass.knows.trace = read.3.trace.1 ∙ sym (ap (λ (b : Both). b.pass.knows.trace) read.5) in
    let more = c.withdraw-struck.ensures.same.more.trace in
    let then : more.0 ++ c.hear.new.pass.pass.knows.trace ≡ c.withdraw-struck.new.pass.pass.knows.trace = ap (λ (es : List Entry). more.0 ++ es) c.hear.ensures.follows ∙ (sym more.1 ∙ sym c.withdraw-struck.ensures.follows) in
    (more.0 ++ read.3.trace.0, append_assoc more.0 read.3.trace.0 known ∙ (ap (λ (es : List Entry). more.0 ++ es) heard ∙ then))
