-- The book is the level's still, and at rest.
use Rattle.std.proofs.Common.{rules, ◌≡◌, ◌≢◌, ◌∙◌, ◌++◌, ℕ, true, false, List, Option, Some, None, refl, sym, ap, subst}
use Rattle.std.proofs.lemmas.List.{append_assoc}
use Rattle.apf_words.specs.declared.decision.Decision.{Decision}
use Rattle.apf_words.specs.declared.decision.Decision.TheVariants.{QueueFull}
use Rattle.apf_gate.specs.declared.record.Entry.{Entry}
use Rattle.apf_gate.specs.Records.{told_own}
use Rattle.apf_gate.specs.Steps.{Both}
use Rattle.apf_gate.specs.Tokens.{GateId}
use Rattle.apf_book.specs.declared.arrived.Arrived.{Arrived}
use Rattle.apf_book.specs.declared.arrived.Arrived.TheVariants as arrived
use Rattle.apf_book.specs.Life.{LifeView}
use Rattle.apf_book.specs.LifeBook.{arrived_in}
use Rattle.apf_level.proofs.LifeHistories.{still_own, rests, came, opened}
use Rattle.apf_history.specs.declared.events.Event.TheVariants.{Enter, Full}
use Rattle.apf_level.specs.LifeArrivals.{Came}
use Rattle.apf_level.proofs.life.queued.Queued.arrive.Goals as goal

same_limit : (v : LifeView) (r : ℕ) (hand : List ℕ) (cost : ℕ) (answer : Arrived) → (arrived_in v r hand cost answer).limit ≡ v.limit
same_limit v r hand cost (arrived.Queued q) = refl
same_limit v r hand cost (arrived.Full q) = refl
same_limit v r hand cost arrived.Closed = refl
same_limit v r hand cost arrived.Cancelled = refl
same_limit v r hand cost arrived.Again = refl

pub arrive-arrived-requires-clause-has_queues : goal.arrive-arrived-requires-clause-has_queues
arrive-arrived-requires-clause-has_queues g c = ap (λ (x : GateId). x.shape.response) c.requires.own ∙ c.args.self.now.has_queues

pub invariant_of-self : goal.invariant_of-self
invariant_of-self g c =
    let k = g.K.Naming.level in
    let laws = opened c.every_level_has_histories.ensures in
    let old = c.args.self.now in
    let h = c.has_a_history.ensures in
    let r = c.args.pass.now.pass.number in
    let hand = c.args.dealt.now in
    let v = arrived_in h.view r hand c.args.cost c.arrive-arrived.result in
    let kept = c.arrive-arrived.ensures.answer.history h.view h.kept in
    let own = still_own k old.book c.arrive-arrived.new.self h.view v old.tied c.arrive-arrived.ensures.same h.kept kept (same_limit h.view r hand c.args.cost c.arrive-arrived.result) in
    let heard = c.hear.ensures.answer.history v kept in
    let own_then = still_own k c.arrive-arrived.new.self c.hear.new.self v v own c.hear.ensures.same kept heard refl in
    let now = rests laws k v c.hear.new.self c.serve.new.book c.serve.result own_then heard c.serve.ensures.same (c.serve.ensures.served v heard) in
    record { has_queues = old.has_queues; tied = now.own; room = c.serve.ensures.same.room ∙ (c.hear.ensures.same.room ∙ (c.arrive-arrived.ensures.same.room ∙ old.room)); each_slot = old.each_slot; stopped = now.stopped }

-- the Desk goes on from what the Pass knew
goes_on : (a b c : List Entry) → (later : List Entry) × (later ++ a ≡ b) → (newer : List Entry) × (c ≡ newer ++ b) → (later : List Entry) × (later ++ a ≡ c)
goes_on a b c heard more = (more.0 ++ heard.0, append_assoc more.0 heard.0 a ∙ (ap (λ (es : List Entry). more.0 ++ es) heard.1 ∙ sym more.1))

pub returns-in-Queued-clause-stands : goal.returns-in-Queued-clause-stands
returns-in-Queued-clause-stands g c =
    let k = g.K.Naming.level in
    let laws = opened c.every_level_has_histories.ensures in
    let old = c.args.self.now in
    let h = c.has_a_history.ensures in
    let r = c.args.pass.now.pass.number in
    let hand = c.args.dealt.now in
    let known = c.args.pass.now.pass.knows.trace in
    let last = c.hear.new.pass.pass.knows.trace in
    let v = arrived_in h.view r hand c.args.cost (arrived.Queued c.in-Queued.queue) in
    let kept = c.in-Queued.ensures.answer.history h.view h.kept in
    let own = still_own k old.book c.arrive-arrived.new.self h.view v old.tied c.in-Queued.ensures.same h.kept kept refl in
    let heard = c.hear.ensures.answer.history v kept in
    let own_then = still_own k c.arrive-arrived.new.self c.hear.new.self v v own c.hear.ensures.same kept heard refl in
    let did = came laws k known last h.view c.hear.new.self r hand c.args.cost (Enter r c.in-Queued.queue) own_then (c.in-Queued.ensures.answer.is_new h.view h.kept)
    (goes_on known c.arrive-arrived.new.self.desk.desk.knows.trace c.hear.new.self.desk.desk.knows.trace c.in-Queued.ensures.heard c.hear.ensures.same.more.trace) c.hear.ensures.follows heard in
    let read = c.hear.ensures.answer.answer.1 in
    let entered : c.hear.new.pass.pass.entered ≡ true = ap (λ (b : Both). b.pass.entered) read.5 ∙ c.in-Queued.ensures.after.entered.1 tt in
    let number : c.hear.new.pass.pass.number ≡ r = c.hear.ensures.same_request.number ∙ c.in-Queued.ensures.same_request.number in
    (entered, subst (λ (i : ℕ). Came k known i hand c.args.cost (Enter i c.in-Queued.queue) last) (sym number) did)

pub returns-in-Full-clause-stands : goal.returns-in-Full-clause-stands
returns-in-Full-clause-stands g c =
    let k = g.K.Naming.level in
    let laws = opened c.every_level_has_histories.ensures in
    let old = c.args.self.now in
    let h = c.has_a_history.ensures in
    let r = c.args.pass.now.pass.number in
    let hand = c.args.dealt.now in
    let known = c.args.pass.now.pass.knows.trace in
    let last = c.hear.new.pass.pass.knows.trace in
    let v = arrived_in h.view r hand c.args.cost (arrived.Full c.in-Full.queue) in
    let kept = c.in-Full.ensures.answer.history h.view h.kept in
    let own = still_own k old.book c.arrive-arrived.new.self h.view v old.tied c.in-Full.ensures.same h.kept kept refl in
    let heard = c.hear.ensures.answer.history v kept in
    let own_then = still_own k c.arrive-arrived.new.self c.hear.new.self v v own c.hear.ensures.same kept heard refl in
    let did = came laws k known last h.view c.hear.new.self r hand c.args.cost (Full r c.in-Full.queue) own_then (c.in-Full.ensures.answer.is_new h.view h.kept)
    (goes_on known c.arrive-arrived.new.self.desk.desk.knows.trace c.hear.new.self.desk.desk.knows.trace c.in-Full.ensures.heard c.hear.ensures.same.more.trace) c.hear.ensures.follows heard in
    let read = c.hear.ensures.answer.answer.1 in
    let told = c.in-Full.ensures.answer.told.1 in
    let none : told_own c.arrive-arrived.new.pass.pass ≢ None = λ is. absurd (let bad : ◌≡◌ {A = Option Decision} (Some QueueFull) None = sym told ∙ is in cc) in
    let number : c.hear.new.pass.pass.number ≡ r = c.hear.ensures.same_request.number ∙ c.in-Full.ensures.same_request.number in
    let entered : c.hear.new.pass.pass.entered ≡ false = ap (λ (b : Both). b.pass.entered) read.5 ∙ (search rules) in
    (c.hear.ensures.answer.told_pass none ∙ told, entered, subst (λ (i : ℕ). Came k known i hand c.args.cost (Full i c.in-Full.queue) last) (sym number) did)

on_heard : (a b c last : List Entry) → (later : List Entry) × (later ++ a ≡ b) → (newer : List Entry) × (c ≡ newer ++ b) → last ≡ c → (later : List Entry) × (later ++ a ≡ last)
on_heard a b c last heard more follows = let on = goes_on a b c heard more in (on.0, on.1 ∙ sym follows)

pub returns-in-Queued-clause-goes_on : goal.returns-in-Queued-clause-goes_on
returns-in-Queued-clause-goes_on g c = on_heard c.args.pass.now.pass.knows.trace c.arrive-arrived.new.self.desk.desk.knows.trace c.hear.new.self.desk.desk.knows.trace c.hear.new.pass.pass.knows.trace c.in-Queued.ensures.heard c.hear.ensures.same.more.trace c.hear.ensures.follows

pub returns-in-Full-clause-goes_on : goal.returns-in-Full-clause-goes_on
returns-in-Full-clause-goes_on g c = on_heard c.args.pass.now.pass.knows.trace c.arrive-arrived.new.self.desk.desk.knows.trace c.hear.new.self.desk.desk.knows.trace c.hear.new.pass.pass.knows.trace c.in-Full.ensures.heard c.hear.ensures.same.more.trace c.hear.ensures.follows

pub returns-in-Closed-clause-goes_on : goal.returns-in-Closed-clause-goes_on
returns-in-Closed-clause-goes_on g c = on_heard c.args.pass.now.pass.knows.trace c.arrive-arrived.new.self.desk.desk.knows.trace c.hear.new.self.desk.desk.knows.trace c.hear.new.pass.pass.knows.trace c.in-Closed.ensures.heard c.hear.ensures.same.more.trace c.hear.ensures.follows

pub returns-in-Cancelled-clause-goes_on : goal.returns-in-Cancelled-clause-goes_on
returns-in-Cancelled-clause-goes_on g c = on_heard c.args.pass.now.pass.knows.trace c.arrive-arrived.new.self.desk.desk.knows.trace c.hear.new.self.desk.desk.knows.trace c.hear.new.pass.pass.knows.trace c.in-Cancelled.ensures.heard c.hear.ensures.same.more.trace c.hear.ensures.follows
