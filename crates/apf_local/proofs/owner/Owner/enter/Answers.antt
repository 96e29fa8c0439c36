-- The request arrives in the line, and its exchange is not lost.
use Rattle.std.proofs.Common.{rules, ◌≡◌, ◌≢◌, ◌≤◌, ◌++◌, List, length, set, inl, sym, ap, ◌∙◌, subst, ℕ, arith}
use Rattle.std.proofs.lemmas.List.Elements.{All-set}
use Rattle.std.specs.Prelude.{map, false}
use Rattle.apf_model.specs.declared.response.Response.TheVariants.{Queue}
use Rattle.apf_model.specs.History.{has_arrived}
use Rattle.apf_gate.specs.declared.record.Actor.TheVariants.{OfPass}
use Rattle.apf_gate.specs.Ends.{IsEnded}
use Rattle.apf_gate.specs.Steps.{Both}
use Rattle.apf_gate.specs.Tokens.{GateId, PassToken, StationToken, pass_gate}
use Rattle.apf_book.specs.Life.{LifeView, IsAskedBy, sizes_of}
use Rattle.apf_book.specs.LifeBook.{LifeBookView, IsLifeKept, arrived_in}
use Rattle.apf_book.specs.declared.arrived.Arrived.{Arrived}
use Rattle.apf_book.specs.declared.arrived.Arrived.TheVariants as arrived
use Rattle.apf_book.specs.Said.{saying}
use Rattle.apf_book.specs.Tries.{IsNewTo, RacesArrival}
use Rattle.apf_local.specs.Worlds.{HasComeIn}
use Rattle.apf_local.specs.Owners.{OwnerView, Enters}
use Rattle.apf_local.proofs.Places.{set_again, not_less, was, moved, heard}
use Rattle.apf_local.proofs.Hearing.{asked_then, goes_on_more}
use Rattle.apf_local.proofs.Entering.{entered, step_stays}
use Rattle.apf_local.proofs.Worlds.{said_came}
use Rattle.apf_local.proofs.owner.Owner.enter.Goals as goal

pub try_arrive-requires-clause-has_queues : goal.try_arrive-requires-clause-has_queues
try_arrive-requires-clause-has_queues c =
    let o : OwnerView = record { gate = c.self.inside.gate; response = c.self.inside.response; book = c.self.inside.book; passes = c.self.inside.passes.items; stations = c.self.inside.stations.items } in
    let blocked = c.requires.blocked c.index_mut.result.now (was o c.args.self.now c.args.slot c.index_mut.result.now c.self.view_is c.requires.is_slot c.index_mut.ensures.value) in
    let own : pass_gate c.index_mut.result.now ≡ c.self.inside.gate = (search rules) in
    ap (λ (g : GateId). g.shape.response) (sym own) ∙ blocked.queues

pub try_arrive-requires-clause-is_new : goal.try_arrive-requires-clause-is_new
try_arrive-requires-clause-is_new c =
    let o : OwnerView = record { gate = c.self.inside.gate; response = c.self.inside.response; book = c.self.inside.book; passes = c.self.inside.passes.items; stations = c.self.inside.stations.items } in
    let blocked = c.requires.blocked c.index_mut.result.now (was o c.args.self.now c.args.slot c.index_mut.result.now c.self.view_is c.requires.is_slot c.index_mut.ensures.value) in
    let e1 : c.index_mut-2.result.now ≡ c.ask.new.pass = (search rules) in
    subst (λ (t : PassToken). IsNewTo c.self.inside.book t) (sym e1) (record { in_line = c.ask.ensures.after.in_line blocked.fresh; away = inl (c.ask.ensures.after.not_handed blocked.fresh).0 })

pub try_arrive-requires-clause-asked : goal.try_arrive-requires-clause-asked
try_arrive-requires-clause-asked c = λ none.
    let o : OwnerView = record { gate = c.self.inside.gate; response = c.self.inside.response; book = c.self.inside.book; passes = c.self.inside.passes.items; stations = c.self.inside.stations.items } in
    let blocked = c.requires.blocked c.index_mut.result.now (was o c.args.self.now c.args.slot c.index_mut.result.now c.self.view_is c.requires.is_slot c.index_mut.ensures.value) in
    let p : PassToken = c.index_mut.result.now in
    let a : PassToken = c.ask.new.pass in
    let e1 : c.index_mut-2.result.now ≡ a = (search rules) in
    let asks = blocked.asked in
    let here : IsAskedBy (sizes_of c.args.self.now.book.queues) a.pass.knows.trace c.args.dealt.now c.args.cost a.pass.number = record {
      ask = asks.ask;
      said = asked_then p.pass.knows.trace a.pass.knows.trace p.pass.number a.pass.number asks.ask (goes_on_more p.pass.knows a.pass.knows c.ask.ensures.same.more) c.ask.ensures.same.number asks.said;
      hand_is = asks.hand_is;
      cost_is = asks.cost_is;
    } in
    subst (λ (t : PassToken). IsAskedBy (sizes_of c.self.inside.book.queues) t.pass.knows.trace c.args.dealt.now c.args.cost t.pass.number) (sym e1)
    (subst (λ (x : OwnerView). IsAskedBy (sizes_of x.book.queues) a.pass.knows.trace c.args.dealt.now c.args.cost a.pass.number) (sym c.self.view_is) here)

pub invariant_of-self : goal.invariant_of-self
invariant_of-self c =
    let o : OwnerView = record { gate = c.self.inside.gate; response = c.self.inside.response; book = c.self.inside.book; passes = c.self.inside.passes.items; stations = c.self.inside.stations.items } in
    let own : pass_gate c.index_mut-2.result.now ≡ c.self.inside.gate = (search rules) in
    heard o c.self.invariant c.args.slot c.try_arrive.new.pass c.try_arrive.new.self _ (c.try_arrive.ensures.same_request.pass ∙ own) c.try_arrive.ensures.same c.try_arrive.ensures.follows
    (set_again c.self.inside.passes.items c.args.slot c.ask.new.pass c.try_arrive.new.pass)

pub unreachable-requires : goal.unreachable-requires
unreachable-requires c =
    let o : OwnerView = record { gate = c.self.inside.gate; response = c.self.inside.response; book = c.self.inside.book; passes = c.self.inside.passes.items; stations = c.self.inside.stations.items } in
    let here = c.gather.ensures.here in
    let gate : GateId = c.self.inside.gate in
    let i : ℕ = c.args.slot in
    let ps : List PassToken = c.self.inside.passes.items in
    let ts : List StationToken = c.self.inside.stations.items in
    let b0 : LifeBookView = c.self.inside.book in
    let b1 : LifeBookView = c.try_arrive.new.self in
    let a : PassToken = c.ask.new.pass in
    let p1 : PassToken = c.try_arrive.new.pass in
    let e1 : c.index_mut-2.result.now ≡ a = (search rules) in
    let races : RacesArrival b0 a b1 p1 = subst (λ (t : PassToken). RacesArrival b0 t b1 p1) e1 c.in-None.ensures.raced in
    let before : Both = races.loses.before in
    let after : Both = record { pass = p1.pass; desk = b1.desk.desk } in
    let number : p1.pass.number ≡ before.pass.number = c.try_arrive.ensures.same_request.number ∙ (ap (λ (t : PassToken). t.pass.number) e1 ∙ sym races.loses.number) in
    let more = not_less b0.desk.desk.knows before.desk.knows races.loses.desk_more in
    let asks = c.ask.ensures.answer in
    let trace = ap (λ (k : _). k.trace) asks.1.is_after in
    let known = ap (λ (q : _). q.knows.trace) asks.5 in
    let ended : IsEnded gate b1.desk.desk (set ps i p1) ts here.0 = subst (λ (xs : List PassToken). IsEnded gate b1.desk.desk xs ts here.0) (set_again ps i a p1) here.1 in
    c.no_exchange_is_lost.ensures.enter gate (set ps i p1) ts here.0 before after ended
    (All-set (λ (t : PassToken). t.pass.number ≢ before.pass.number → length t.pass.knows.trace ≤ length before.desk.knows.trace) ps i p1 (λ ne. absurd (ne number)) (λ k t at ne. let l = c.self.invariant.newest k t at in omega arith))
    (λ k t at. let l = c.self.invariant.stations_newest k t at in omega arith)
    (step_stays (OfPass before.pass.number) _ _ before.pass.knows.trace (ap OfPass (sym (races.loses.number ∙ c.ask.ensures.same.number))) (races.loses.pass_more.0, ap (λ es. races.loses.pass_more.0 ++ es) (sym (known ∙ trace)) ∙ races.loses.pass_more.1))
    races.loses.raced

pub returns-clause-enters : goal.returns-clause-enters
returns-clause-enters c =
    let o : OwnerView = record { gate = c.self.inside.gate; response = c.self.inside.response; book = c.self.inside.book; passes = c.self.inside.passes.items; stations = c.self.inside.stations.items } in
    let p : PassToken = c.index_mut.result.now in
    let a : PassToken = c.ask.new.pass in
    let p1 : PassToken = c.try_arrive.new.pass in
    let e1 : c.index_mut-2.result.now ≡ a = (search rules) in
    let same = c.try_arrive.ensures.same_request in
    let n1 : c.index_mut-2.result.now.pass.number ≡ p.pass.number = ap (λ (t : PassToken). t.pass.number) e1 ∙ c.ask.ensures.same.number in
    let own : pass_gate c.index_mut-2.result.now ≡ c.self.inside.gate = (search rules) in
    let blocked = c.requires.blocked p (was o c.args.self.now c.args.slot p c.self.view_is c.requires.is_slot c.index_mut.ensures.value) in
    let begins : pass_gate p ≡ c.self.inside.gate = (search rules) in
    let queues : p1.pass.knows.shape.response ≡ Queue = ap (λ (g : GateId). g.shape.response) (same.pass ∙ (own ∙ sym begins)) ∙ blocked.queues in
    let kept = λ (v : LifeView) (is : IsLifeKept v c.args.self.now.book). subst (λ (x : OwnerView). IsLifeKept v x.book) (sym c.self.view_is) is in
    moved o c.args.self.now c.args.slot p p1 _ (Enters c.args.self.now.book c.args.dealt.now c.args.cost c.in-Some.arrived c.try_arrive.new.self) c.self.view_is c.requires.is_slot c.index_mut.ensures.value (set_again c.self.inside.passes.items c.args.slot a p1) (record {
      number = same.number ∙ n1;
      is = entered c.self.inside.book c.try_arrive.new.self c.args.dealt.now c.args.cost c.index_mut-2.result.now p1 c.in-Some.arrived c.in-Some.ensures.answer c.in-Some.ensures.after queues;
      came = λ q is.
          let lived = c.has_a_history.ensures in
          let n : ℕ = c.index_mut-2.result.now.pass.number in
          let now : LifeBookView = c.try_arrive.new.self in
          let of : IsLifeKept (arrived_in lived.view n c.args.dealt.now c.args.cost (arrived.Queued q)) now = subst (λ (a : Arrived). IsLifeKept (arrived_in lived.view n c.args.dealt.now c.args.cost a) now) is (c.in-Some.ensures.answer.history lived.view lived.kept) in
          subst (λ (r : ℕ). HasComeIn now r) (sym same.number) (said_came now.desk.desk.knows.shape n now.desk.desk.knows.trace (map saying lived.view.history) (sym of.agrees.said));
      is_new = λ v is. subst (λ (r : ℕ). has_arrived v.history r ≡ false) n1 (c.in-Some.ensures.answer.is_new v (kept v is));
      history = λ v is. subst (λ (r : ℕ). IsLifeKept (arrived_in v r c.args.dealt.now c.args.cost c.in-Some.arrived) c.try_arrive.new.self) n1 (c.in-Some.ensures.answer.history v (kept v is));
    })
