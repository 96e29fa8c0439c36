-- The slot's request takes its seats, and its exchange is not lost.
use Rattle.std.proofs.Common.{rules, ◌≡◌, ◌≢◌, ◌<◌, ◌≤◌, List, length, set, refl, sym, ap, ◌∙◌, subst, ℕ, arith}
use Rattle.std.proofs.lemmas.List.{length-set}
use Rattle.std.proofs.lemmas.List.Elements.{All-set}
use Rattle.std.proofs.lemmas.List.Quantifiers.{any-set}
use Rattle.apf_model.specs.declared.response.Response.{Response}
use Rattle.apf_gate.specs.Records.{KnowsMore}
use Rattle.apf_line.specs.Tokens.{IsOf}
use Rattle.apf_gate.specs.declared.answers.TryTake.TheVariants as tried
use Rattle.apf_gate.specs.declared.record.Entry.{Entry}
use Rattle.apf_gate.specs.PassCalls.{TriesToTake}
use Rattle.apf_gate.specs.PassResults.{SamePass}
use Rattle.apf_gate.specs.Tokens.{GateId, PassToken, StationToken, pass_gate}
use Rattle.apf_book.specs.BookResults.{SameRequest}
use Rattle.apf_book.specs.LifeBook.{LifeBookView}
use Rattle.apf_book.specs.LifeCalls.{HearsLife}
use Rattle.apf_line.specs.declared.attempts.Tried.{Tried}
use Rattle.apf_line.specs.declared.attempts.Tried.TheVariants as tries
use Rattle.apf_line.specs.Attempts.{Takes, HasQueuesIf}
use Rattle.apf_local.specs.Owners.{OwnerView, Comes}
use Rattle.apf_local.proofs.Places.{set_again, was, moved, same_owner, heard}
use Rattle.apf_local.proofs.Hearing.{goes_on_more, asked_then}
use Rattle.apf_local.proofs.Begun.{begun}
use Rattle.apf_local.proofs.owner.Owner.take_seats.Goals as goal

same_pass : (t t' : PassToken) → IsOf t t' → KnowsMore t.pass.knows t'.pass.knows → SamePass t t'
same_pass t t' of more = record { gate = of.gate; number = of.number; more = more }

pub take-tried-requires-clause-queues : goal.take-tried-requires-clause-queues
take-tried-requires-clause-queues c = subst (λ (r : Response). HasQueuesIf c.has_queues.result r) c.self.invariant.response_is c.has_queues.ensures

pub take-tried-requires-clause-fresh : goal.take-tried-requires-clause-fresh
take-tried-requires-clause-fresh c =
    let o : OwnerView = record { gate = c.self.inside.gate; response = c.self.inside.response; book = c.self.inside.book; passes = c.self.inside.passes.items; stations = c.self.inside.stations.items } in
    let own : pass_gate c.index_mut.result.now ≡ c.self.inside.gate = (search rules) in
    record {
      own = own;
      fresh = (c.requires.fresh c.index_mut.result.now (was o c.args.self.now c.args.slot c.index_mut.result.now c.self.view_is c.requires.is_slot c.index_mut.ensures.value)).fresh;
    }

pub unreachable-requires : goal.unreachable-requires
unreachable-requires c =
    let o : OwnerView = record { gate = c.self.inside.gate; response = c.self.inside.response; book = c.self.inside.book; passes = c.self.inside.passes.items; stations = c.self.inside.stations.items } in
    let here = c.gather.ensures.here in
    let gate : GateId = c.self.inside.gate in
    let i : ℕ = c.args.slot in
    let ps : List PassToken = c.self.inside.passes.items in
    let ts : List StationToken = c.self.inside.stations.items in
    let b : LifeBookView = c.self.inside.book in
    let h1 : PassToken = c.index_mut.result.now in
    let t1 : PassToken = c.take-tried.new.pass in
    let inside : i < length ps = (search rules) in
    let raced : c.take-tried.result ≡ tries.Raced = (search rules) in
    let raced_then : TriesToTake h1.pass tried.Raced t1.pass = subst (λ (x : Tried). Takes h1.pass x t1.pass) raced c.take-tried.ensures.takes in
    let same : SamePass h1 t1 = same_pass h1 t1 c.take-tried.ensures.after.same c.take-tried.ensures.more in
    let at1 = was o c.args.self.now i h1 c.self.view_is c.requires.is_slot c.index_mut.ensures.value in
    let follows : h1.pass.knows.trace ≡ b.desk.desk.knows.trace = subst (λ (x : OwnerView). h1.pass.knows.trace ≡ x.book.desk.desk.knows.trace) (sym c.self.view_is) (c.requires.heard h1 at1) in
    let long = ap (λ (l : List Entry). length l) follows in
    c.no_exchange_is_lost.ensures.take gate b.desk.desk (set ps i t1) ts here.0 h1.pass t1.pass here.1
    (any-set (λ (t : PassToken). t.pass ≡ t1.pass) ps i t1 inside refl)
    (All-set (λ (t : PassToken). t.pass.number ≢ h1.pass.number → length t.pass.knows.trace ≤ length h1.pass.knows.trace) ps i t1 (λ ne. absurd (ne same.number)) (λ k t at ne. let l = c.self.invariant.newest k t at in omega arith))
    (omega arith)
    (λ k t at. let l = c.self.invariant.stations_newest k t at in omega arith)
    raced_then

pub invariant_of-self : goal.invariant_of-self
invariant_of-self c =
    let o : OwnerView = record { gate = c.self.inside.gate; response = c.self.inside.response; book = c.self.inside.book; passes = c.self.inside.passes.items; stations = c.self.inside.stations.items } in
    let own : pass_gate c.index_mut-2.result.now ≡ c.self.inside.gate = (search rules) in
    heard o c.self.invariant c.args.slot c.hear.new.pass c.hear.new.self _ (c.hear.ensures.same_request.pass ∙ own) c.hear.ensures.same c.hear.ensures.follows
    (set_again c.self.inside.passes.items c.args.slot c.take-tried.new.pass c.hear.new.pass)

pub returns-clause-same : goal.returns-clause-same
returns-clause-same c =
    let o : OwnerView = record { gate = c.self.inside.gate; response = c.self.inside.response; book = c.self.inside.book; passes = c.self.inside.passes.items; stations = c.self.inside.stations.items } in
    let ps : List PassToken = c.self.inside.passes.items in
    same_owner o c.args.self.now c.self.view_is c.hear.new.self c.hear.ensures.same _
    (ap (λ (xs : List PassToken). length xs) (set_again ps c.args.slot c.take-tried.new.pass c.hear.new.pass) ∙ length-set ps c.args.slot c.hear.new.pass) _ refl

pub returns-clause-takes : goal.returns-clause-takes
returns-clause-takes c =
    let o : OwnerView = record { gate = c.self.inside.gate; response = c.self.inside.response; book = c.self.inside.book; passes = c.self.inside.passes.items; stations = c.self.inside.stations.items } in
    let b1 : LifeBookView = c.self.inside.book in
    let b2 : LifeBookView = c.hear.new.self in
    let h1 : PassToken = c.index_mut.result.now in
    let t1 : PassToken = c.take-tried.new.pass in
    let h2 : PassToken = c.hear.new.pass in
    let e3 : c.index_mut-2.result.now ≡ t1 = (search rules) in
    let fresh = c.requires.fresh h1 (was o c.args.self.now c.args.slot h1 c.self.view_is c.requires.is_slot c.index_mut.ensures.value) in
    let same2 : SamePass h1 t1 = same_pass h1 t1 c.take-tried.ensures.after.same c.take-tried.ensures.more in
    let same3 : SameRequest t1 h2 = subst (λ (t : PassToken). SameRequest t h2) e3 c.hear.ensures.same_request in
    let hears2 : HearsLife b1 t1 b2 h2 = subst (λ (t : PassToken). HearsLife b1 t b2 h2) e3 c.hear.ensures.answer in
    let never : c.take-tried.result ≢ tries.Raced = (search rules) in
    let asked1 = asked_then h1.pass.knows.trace t1.pass.knows.trace h1.pass.number t1.pass.number (record { hash = c.args.ask.hash; cost = c.args.ask.cost }) (goes_on_more h1.pass.knows t1.pass.knows same2.more) same2.number fresh.asked in
    moved o c.args.self.now c.args.slot h1 h2 _ (Comes c.args.ask c.take-tried.result) c.self.view_is c.requires.is_slot c.index_mut.ensures.value (set_again c.self.inside.passes.items c.args.slot t1 h2) (record {
      number = same3.number ∙ same2.number;
      is = begun c.args.ask b1 b2 h1 t1 h2 same3 hears2 c.take-tried.result never c.take-tried.ensures.takes asked1;
    })
