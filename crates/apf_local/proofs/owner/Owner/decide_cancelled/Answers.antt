-- A request is decided, by the steps that the Desk heard of the Station.
use Rattle.std.proofs.Common.{rules, ◌≡◌, ℕ, List, length, refl, sym, ap, ◌∙◌, subst}
use Rattle.std.proofs.lemmas.List.{length-set}
use Rattle.apf_gate.specs.declared.answers.Cancel.{Cancel}
use Rattle.apf_gate.specs.declared.answers.Cancel.TheVariants as cancels
use Rattle.apf_gate.specs.Records.{KnowsMore}
use Rattle.apf_gate.specs.StationCalls.{TriesToCancel}
use Rattle.apf_gate.specs.Tokens.{GateId, StationToken, station_gate}
use Rattle.apf_book.specs.LifeBook.{LifeBookView}
use Rattle.apf_local.specs.Worlds.{HasComeIn}
use Rattle.apf_local.specs.Owners.{OwnerView}
use Rattle.apf_local.proofs.Knowing.{book_then}
use Rattle.apf_local.proofs.Places.{set_thrice, same_owner}
use Rattle.apf_local.proofs.Worlds.{came_more, came_same, told_desk, cancel_decides, cancel_ends}
use Rattle.apf_local.proofs.owner.Owner.decide_cancelled.Goals as goal

pub returns-clause-same : goal.returns-clause-same
returns-clause-same c =
    let o : OwnerView = record { gate = c.self.inside.gate; response = c.self.inside.response; book = c.self.inside.book; passes = c.self.inside.passes.items; stations = c.self.inside.stations.items } in
    let ts : List StationToken = c.self.inside.stations.items in
    same_owner o c.args.self.now c.self.view_is c.hear_station-2.new.self (book_then c.self.inside.book c.hear_station.new.self c.hear_station-2.new.self c.hear_station.ensures.same c.hear_station-2.ensures.same) _ refl _
    (ap (λ (xs : List StationToken). length xs) (set_thrice ts 0 c.hear_station.new.station c.cancel_without_wake-answer.new.station c.hear_station-2.new.station) ∙ length-set ts 0 c.hear_station-2.new.station)

pub returns-clause-decides : goal.returns-clause-decides
returns-clause-decides c = λ d is.
    let b2 : LifeBookView = c.hear_station-2.new.self in
    let s1 : StationToken = c.hear_station.new.station in
    let s2 : StationToken = c.cancel_without_wake-answer.new.station in
    let s3 : StationToken = c.hear_station-2.new.station in
    let r : ℕ = c.args.ticket.number in
    let e1 : c.index_mut-2.result.now ≡ s1 = (search rules) in
    let e2 : c.index_mut-3.result.now ≡ s2 = (search rules) in
    let own : station_gate c.index_mut-3.result.now ≡ c.self.inside.gate = (search rules) in
    let does : TriesToCancel s1.station r (cancels.Is d) s2.station = subst (λ (a : Cancel). TriesToCancel s1.station r a s2.station) is (subst (λ (t : StationToken). TriesToCancel t.station r c.cancel_without_wake-answer.result s2.station) e1 c.cancel_without_wake-answer.ensures.answer) in
    let more : KnowsMore s2.station.knows s3.station.knows = subst (λ (t : StationToken). KnowsMore t.station.knows s3.station.knows) e2 c.hear_station-2.ensures.same_station.2 in
    let shape = ap (λ (g : GateId). g.shape) (c.hear_station-2.ensures.same.gate ∙ (c.hear_station.ensures.same.gate ∙ (c.self.invariant.desk ∙ sym (c.hear_station-2.ensures.same_station.0 ∙ own)))) in
    told_desk b2 s2.station s3.station r more shape c.hear_station-2.ensures.follows (cancel_decides s1.station s2.station r d does)

pub returns-clause-ends : goal.returns-clause-ends
returns-clause-ends c = λ came.
    let b0 : LifeBookView = c.self.inside.book in
    let b1 : LifeBookView = c.hear_station.new.self in
    let b2 : LifeBookView = c.hear_station-2.new.self in
    let s1 : StationToken = c.hear_station.new.station in
    let s2 : StationToken = c.cancel_without_wake-answer.new.station in
    let s3 : StationToken = c.hear_station-2.new.station in
    let r : ℕ = c.args.ticket.number in
    let e1 : c.index_mut-2.result.now ≡ s1 = (search rules) in
    let e2 : c.index_mut-3.result.now ≡ s2 = (search rules) in
    let own1 : station_gate c.index_mut.result.now ≡ c.self.inside.gate = (search rules) in
    let own : station_gate c.index_mut-3.result.now ≡ c.self.inside.gate = (search rules) in
    let does : TriesToCancel s1.station r c.cancel_without_wake-answer.result s2.station = subst (λ (t : StationToken). TriesToCancel t.station r c.cancel_without_wake-answer.result s2.station) e1 c.cancel_without_wake-answer.ensures.answer in
    let more : KnowsMore s2.station.knows s3.station.knows = subst (λ (t : StationToken). KnowsMore t.station.knows s3.station.knows) e2 c.hear_station-2.ensures.same_station.2 in
    let shape = ap (λ (g : GateId). g.shape) (c.hear_station-2.ensures.same.gate ∙ (c.hear_station.ensures.same.gate ∙ (c.self.invariant.desk ∙ sym (c.hear_station-2.ensures.same_station.0 ∙ own)))) in
    let here : HasComeIn b0 r = subst (λ (x : OwnerView). HasComeIn x.book r) (sym c.self.view_is) came in
    let then : HasComeIn b1 r = came_more b0.desk.desk.knows b1.desk.desk.knows c.hear_station.ensures.same.more r here in
    let shape1 = ap (λ (g : GateId). g.shape) (c.hear_station.ensures.same_station.0 ∙ (own1 ∙ sym (c.hear_station.ensures.same.gate ∙ c.self.invariant.desk))) in
    told_desk b2 s2.station s3.station r more shape c.hear_station-2.ensures.follows (cancel_ends s1.station s2.station r c.cancel_without_wake-answer.result does (came_same b1.desk.desk.knows s1.station.knows r shape1 c.hear_station.ensures.follows then))
