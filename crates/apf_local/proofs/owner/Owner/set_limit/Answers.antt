-- The limit is set, and its exchange is not lost.
use Rattle.std.proofs.Common.{rules, ◌≡◌, ◌≢◌, ◌<◌, ◌≤◌, List, length, set, refl, ap, ◌∙◌, subst, arith}
use Rattle.std.proofs.lemmas.List.{length-set}
use Rattle.std.proofs.lemmas.List.Elements.{All-set}
use Rattle.std.proofs.lemmas.List.Quantifiers.{any-set}
use Rattle.std.proofs.lemmas.Option.{slice_get_read}
use Rattle.std.specs.Prelude.{slice_get, Some}
use Rattle.apf_gate.specs.declared.answers.TrySetLimit.TheVariants as answers
use Rattle.apf_gate.specs.Ends.{IsEnded}
use Rattle.apf_gate.specs.Records.{KnowsMore}
use Rattle.apf_gate.specs.StationCalls.{TriesToSet}
use Rattle.apf_gate.specs.StationResults.{SameStation}
use Rattle.apf_gate.specs.Tokens.{GateId, PassToken, StationToken}
use Rattle.apf_gate.specs.Traces.{GoesOn}
use Rattle.apf_gate.specs.declared.record.Actor.TheVariants.{OfStation}
use Rattle.apf_book.specs.LifeBook.{LifeBookView}
use Rattle.apf_local.specs.Owners.{OwnerView}
use Rattle.apf_local.proofs.Knowing.{book_then}
use Rattle.apf_local.proofs.Places.{set_again, set_thrice, not_less, same_owner}
use Rattle.apf_local.proofs.owner.Owner.set_limit.Goals as goal

pub unreachable-requires : goal.unreachable-requires
unreachable-requires c =
    let here = c.gather.ensures.here in
    let gate : GateId = c.self.inside.gate in
    let ps : List PassToken = c.self.inside.passes.items in
    let ts : List StationToken = c.self.inside.stations.items in
    let b0 : LifeBookView = c.self.inside.book in
    let b1 : LifeBookView = c.hear_station.new.self in
    let s1 : StationToken = c.hear_station.new.station in
    let s2 : StationToken = c.try_set_limit.new.station in
    let e1 : c.index_mut-2.result.now ≡ s1 = (search rules) in
    let inside : 0 < length ts = (search rules) in
    let tries : TriesToSet s1.station c.args.limit answers.Raced s2.station = subst (λ (t : StationToken). TriesToSet t.station c.args.limit answers.Raced s2.station) e1 c.in-Raced.ensures.answer in
    let same : SameStation s1 s2 = subst (λ (t : StationToken). SameStation t s2) e1 c.try_set_limit.ensures.same in
    let follows = ap (λ l. length l) c.hear_station.ensures.follows in
    let more = not_less b0.desk.desk.knows b1.desk.desk.knows c.hear_station.ensures.same.more in
    let ended : IsEnded gate b1.desk.desk ps (set ts 0 s2) here.0 = subst (λ (xs : List StationToken). IsEnded gate b1.desk.desk ps xs here.0) (set_again ts 0 s1 s2) here.1 in
    c.no_exchange_is_lost.ensures.set_limit gate b1.desk.desk ps (set ts 0 s2) here.0 c.args.limit s1.station s2.station ended (record {
      there = any-set (λ (t : StationToken). t.station ≡ s2.station) ts 0 s2 inside refl;
      passes_saw = λ k t at. let l = c.self.invariant.newest k t at in omega arith;
      desk_saw = omega arith;
      stations_saw = All-set (λ (t : StationToken). t.station.number ≢ s1.station.number → length t.station.knows.trace ≤ length s1.station.knows.trace) ts 0 s2 (λ ne. absurd (ne same.number)) (λ k t at ne. let l = c.self.invariant.stations_newest k t at in omega arith);
    }) tries

pub returns-clause-same : goal.returns-clause-same
returns-clause-same c =
    let o : OwnerView = record { gate = c.self.inside.gate; response = c.self.inside.response; book = c.self.inside.book; passes = c.self.inside.passes.items; stations = c.self.inside.stations.items } in
    let ts : List StationToken = c.self.inside.stations.items in
    same_owner o c.args.self.now c.self.view_is c.hear_station-in-Set.new.self (book_then c.self.inside.book c.hear_station.new.self c.hear_station-in-Set.new.self c.hear_station.ensures.same c.hear_station-in-Set.ensures.same) _ refl _
    (ap (λ (xs : List StationToken). length xs) (set_thrice ts 0 c.hear_station.new.station c.try_set_limit.new.station c.hear_station-in-Set.new.station) ∙ length-set ts 0 c.hear_station-in-Set.new.station)

pub returns-clause-sets : goal.returns-clause-sets
returns-clause-sets c =
    let ts : List StationToken = c.self.inside.stations.items in
    let s0 : StationToken = c.index_mut.result.now in
    let s1 : StationToken = c.hear_station.new.station in
    let s2 : StationToken = c.try_set_limit.new.station in
    let s3 : StationToken = c.hear_station-in-Set.new.station in
    let e1 : c.index_mut-2.result.now ≡ s1 = (search rules) in
    let e2 : c.index_mut-in-Set.result.now ≡ s2 = (search rules) in
    let inside : 0 < length ts = (search rules) in
    record {
      before = s0;
      after = s3;
      was = subst (λ (x : OwnerView). slice_get x.stations 0 ≡ Some s0) c.self.view_is (slice_get_read ts (length ts) 0 s0 refl inside c.index_mut.ensures.value);
      now = set_thrice ts 0 s1 s2 s3 ∙ ap (λ (x : OwnerView). set x.stations 0 s3) c.self.view_is;
      number = c.hear_station-in-Set.ensures.same_station.1 ∙ (ap (λ (t : StationToken). t.station.number) e2 ∙ (c.try_set_limit.ensures.same.number ∙ (ap (λ (t : StationToken). t.station.number) e1 ∙ c.hear_station.ensures.same_station.1)));
      heard = s1.station;
      did = s2.station;
      more = c.hear_station.ensures.same_station.2;
      of_others = c.hear_station.ensures.of_others;
      does = (c.in-Set._waiting, subst (λ (t : StationToken). TriesToSet t.station c.args.limit (answers.Set c.in-Set.old c.in-Set._waiting) s2.station) e1 c.in-Set.ensures.answer);
      told = subst (λ (t : StationToken). KnowsMore t.station.knows s3.station.knows) e2 c.hear_station-in-Set.ensures.same_station.2;
      then_of_others = subst (λ (t : StationToken). GoesOn s3.station.knows.trace (OfStation t.station.number) t.station.knows.trace) e2 c.hear_station-in-Set.ensures.of_others;
    }
