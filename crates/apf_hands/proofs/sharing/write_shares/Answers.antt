-- One flow more that shares a queue, by its place.
use Rattle.std.proofs.Common.{◌≡◌, ◌<◌, ℕ, List, Bor, ◌++◌, None, Some, length, drop, take, map, min, sym, ◌∙◌, ap, arith, rules}
use Rattle.std.specs.List.{reduce}
use Rattle.std.proofs.lemmas.List.{get_or-map, length-map, take_at}
use Rattle.apf_hands.specs.declared.dealt.Dealt.{Dealt}
use Rattle.apf_hands.specs.Dealt.{flow_of, flows_of}
use Rattle.apf_hands.specs.Holders.{behind, first_places, lists_of, places_at}
use Rattle.apf_hands.proofs.Merged.{IsLeast, fewer, how_many, least_is, least_none, next_within, shared_all, shared_more, shared_none}
use Rattle.apf_hands.proofs.Written.{appends_none}
use Rattle.apf_hands.proofs.sharing.write_shares.Goals as goal

abbrev Rest : Type 0
Rest = Bor (List ℕ)

refilled : {X : Type 0} (ws xs : List X) → length ws ≡ length xs → take (length xs) (ws ++ drop (length ws) xs) ≡ ws
refilled ws xs long = take_at ws (drop (length ws) xs) (length xs) long

pub loop-place-init : goal.loop-place-init
loop-place-init g c =
    let was = g.W.Write.contents c.args.out.now in
    let places = places_at c.args.holders.now in
    shared_none (flow_of c.args.flow.now) (flows_of c.args.flows.now) places (lists_of c.rests_of-rests.result.items) was c.requires
    (c.rests_of-rests.ensures ∙ ap (λ (hand : List ℕ). map places hand) c.as_slice.ensures.value) (appends_none was)

first_is : (rests read : List Rest) (place : ℕ) → read ≡ rests → Some place ≡ reduce min (first_places (lists_of read)) → IsLeast (lists_of rests) place
first_is rests read place same is =
    least_is (first_places (lists_of rests)) place (ap (λ (rs : List Rest). reduce min (first_places (lists_of rs))) (sym same) ∙ sym is)

pub bounds-flows-place : goal.bounds-flows-place
bounds-flows-place g c =
    let told = g.W.Write.contents in
    let within = next_within (flow_of c.args.flow.now) (flows_of c.args.flows.now) (lists_of c.loop-place.rests.items) (told c.args.out.now) (told c.loop-place.out) c.in-Some.place c.loop-place.invariant
    (first_is c.loop-place.rests.items c.as_slice-in-loop-place.result.now c.in-Some.place c.as_slice-in-loop-place.ensures.value c.in-Some.ensures) in
    let long = length-map c.args.flows.now flow_of in
    omega (arith, within, long)

pub offset_bounds-flows-place : goal.offset_bounds-flows-place
offset_bounds-flows-place g c =
    let told = g.W.Write.contents in
    let within = next_within (flow_of c.args.flow.now) (flows_of c.args.flows.now) (lists_of c.loop-place.rests.items) (told c.args.out.now) (told c.loop-place.out) c.in-Some.place c.loop-place.invariant
    (first_is c.loop-place.rests.items c.as_slice-in-loop-place.result.now c.in-Some.place c.as_slice-in-loop-place.ensures.value c.in-Some.ensures) in
    let long = length-map c.args.flows.now flow_of in
    let low : c.in-Some.place < length c.args.flows.now = omega (arith, within, long) in
    search (rules, low)

pub returns : goal.returns
returns g c =
    let told = g.W.Write.contents in
    let rests = lists_of c.loop-place.rests.items in
    let none : reduce min (first_places rests) ≡ None =
    ap (λ (rs : List Rest). reduce min (first_places (lists_of rs))) (sym c.as_slice-in-loop-place.ensures.value) ∙ sym c.in_default.ensures in
    shared_all (flow_of c.args.flow.now) (flows_of c.args.flows.now) rests (told c.args.out.now) (told c.loop-place.out) c.loop-place.invariant (least_none (first_places rests) none)

-- what is left of each queue
passed : (rests lent new : List Rest) (place : ℕ) → lent ≡ rests → length new ≡ length lent → lists_of new ≡ map (behind place) (lists_of lent)
    → lists_of (take (length rests) (new ++ drop (length new) rests)) ≡ map (behind place) (lists_of rests)
passed rests lent new place same long is =
    ap (λ (rs : List Rest). lists_of rs) (refilled new rests (long ∙ ap (λ (rs : List Rest). length rs) same)) ∙ is ∙ ap (λ (rs : List Rest). map (behind place) (lists_of rs)) same

pub loop-place-preserved : goal.loop-place-preserved
loop-place-preserved g c =
    let told = g.W.Write.contents in
    let flows = c.args.flows.now in
    let place = c.in-Some.place in
    let dealt : Dealt = c.index-flows-place.result in
    let rests = c.loop-place.rests.items in
    let new = c.pass.new.rests in
    let first = first_is rests c.as_slice-in-loop-place.result.now place c.as_slice-in-loop-place.ensures.value c.in-Some.ensures in
    let within = next_within (flow_of c.args.flow.now) (flows_of flows) (lists_of rests) (told c.args.out.now) (told c.loop-place.out) place c.loop-place.invariant first in
    let long = length-map flows flow_of in
    let low : place < length flows = omega (arith, within, long) in
    shared_more (flow_of c.args.flow.now) (flows_of flows) (lists_of rests) (lists_of (take (length rests) (new ++ drop (length new) rests))) (told c.args.out.now) (told c.loop-place.out) (told c.write_share.new.out)
    place (flow_of dealt) c.loop-place.invariant first
    (ap flow_of c.index-flows-place.is ∙ sym (get_or-map flow_of flows place dealt (flow_of dealt) low))
    c.in_ok-write_share.ensures
    (passed rests c.as_mut_slice.result.now new place c.as_mut_slice.ensures.value c.pass.auto.rests c.pass.ensures)

pub loop-place-smaller : goal.loop-place-smaller
loop-place-smaller g c =
    let place = c.in-Some.place in
    let rests = c.loop-place.rests.items in
    let new = c.pass.new.rests in
    let first = first_is rests c.as_slice-in-loop-place.result.now place c.as_slice-in-loop-place.ensures.value c.in-Some.ensures in
    let less = fewer place (lists_of rests) first.0 in
    let same = ap (λ (ls : List (List ℕ)). how_many ls) (passed rests c.as_mut_slice.result.now new place c.as_mut_slice.ensures.value c.pass.auto.rests c.pass.ensures) in
    omega (arith, less, same)
