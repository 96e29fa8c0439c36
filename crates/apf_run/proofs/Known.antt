-- What a Station knows of the slots of its worker.
use Rattle.std.specs.Prelude.{Some, slice_get}
use Rattle.std.proofs.Common.{◌≡◌, ◌≢◌, ℕ, ◌+◌, ◌<◌, ◌≤◌, true, List, [], ◌∷◌, ◌++◌, All, Option, None, sym, ap, ◌∙◌, subst, arith, inl, inr}
use Rattle.std.proofs.lemmas.Bool.{cases_eq}
use Rattle.apf_files.specs.declared.requests.Request.{Request}
use Rattle.apf_gate.specs.Records.{told_of, KnowsMore}
use Rattle.apf_gate.specs.Slots.{slot_of, round_of, number_of}
use Rattle.apf_gate.specs.declared.record.Asked.{Asked}
use Rattle.apf_gate.specs.declared.record.Entry.{Entry}
use Rattle.apf_gate.specs.Traces.{asked_in, first_ask, ask_by}
use Rattle.apf_gate.specs.Tokens.{PassToken, StationToken}
use Rattle.apf_run.specs.Plans.{closes_at, closes_it}
use Rattle.apf_run.specs.RoundsPlans.{number_in, width_it_asks, ask_it_asks}
use Rattle.apf_run.specs.RoundsWorkers.{KeepsKnowing, IsKnown, HasAsked}
use Rattle.apf_run.proofs.Numbers.{slot_is, round_is}

-- who knows more keeps knowing
pub keeps : (s s' : StationToken) → KnowsMore s.station.knows s'.station.knows → KeepsKnowing s s'
keeps s s' more = record {
  closed = more.closed;
  told = λ r was none. was (sym (more.told r was) ∙ none);
}

pub keeps_itself : (s : StationToken) → KeepsKnowing s s
keeps_itself s = record { closed = λ saw. saw; told = λ r was. was }

-- one step after another
pub keeps_on : (a b c : StationToken) → KeepsKnowing a b → KeepsKnowing b c → KeepsKnowing a c
keeps_on a b c first then = record {
  closed = λ saw. then.closed (first.closed saw);
  told = λ r was. then.told r (first.told r was);
}

pub still_known : (requests : List Request) (s s' : StationToken) (t : PassToken) → KeepsKnowing s s' → IsKnown requests s t → IsKnown requests s' t
still_known requests s s' t keeps known = record {
  closed = λ came closes. keeps.closed (known.closed came closes);
  told = λ round came below. keeps.told _ (known.told round came below);
}

pub all_still_known : (requests : List Request) (s s' : StationToken) (ts : List PassToken) → KeepsKnowing s s' → All (IsKnown requests s) ts → All (IsKnown requests s') ts
all_still_known requests s s' ts keeps known k d low = still_known requests s s' _ keeps (known k d low)

-- no request of the slot came: nothing is to be known
pub first_known : (requests : List Request) (s : StationToken) (t : PassToken) → round_of t.pass.number ≡ 0 → IsKnown requests s t
first_known requests s t first = record {
  closed = λ came. absurd (omega (arith, came, first));
  told = λ round came below. absurd (omega (arith, came, below, first));
}

-- the slot had one more request, whose decision the Station was told
pub one_more_known : (requests : List Request) (s s' : StationToken) (t t' : PassToken) → KeepsKnowing s s' → IsKnown requests s t
    → slot_of t'.pass.number ≡ slot_of t.pass.number → round_of t'.pass.number ≡ round_of t.pass.number + 1
    → (closes_at requests (slot_of t.pass.number) ≡ true → s'.station.knows.saw_closed ≡ true)
    → told_of s'.station.knows.told (number_in requests (slot_of t.pass.number) (round_of t.pass.number + 1)) ≢ None → IsKnown requests s' t'
one_more_known requests s s' t t' keeps known slot round closes heard = record {
  closed = λ came closing. closes (ap (closes_at requests) (sym slot) ∙ closing);
  told = λ j came below. subst (λ (i : ℕ). told_of s'.station.knows.told (number_in requests i j) ≢ None) (sym slot)
      (elim (cases_eq j (round_of t.pass.number + 1)) [
        | inl is ↦ subst (λ (i : ℕ). told_of s'.station.knows.told (number_in requests (slot_of t.pass.number) i) ≢ None) (sym is) heard
        | inr differs ↦ keeps.told _ (known.told j came (omega (arith, below, round, differs)))
      ]);
}

-- the slot's request of this round was brought to its end: the Station closed the level if that says so, and heard how it was decided
pub handled : (requests : List Request) (s closed done s' : StationToken) (t t' : PassToken) (request : Request) (round : ℕ)
    → slice_get requests (slot_of t.pass.number) ≡ Some request → request.width ≤ 20000 → round_of t.pass.number + 1 ≡ round
    → KeepsKnowing s closed → (request.closes ≡ true → closed.station.knows.saw_closed ≡ true) → KeepsKnowing closed done → KeepsKnowing done s'
    → t'.pass.number ≡ number_of (slot_of t.pass.number) round request.width → told_of s'.station.knows.told t'.pass.number ≢ None → IsKnown requests s t → IsKnown requests s' t'
handled requests s closed done s' t t' request round at narrow before first closes then last number told known =
    let slot : ℕ = slot_of t.pass.number in
    let low : slot < 16384 = omega arith in
    let same : slot_of t'.pass.number ≡ slot = ap slot_of number ∙ slot_is slot round request.width low in
    let next : round_of t'.pass.number ≡ round = ap round_of number ∙ round_is slot round request.width low (omega (arith, narrow)) in
    let is : t'.pass.number ≡ number_in requests slot (round_of t.pass.number + 1) =
    number ∙ (ap (λ (w : ℕ). number_of slot round w) (sym (ap width_it_asks at)) ∙ ap (λ (n : ℕ). number_in requests slot n) (sym before)) in
    one_more_known requests s s' t t' (keeps_on s closed s' first (keeps_on closed done s' then last)) known same (next ∙ sym before)
    (λ closing. last.closed (then.closed (closes (sym (ap closes_it at) ∙ closing))))
    (subst (λ (r : ℕ). told_of s'.station.knows.told r ≢ None) is told)

ask_stays : (newer older : List Entry) (r : ℕ) (ask : Asked) → asked_in older r ≡ Some ask → asked_in (newer ++ older) r ≡ Some ask
ask_stays [] older r ask is = is
ask_stays (e ∷ newer) older r ask is = ap (λ (x : Option Asked). first_ask x (ask_by e.by e.ask r)) (ask_stays newer older r ask is)

-- what a request asked for stays, as its steps go on
pub asked_still : (before after : List Entry) (r : ℕ) (ask : Asked) → (later : List Entry) × (later ++ before ≡ after) → asked_in before r ≡ Some ask → asked_in after r ≡ Some ask
asked_still before after r ask on is = ap (λ (es : List Entry). asked_in es r) (sym on.1) ∙ ask_stays on.0 before r ask is

-- no request of the slot came: nothing was asked
pub first_asked : (requests : List Request) (t : PassToken) → round_of t.pass.number ≡ 0 → HasAsked requests t
first_asked requests t first = λ round came below. absurd (omega (arith, came, below, first))

-- the slot had one more request, which asked for what its line says
pub one_more_asked : (requests : List Request) (t t' : PassToken) (request : Request) (round : ℕ)
    → slice_get requests (slot_of t.pass.number) ≡ Some request → request.width ≤ 20000 → round_of t.pass.number + 1 ≡ round
    → t'.pass.number ≡ number_of (slot_of t.pass.number) round request.width
    → (later : List Entry) × (later ++ t.pass.knows.trace ≡ t'.pass.knows.trace)
    → asked_in t'.pass.knows.trace t'.pass.number ≡ Some (record { hash = request.hash; cost = request.width }) → HasAsked requests t → HasAsked requests t'
one_more_asked requests t t' request round at narrow before number on new asked =
    let slot : ℕ = slot_of t.pass.number in
    let low : slot < 16384 = omega arith in
    let same : slot_of t'.pass.number ≡ slot = ap slot_of number ∙ slot_is slot round request.width low in
    let next : round_of t'.pass.number ≡ round = ap round_of number ∙ round_is slot round request.width low (omega (arith, narrow)) in
    let is : t'.pass.number ≡ number_in requests slot round = number ∙ ap (λ (w : ℕ). number_of slot round w) (sym (ap width_it_asks at)) in
    let here : asked_in t'.pass.knows.trace (number_in requests slot round) ≡ Some (ask_it_asks (slice_get requests slot)) =
    ap (asked_in t'.pass.knows.trace) (sym is) ∙ (new ∙ ap (λ (o : Option Request). Some (ask_it_asks o)) (sym at)) in
    λ j came below. subst (λ (i : ℕ). asked_in t'.pass.knows.trace (number_in requests i j) ≡ Some (ask_it_asks (slice_get requests i))) (sym same)
    (elim (cases_eq j round) [
      | inl is_new ↦ subst (λ (i : ℕ). asked_in t'.pass.knows.trace (number_in requests slot i) ≡ Some (ask_it_asks (slice_get requests slot))) (sym is_new) here
      | inr differs ↦ asked_still t.pass.knows.trace t'.pass.knows.trace (number_in requests slot j) (ask_it_asks (slice_get requests slot)) on (asked j came (omega (arith, below, next, differs, before)))
    ])
