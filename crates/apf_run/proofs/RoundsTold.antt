-- What the end of a level says of the requests that its workers ran.
use Rattle.std.proofs.Common.{◌≡◌, ◌≢◌, ℕ, ◌+◌, ◌*◌, ◌/◌, ◌%◌, ◌<◌, ◌≤◌, true, false, zero, suc, List, length, All, refl, sym, ap, ◌∙◌, subst, inr, arith}
use Rattle.std.specs.Prelude.{Option, Some, None, slice_get, slice_index_or}
use Rattle.std.proofs.lemmas.Option.{slice_get-get_or}
use Rattle.std.proofs.lemmas.Nat.{div_below, mod_below}
use Rattle.apf_words.specs.declared.decision.Decision.{Decision}
use Rattle.apf_words.specs.declared.decision.Decision.TheVariants.{Cancelled}
use Rattle.apf_words.specs.Level.{Level}
use Rattle.apf_model.specs.declared.config.Config.{Config}
use Rattle.apf_files.specs.declared.requests.Request.{Request}
use Rattle.apf_gate.specs.Counted.{total}
use Rattle.apf_gate.specs.Gauges.{max_numbers}
use Rattle.apf_gate.specs.Records.{told_of}
use Rattle.apf_gate.specs.Slots.{slot_of, round_of}
use Rattle.apf_gate.specs.declared.record.Entry.{Entry}
use Rattle.apf_gate.specs.Traces.{world_of, asked_in}
use Rattle.apf_gate.specs.Tokens.{PassToken, StationToken}
use Rattle.apf_gate.specs.Ends.{WroteCancelled, ClosedFirst}
use Rattle.apf_line.specs.Levels.{LifeId}
use Rattle.apf_line.specs.declared.report.Report.{Report}
use Rattle.apf_line.specs.Reports.{Ended}
use Rattle.apf_run.specs.Plans.{SomeCloses, closes_it, closes_at}
use Rattle.apf_run.proofs.Gathered.{of_one, of_one_of}
use Rattle.apf_run.proofs.Limits.{limit_kept}
use Rattle.apf_run.specs.RoundsPlans.{number_in, width_it_asks, ask_it_asks, HasWidth, IsNamedIn, IsFaithful}
use Rattle.apf_run.specs.RoundsWorkers.{IsInRound}
use Rattle.apf_run.specs.Runs.{Returned}
use Rattle.apf_run.specs.RoundsRuns.{SomeTold, IsKnownTo, AreFinished, IsLevelFor, HasRunRounds}
use Rattle.apf_run.proofs.Known.{asked_still}
use Rattle.apf_run.proofs.Numbers.{slot_is, round_is, is_number, same_place}
use Rattle.apf_run.proofs.Counting.{as_many, contained}

module _ (k : LifeId) (config : Config) (requests : List Request) (rounds : ℕ) (report : Report) (r : Returned)
    (some : 1 ≤ rounds) (few : rounds ≤ 1000000)
    (widths : All HasWidth requests)
    (slots : length requests ≤ 10000)
    (numbers : length k.gate.shape.widths ≡ max_numbers)
    (settings : IsLevelFor config (length requests) k)
    (finished : AreFinished k.gate requests rounds r)
    (ended : Ended k r.dones r.stations report)
    (count : length r.dones ≡ length requests) where
  -- whoever is cancelled, a Station wrote that of which a request says so
  named : (i : ℕ) → i < length k.gate.shape.widths → (world_of k.gate.shape ended.ended_as.words_agree.trace).decision i ≡ Some Cancelled → IsNamedIn requests rounds i
  named i low is = of_one (WroteCancelled i) (IsFaithful k.gate requests rounds) r.stations (λ s wrote faithful. faithful.cancels i wrote) (ended.ended_as.words_agree.cancelled_by_one i is) finished.faithful

  said : report.words.level.closed ≡ true → SomeCloses requests
  said closed = of_one ClosedFirst (IsFaithful k.gate requests rounds) r.stations (λ s first faithful. faithful.closes first) (ended.ended_as.words_agree.closed_by_one closed) finished.faithful

  -- a request that closes came, and its worker's Station saw the level closed
  closes : SomeCloses requests → report.words.level.closed ≡ true
  closes any =
      let j : ℕ = any.0 in
      let low : j < k.gate.shape.slots = (let l = any.2 in omega (arith, settings.slots)) in
      let at : closes_at requests j ≡ true = ap closes_it (slice_get-get_or requests j any.1 any.2) ∙ ap (λ (q : Request). q.closes) any.3 ∙ any.4 in
      of_one_of (λ (t : PassToken). slot_of t.pass.number ≡ j) (IsInRound rounds) (IsKnownTo requests r.stations) r.dones
      (λ t here through known. of_one (λ (s : StationToken). s.station.knows.saw_closed ≡ true) (λ (s : StationToken). s.station.knows.saw_closed ≡ true → report.words.level.closed ≡ true) r.stations
      (λ s saw then. then saw) (known.closed (omega (arith, through, some)) (ap (closes_at requests) here ∙ at)) ended.ended_as.words_agree.closed_is_seen)
      (ended.ended_as.words_agree.each_slot j low) finished.through finished.known

  limit_is : report.words.level.limit ≡ config.limit
  limit_is = ap (λ (l : Level). l.limit) ended.ended_as.words_agree.level
      ∙ (limit_kept k.gate (IsNamedIn requests rounds) requests r.stations ended.ended_as.words_agree.trace ended.ended_as.words_agree.longest.made finished.faithful
      ended.ended_as.words_agree.each_station ended.ended_as.words_agree.longest.from_stations ∙ settings.limit)

  -- a width that is asked for has its bits
  narrow : (slot : ℕ) → slot < length requests → width_it_asks (slice_get requests slot) < 32768
  narrow slot low =
      let d : Request = record { width = 1; hash = 0; work = 0; cancels = None; closes = false } in
      let is : width_it_asks (slice_get requests slot) ≡ (slice_index_or requests slot d).width = ap width_it_asks (slice_get-get_or requests slot d low) in
      let has = widths slot d low in
      omega (arith, is, has.1)

  -- each request of each round was told, and so is decided
  decided : (slot round : ℕ) → slot < length requests → 1 ≤ round → round ≤ rounds
      → (decision : Decision) × ((world_of k.gate.shape ended.ended_as.words_agree.trace).decision (number_in requests slot round) ≡ Some decision)
  decided slot round low came within =
      of_one_of (λ (t : PassToken). slot_of t.pass.number ≡ slot) (IsInRound rounds) (IsKnownTo requests r.stations) r.dones
      (λ t here through known. was_told (number_in requests slot round)
      (subst (λ (i : ℕ). SomeTold r.stations (number_in requests i round)) here (known.told round came (omega (arith, within, through)))))
      (ended.ended_as.words_agree.each_slot slot (omega (arith, low, settings.slots))) finished.through finished.known
    where
      by : (i : ℕ) (any : SomeTold r.stations i) (found : Option Decision) → told_of (slice_index_or r.stations any.0 any.1).station.knows.told i ≡ found
          → (decision : Decision) × ((world_of k.gate.shape ended.ended_as.words_agree.trace).decision i ≡ Some decision)
      by i any None is = absurd (any.4 (ap (λ (s : StationToken). told_of s.station.knows.told i) (sym any.3) ∙ is))
      by i any (Some decision) is = (decision, ended.ended_as.words_agree.told i decision (inr (inr (any.0, any.1, any.2, any.3, ap (λ (s : StationToken). told_of s.station.knows.told i) (sym any.3) ∙ is))))

      was_told : (i : ℕ) → SomeTold r.stations i → (decision : Decision) × ((world_of k.gate.shape ended.ended_as.words_agree.trace).decision i ≡ Some decision)
      was_told i any = by i any (told_of (slice_index_or r.stations any.0 any.1).station.knows.told i) refl

  each_decided : (slot round : ℕ) → slot < length requests → 1 ≤ round → round ≤ rounds → (world_of k.gate.shape ended.ended_as.words_agree.trace).decision (number_in requests slot round) ≢ None
  each_decided slot round low came within none = no_decision (decided slot round low came within).0 (sym (decided slot round low came within).1 ∙ none)
    where
      no_decision : (decision : Decision) → Some decision ≡ None → ⊥
      no_decision decision is = cc

  -- the places are apart, and each stands among all that were ever decided
  sums : rounds * length requests ≤ total report.words.counts
  sums =
      let n : ℕ = length requests in
      let ever = ended.ended_as.words_agree.ever in
      let many : rounds * n ≤ length ever = as_many (λ i. number_in requests (i % n) (i / n + 1)) (rounds * n) ever
      (λ i j low below same.
      let one = bounds i low in
      let two = bounds j below in
      same_place n i j
      (sym (slot_is (i % n) (i / n + 1) _ (omega (arith, one.0, slots))) ∙ (ap slot_of same ∙ slot_is (j % n) (j / n + 1) _ (omega (arith, two.0, slots))))
      (let a = round_is (i % n) (i / n + 1) _ (omega (arith, one.0, slots)) (narrow (i % n) one.0) in
      let b = round_is (j % n) (j / n + 1) _ (omega (arith, two.0, slots)) (narrow (j % n) two.0) in
      let e = ap round_of same in
      omega (arith, a, b, e)))
      (λ i low.
      let one = bounds i low in
      let told = decided (i % n) (i / n + 1) one.0 (omega arith) (omega (arith, one.1)) in
      contained _ told.0 ever (ended.ended_as.words_agree.are_all.each _ told.0
      (let b = is_number (i % n) (i / n + 1) (width_it_asks (slice_get requests (i % n))) (omega (arith, one.0, slots)) (narrow (i % n) one.0) (omega (arith, one.1, few)) in omega (arith, b, numbers))
      told.1)) in
      omega (arith, many, ended.ended_as.words_agree.sums.all)
    where
      bounds : (i : ℕ) → i < rounds * length requests → (i % length requests < length requests) × (i / length requests < rounds)
      bounds i low =
          let some : 0 < length requests = has_some (length requests) low in
          (mod_below i (length requests) some, div_below i (length requests) rounds some low)
        where
          has_some : (n : ℕ) → i < rounds * n → 0 < n
          has_some zero below = absurd (omega arith)
          has_some (suc n) below = omega arith

  -- each slot was handed in, and its Pass knew what its requests asked for
  asked : (slot round : ℕ) → slot < length requests → 1 ≤ round → round ≤ rounds → asked_in ended.ended_as.words_agree.trace (number_in requests slot round) ≡ Some (ask_it_asks (slice_get requests slot))
  asked slot round low came within =
      let all : List Entry = ended.ended_as.words_agree.trace in
      let any = ended.ended_as.words_agree.each_slot slot (omega (arith, low, settings.slots)) in
      let t : PassToken = slice_index_or r.dones any.0 any.1 in
      let here : slot_of t.pass.number ≡ slot = ap (λ (x : PassToken). slot_of x.pass.number) any.3 ∙ any.4 in
      let through : IsInRound rounds t = finished.through any.0 any.1 any.2 in
      let on = ended.ended_as.words_agree.longest.from_passes any.0 any.1 any.2 in
      let own = finished.asked any.0 any.1 any.2 round came (omega (arith, within, through)) in
      asked_still t.pass.knows.trace all (number_in requests slot round) (ask_it_asks (slice_get requests slot)) (on.0, on.1)
      (subst (λ (i : ℕ). asked_in t.pass.knows.trace (number_in requests i round) ≡ Some (ask_it_asks (slice_get requests i))) here own)

  pub told : HasRunRounds config requests rounds report
  told = record {
    level = k;
    of_settings = settings;
    slots = r.dones;
    stations = r.stations;
    ended = ended;
    count = count;
    through = finished.through;
    each_decided = each_decided;
    sums = sums;
    asked = asked;
    limit = limit_is;
    cancelled_is_named = named;
    closed_is_said = said;
    said_is_closed = closes;
  }
