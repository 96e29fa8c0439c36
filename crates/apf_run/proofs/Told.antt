-- What the end of a level says of the requests that its workers ran.
use Rattle.std.proofs.Common.{◌≡◌, ℕ, ◌<◌, true, List, map, length, sym, ap, ◌∙◌, subst, arith}
use Rattle.std.specs.Prelude.{Some, slice_get, reverse}
use Rattle.std.proofs.lemmas.Option.{slice_get_within, slice_get-get_or}
use Rattle.apf_words.specs.declared.decision.Decision.TheVariants.{Cancelled}
use Rattle.apf_words.specs.Level.{Level}
use Rattle.apf_files.specs.declared.requests.Request.{Request}
use Rattle.apf_gate.specs.Tokens.{PassToken, StationToken}
use Rattle.apf_gate.specs.Ends.{WroteCancelled, ClosedFirst}
use Rattle.apf_model.specs.declared.config.Config.{Config}
use Rattle.apf_model.specs.declared.config.Ask.{Ask}
use Rattle.apf_book.specs.LedgerView.{LedgerView, IsLogOf, NothingWaits}
use Rattle.apf_book.specs.Opening.{opening_ledger}
use Rattle.apf_book.specs.LedgerKept.{AreStats}
use Rattle.apf_model.specs.Outcome.{stats_of}
use Rattle.apf_level.specs.declared.report.Report.{Report}
use Rattle.apf_level.specs.Levels.{LevelId}
use Rattle.apf_level.specs.Reports.{AreSums, Ended}
use Rattle.apf_run.specs.Asks.{asks_of}
use Rattle.apf_run.specs.Plans.{IsNamed, SomeCloses, IsFaithful, closes_it, closes_at, AreOrders}
use Rattle.apf_run.proofs.Gathered.{of_one}
use Rattle.apf_run.proofs.Limits.{limit_kept}
use Rattle.apf_run.specs.Runs.{Returned, AreFinished, SeenClosed, HasRun, ledger_of}

module _ (k : LevelId) (config : Config) (requests : List Request) (report : Report) (r : Returned)
    (opening : k.opening ≡ opening_ledger config (asks_of requests))
    (orders : AreOrders k.gate requests requests)
    (finished : AreFinished k.gate requests r)
    (ended : Ended k report.word (slice_get report.decisions.items) (reverse report.log.items) r.dones r.stations)
    (count : length report.decisions.items ≡ length k.gate.shape.widths)
    (limit : k.gate.shape.limit ≡ config.limit) (response : k.gate.shape.response ≡ config.limit_response) (widths : k.gate.shape.widths ≡ map (λ (a : Ask). a.width) (asks_of requests)) where
  in_range : (j : ℕ) → slice_get report.decisions.items j ≡ Some Cancelled → j < length k.gate.shape.widths
  in_range j is = omega (arith, slice_get_within report.decisions.items j Cancelled is, count)

  -- whoever is cancelled, a Station that some request told to wrote that
  named : (j : ℕ) → slice_get report.decisions.items j ≡ Some Cancelled → IsNamed requests j
  named j is = of_one (WroteCancelled j) (IsFaithful k.gate requests) r.stations (λ s wrote faithful. faithful.cancels j wrote) (ended.cancelled_by j (in_range j is) is) finished.faithful

  said : report.word.closed ≡ true → SomeCloses requests
  said closed = of_one ClosedFirst (IsFaithful k.gate requests) r.stations (λ s first faithful. faithful.closes first) (ended.closed_by closed) finished.faithful

  -- the request that closes came back, and its worker's Station saw the level closed
  closes : SomeCloses requests → report.word.closed ≡ true
  closes some =
      let j : ℕ = some.0 in
      let low : j < length k.gate.shape.widths = (let l = some.2 in omega (arith, orders.each)) in
      let at : closes_at requests j ≡ true = ap closes_it (slice_get-get_or requests j some.1 some.2) ∙ ap (λ (q : Request). q.closes) some.3 ∙ some.4 in
      of_one (λ (t : PassToken). t.pass.number ≡ j) (λ (t : PassToken). closes_at requests t.pass.number ≡ true → SeenClosed r.stations) r.dones
      (λ t here seen. of_one (λ (s : StationToken). s.station.knows.saw_closed ≡ true) (λ (s : StationToken). s.station.knows.saw_closed ≡ true → report.word.closed ≡ true) r.stations
      (λ s saw then. then saw) (seen (ap (closes_at requests) here ∙ at)) ended.closed_is_seen)
      (ended.each j low) finished.closed

  limit_is : report.word.limit ≡ config.limit
  limit_is = ap (λ (l : Level). l.limit) ended.made.word ∙ (limit_kept k.gate (IsNamed requests) requests r.stations ended.made.trace ended.made.made finished.faithful ended.each_station ended.made.goes_on ∙ limit)

  same_ledger : record k.opening { history = reverse report.log.items } ≡ ledger_of config requests report
  same_ledger = ap (λ (v : LedgerView). record v { history = reverse report.log.items }) opening

  same_deck : k.opening.sizes.deck ≡ config.queues
  same_deck = ap (λ (v : LedgerView). v.sizes.deck) opening

  pub told : AreSums report.counts (slice_get report.decisions.items) (length report.decisions.items)
      → AreStats report.stats (stats_of k.opening.sizes.deck (reverse report.log.items)) → HasRun config requests report
  told sums stats = record {
    drained = ended.drained;
    limit = limit_is;
    made = record {
      gate = k.gate;
      limit = limit;
      response = response;
      widths = widths;
      made = record { trace = ended.made.trace; made = ended.made.made; schedule = ended.made.schedule; says = ended.made.says; word = ended.made.word; from_passes = λ i d low. absurd (let l = low in omega arith); goes_on = λ i d low. absurd (let l = low in omega arith) };
      logs_nothing = λ alone. ended.logs_nothing (response ∙ alone);
    };
    of_log = subst IsLogOf same_ledger ended.of_log;
    nobody_waits = subst NothingWaits same_ledger ended.nobody_waits;
    agrees = ended.agrees;
    all_decided = count ∙ sym orders.each;
    sums = subst (AreSums report.counts (slice_get report.decisions.items)) (count ∙ sym orders.each) sums;
    stats = subst (λ (n : ℕ). AreStats report.stats (stats_of n (reverse report.log.items))) same_deck stats;
    cancelled_is_named = named;
    closed_is_said = said;
    said_is_closed = closes;
  }
