-- What the end of a gate says of a level.
use Rattle.std.proofs.Common.{◌≡◌, ◌≢◌, ℕ, ◌<◌, inl, inr, List, [], length, Option, Some, None, refl, sym, ap, ◌∙◌, subst}
use Rattle.std.specs.Prelude.{slice_get, slice_index_or, All}
use Rattle.std.proofs.lemmas.Option.{slice_get-get_or}
use Rattle.apf_words.specs.declared.decision.Decision.{Decision}
use Rattle.apf_words.specs.declared.decision.Decision.TheVariants.{Cancelled}
use Rattle.apf_history.specs.declared.events.Event.{Event}
use Rattle.apf_model.specs.Outcome.{Agrees, ExecutesArrivals}
use Rattle.apf_gate.specs.declared.record.DeskRecord.{DeskRecord}
use Rattle.apf_gate.specs.declared.record.Service.TheVariants as service_is
use Rattle.apf_gate.specs.Records.{told_own, service}
use Rattle.apf_gate.specs.Traces.{world_of}
use Rattle.apf_gate.specs.Tokens.{GateId, PassToken, StationToken, pass_gate}
use Rattle.apf_gate.specs.Ends.{WordsView, EndAgrees}
use Rattle.apf_book.specs.LedgerView.{IsLogOf, NothingWaits}
use Rattle.apf_book.specs.Laws.{decision_in, took_in, EnteredBy, IsMade}
use Rattle.apf_model.specs.declared.response.Response.TheVariants.{Reject}
use Rattle.apf_level.specs.Levels.{LevelId, logged_as}
use Rattle.apf_level.specs.Tokens.{IsDone}
use Rattle.apf_level.specs.Heard.{IsHeard}
use Rattle.apf_level.specs.Reports.{Ended, WasToldBy}
use Rattle.apf_level.proofs.Sums.{in_words}

pub some_of : (x : Option Decision) → x ≢ None → (d : Decision) × (x ≡ Some d)
some_of None some = absurd (some refl)
some_of (Some d) some = (d, refl)

-- the steps that made the words and the log, and that the decisions are those that these steps wrote
abbrev pub IsDecidedBy : LevelId → WordsView → List PassToken → List StationToken → List Event → Type 0
IsDecidedBy k w ps ss h = (made : IsMade k.gate h w.level ps ss) × ((r : ℕ) → r < length k.gate.shape.widths → decision_in w r ≡ (world_of k.gate.shape made.trace).decision r)

module _ (k : LevelId) (d : DeskRecord) (w : WordsView) (ps : List PassToken) (ss : List StationToken) (e : EndAgrees k.gate d ps ss w) (count : length w.decisions ≡ length k.gate.shape.widths)
    (own : All (λ (t : PassToken). pass_gate t ≡ k.gate) ps) (done : All IsDone ps) (heard : All (IsHeard d) ps) where
  of_words : (r : ℕ) (x : Decision) → r < length k.gate.shape.widths → decision_in w r ≡ Some x → slice_get w.decisions r ≡ Some (Some x)
  of_words r x low is = slice_get-get_or w.decisions r None (subst (λ n. r < n) (sym count) low) ∙ ap (λ (y : Option Decision). Some y) is

  -- the word says what the Pass was told
  told : All (λ (t : PassToken). decision_in w t.pass.number ≡ told_own t.pass) ps
  told i t low =
      let u : PassToken = slice_index_or ps i t in
      let h : IsHeard d u = heard i t low in
      let x = some_of (told_own u.pass) (done i t low).told in
      let inside : u.pass.number < length k.gate.shape.widths = subst (λ (g : GateId). u.pass.number < length g.shape.widths) (own i t low) h.inside in
      in_words w u.pass.number x.0 (e.told u.pass.number x.0 inside (inl (h.told ∙ x.1))) ∙ sym x.1

  -- nobody waits, and each request is decided
  pub gone : (r : ℕ) → r < length k.gate.shape.widths → service d r ≢ service_is.Waiting
  gone r low waits =
      let any = e.each_pass r low in
      let t : PassToken = any.1 in
      let h : IsHeard d t = subst (IsHeard d) any.3 (heard any.0 t any.2) in
      h.gone (ap (service d) any.4 ∙ waits)

  all_decided : (r : ℕ) → r < length k.gate.shape.widths → decision_in w r ≢ None
  all_decided r low none =
      let any = e.each_pass r low in
      let t : PassToken = any.1 in
      let is : decision_in w t.pass.number ≡ told_own t.pass = subst (λ (u : PassToken). decision_in w u.pass.number ≡ told_own u.pass) any.3 (told any.0 t any.2) in
      let x : IsDone t = subst IsDone any.3 (done any.0 t any.2) in
      x.told (sym is ∙ (ap (decision_in w) any.4 ∙ none))

  told_one : (r : ℕ) (x : Decision) → r < length k.gate.shape.widths → WasToldBy ps ss r x → decision_in w r ≡ Some x
  told_one r x low was = elim was [
    | inl any ↦ (let t : PassToken = any.1 in let is : decision_in w t.pass.number ≡ told_own t.pass = subst (λ (u : PassToken). decision_in w u.pass.number ≡ told_own u.pass) any.3 (told any.0 t any.2) in ap (decision_in w) (sym any.4.0) ∙ (is ∙ any.4.1))
    | inr of_station ↦ in_words w r x (e.told r x low (inr (inr of_station)))
  ]

  pub ended : (h : List Event) → d.held ≡ None → IsLogOf (logged_as k h) → NothingWaits (logged_as k h) → Agrees h (decision_in w) → ExecutesArrivals h (decision_in w) (took_in ps) → All (EnteredBy h) ps → IsDecidedBy k w ps ss h → (k.gate.shape.response ≡ Reject → h ≡ []) → Ended k w.level (decision_in w) h ps ss
  ended h held of_log nobody agrees arrivals entered made logs_nothing = record {
    drained = e.drained (λ i t low. (done i t low).back) held gone;
    of_log = of_log;
    nobody_waits = nobody;
    agrees = agrees;
    arrivals = arrivals;
    entered = entered;
    made = made.0;
    decides = made.1;
    told_one = told_one;
    logs_nothing = logs_nothing;
    each = e.each_pass;
    each_station = e.each_station;
    told = told;
    all_decided = all_decided;
    cancelled_by = λ r low is. e.cancelled_by_one r low (of_words r Cancelled low is);
    cancelled_is_written = λ r low i t inside wrote. in_words w r Cancelled (e.cancelled_is_written r low i t inside wrote);
    closed_by = e.closed_by_one;
    closed_is_first = e.closed_is_first;
    closed_is_seen = e.closed_is_seen;
  }
