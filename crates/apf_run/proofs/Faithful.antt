-- What a Station's step adds to what it made.
use Rattle.std.proofs.Common.{◌≡◌, ◌≢◌, ◌⊎◌, ℕ, true, List, ◌∷◌, ◌++◌, Option, Some, None, ap, ◌∙◌, subst, inl, inr, ⊎_elim}
use Rattle.apf_words.specs.Level.{Level}
use Rattle.apf_words.specs.declared.decision.Decision.{Decision}
use Rattle.apf_words.specs.declared.decision.Decision.TheVariants.{Cancelled}
use Rattle.apf_model.specs.declared.moves.Move.{Move}
use Rattle.apf_model.specs.declared.moves.Move.TheVariants.{Decide, Close, SetLimit}
use Rattle.apf_files.specs.declared.requests.Request.{Request}
use Rattle.apf_gate.specs.declared.answers.Close.{Close as Closing}
use Rattle.apf_gate.specs.declared.answers.Close.TheVariants as closing
use Rattle.apf_gate.specs.declared.answers.Cancel.{Cancel}
use Rattle.apf_gate.specs.declared.answers.Cancel.TheVariants as cancels
use Rattle.apf_gate.specs.declared.answers.Read.{Read}
use Rattle.apf_gate.specs.declared.answers.Read.TheVariants as reads
use Rattle.apf_gate.specs.declared.record.Actor.{Actor}
use Rattle.apf_gate.specs.declared.record.Actor.TheVariants.{OfStation}
use Rattle.apf_gate.specs.declared.record.Entry.{Entry}
use Rattle.apf_gate.specs.declared.record.Knowledge.{Knowledge}
use Rattle.apf_gate.specs.declared.record.Shape.{Shape}
use Rattle.apf_gate.specs.declared.record.StationRecord.{StationRecord}
use Rattle.apf_gate.specs.Steps.{SawLevel, SawDecision, FindsOther}
use Rattle.apf_gate.specs.StationSteps.{StationLoadsDecision, StationExchangesDecision, StationClosesLevel}
use Rattle.apf_gate.specs.StationCalls.{TriesToRead, TriesToCancel, ClosesTo}
use Rattle.apf_gate.specs.Traces.{entry, NoneOf, Made, MadeFirstClose}
use Rattle.apf_gate.specs.Tokens.{GateId, StationToken, station_gate}
use Rattle.apf_gate.specs.Ends.{WroteCancelled, ClosedFirst}
use Rattle.apf_run.proofs.Makers.{made_own, close_own}
use Rattle.apf_run.specs.Plans.{SomeCloses, SetTo, KeepsTo}

-- the Station made one step more, which was this, after steps of others
pub record StepsBy (s s' : StationRecord) (own : Option Move) : Type 0 where
  pub number : s'.number ≡ s.number
  pub shape : s'.knows.shape ≡ s.knows.shape
  pub between : List Entry
  pub of_others : NoneOf (OfStation s.number) between
  pub trace : s'.knows.trace ≡ entry (OfStation s.number) own ∷ (between ++ s.knows.trace)

by_decision : (s s' : StationRecord) (r : ℕ) (found left : Option Decision) (own : Option Move) (known' : Knowledge)
    → SawDecision (OfStation s.number) s.knows r found left own known' → s' ≡ record s { knows = known' } → StepsBy s s' own
by_decision s s' r found left own known' saw is = record {
  number = ap (λ (x : StationRecord). x.number) is;
  shape = ap (λ (x : StationRecord). x.knows.shape) is ∙ ap (λ (k : Knowledge). k.shape) saw.is_after;
  between = saw.between;
  of_others = saw.of_others;
  trace = ap (λ (x : StationRecord). x.knows.trace) is ∙ ap (λ (k : Knowledge). k.trace) saw.is_after;
}

by_other : (s s' : StationRecord) (r : ℕ) (known' : Knowledge) → FindsOther (OfStation s.number) s.knows r known' → s' ≡ record s { knows = known' } → StepsBy s s' None
by_other s s' r known' saw is = record {
  number = ap (λ (x : StationRecord). x.number) is;
  shape = ap (λ (x : StationRecord). x.knows.shape) is ∙ ap (λ (k : Knowledge). k.shape) saw.is_after;
  between = saw.between;
  of_others = saw.of_others;
  trace = ap (λ (x : StationRecord). x.knows.trace) is ∙ ap (λ (k : Knowledge). k.trace) saw.is_after;
}

by_level : (s s' : StationRecord) (level : Level) (own : Option Move) (known' : Knowledge)
    → SawLevel (OfStation s.number) s.knows level own known' → s' ≡ record s { knows = record known' { saw_closed = true } } → StepsBy s s' own
by_level s s' level own known' saw is = record {
  number = ap (λ (x : StationRecord). x.number) is;
  shape = ap (λ (x : StationRecord). x.knows.shape) is ∙ ap (λ (k : Knowledge). k.shape) saw.is_after;
  between = saw.between;
  of_others = saw.of_others;
  trace = ap (λ (x : StationRecord). x.knows.trace) is ∙ ap (λ (k : Knowledge). k.trace) saw.is_after;
}

-- what it made, it made in this step or before
made_before : (s s' : StationRecord) (own : Option Move) (m : Move) → StepsBy s s' own → Made s'.knows.trace (OfStation s'.number) m
    → (own ≡ Some m) ⊎ Made s.knows.trace (OfStation s.number) m
made_before s s' own m step made =
    let who : Actor = OfStation s.number in
    let here : Made (entry who own ∷ (step.between ++ s.knows.trace)) who m = subst (λ (n : ℕ). Made (entry who own ∷ (step.between ++ s.knows.trace)) (OfStation n) m) step.number
    (subst (λ (es : List Entry). Made es (OfStation s'.number) m) step.trace made) in
    ⊎_elim (λ (o : (who ≡ who) × (own ≡ Some m)). inl o.1) (λ (o : Made (step.between ++ s.knows.trace) who m). inr (made_own step.between s.knows.trace who m step.of_others o)) here

-- a first close it made in this step or before
closed_before : (s s' : StationRecord) (own : Option Move) → StepsBy s s' own → MadeFirstClose s'.knows.shape s'.knows.trace (OfStation s'.number)
    → (own ≡ Some Close) ⊎ MadeFirstClose s.knows.shape s.knows.trace (OfStation s.number)
closed_before s s' own step made =
    let who : Actor = OfStation s.number in
    let shape : Shape = s.knows.shape in
    let here : MadeFirstClose shape (entry who own ∷ (step.between ++ s.knows.trace)) who = subst (λ (n : ℕ). MadeFirstClose shape (entry who own ∷ (step.between ++ s.knows.trace)) (OfStation n)) step.number
    (subst (λ (es : List Entry). MadeFirstClose shape es (OfStation s'.number)) step.trace
    (subst (λ (x : Shape). MadeFirstClose x s'.knows.trace (OfStation s'.number)) step.shape made)) in
    ⊎_elim (λ o. inl o.1) (λ (o : MadeFirstClose shape (step.between ++ s.knows.trace) who). inr (close_own shape step.between s.knows.trace who step.of_others o)) here

module _ (gate : GateId) (may : ℕ → Type 0) (requests : List Request) (s s' : StationToken) where
  -- it stays faithful by a step that neither cancels nor closes but as requests say, and sets no limit
  stays : (own : Option Move) → KeepsTo gate may requests s → station_gate s' ≡ station_gate s → StepsBy s.station s'.station own
      → ((r : ℕ) → own ≡ Some (Decide r Cancelled) → may r) → (own ≡ Some Close → SomeCloses requests) → ((n : ℕ) → own ≢ Some (SetLimit n))
      → KeepsTo gate may requests s'
  stays own was same step named closes sets_none = record {
    own = same ∙ was.own;
    cancels = λ r made. ⊎_elim (named r) (λ (o : WroteCancelled r s). was.cancels r o) (made_before s.station s'.station own (Decide r Cancelled) step made);
    closes = λ made. ⊎_elim closes (λ (o : ClosedFirst s). was.closes o) (closed_before s.station s'.station own step made);
    limits = λ n made. ⊎_elim (sets_none n) (λ (o : SetTo n s). was.limits n o) (made_before s.station s'.station own (SetLimit n) step made);
  }

  no_step : (m : Move) → None ≡ Some m → ⊥
  no_step m is = cc

  -- by a step that makes no move
  stays_so : KeepsTo gate may requests s → station_gate s' ≡ station_gate s → StepsBy s.station s'.station None → KeepsTo gate may requests s'
  stays_so was same step = stays None was same step (λ j is. absurd (no_step (Decide j Cancelled) is)) (λ is. absurd (no_step Close is)) (λ n is. no_step (SetLimit n) is)

  pub heard : (r : ℕ) (answer : Read) → KeepsTo gate may requests s → station_gate s' ≡ station_gate s → TriesToRead s.station r answer s'.station → KeepsTo gate may requests s'
  heard r (reads.Is found) was same to = stays_so was same (by_decision s.station s'.station r found found None to.0 to.1 to.2)
  heard r reads.Other was same to = stays_so was same (by_other s.station s'.station r to.0 to.1 to.2)

  wrote : (r : ℕ) → KeepsTo gate may requests s → station_gate s' ≡ station_gate s → may r → StationExchangesDecision r s.station s'.station
      → KeepsTo gate may requests s'
  wrote r was same named o =
      stays (Some (Decide r Cancelled)) was same (by_decision s.station s'.station r None (Some Cancelled) (Some (Decide r Cancelled)) o.0 o.1 o.2)
      (λ j is. subst may (same_request r j is) named) (λ is. absurd (no_close r is)) (no_limit r)
    where
      same_request : (j k : ℕ) → Some (Decide j Cancelled) ≡ Some (Decide k Cancelled) → j ≡ k
      same_request j k is = cc

      no_close : (j : ℕ) → Some (Decide j Cancelled) ≡ Some Close → ⊥
      no_close j is = cc

      no_limit : (j n : ℕ) → Some (Decide j Cancelled) ≡ Some (SetLimit n) → ⊥
      no_limit j n is = cc

  pub tried : (r : ℕ) (answer : Cancel) → KeepsTo gate may requests s → station_gate s' ≡ station_gate s → may r → TriesToCancel s.station r answer s'.station
      → KeepsTo gate may requests s'
  tried r (cancels.Is d) was same named to = ⊎_elim
      (λ (o : StationExchangesDecision r s.station s'.station × (d ≡ Cancelled)). wrote r was same named o.0)
      (λ (o : StationLoadsDecision r s.station (Some d) s'.station). stays_so was same (by_decision s.station s'.station r (Some d) (Some d) None o.0 o.1 o.2))
      to
  tried r cancels.Other was same named to = stays_so was same (by_other s.station s'.station r to.0 to.1 to.2)

  closed_by : (level : Level) → KeepsTo gate may requests s → station_gate s' ≡ station_gate s → SomeCloses requests → StationClosesLevel s.station level s'.station
      → KeepsTo gate may requests s'
  closed_by level was same said o =
      stays (Some Close) was same (by_level s.station s'.station level (Some Close) o.0 o.1 o.2) (λ r is. absurd (no_cancel r is)) (λ is. said) no_limit
    where
      no_cancel : (j : ℕ) → Some Close ≡ Some (Decide j Cancelled) → ⊥
      no_cancel j is = cc

      no_limit : (n : ℕ) → Some Close ≡ Some (SetLimit n) → ⊥
      no_limit n is = cc

  pub closed : (answer : Closing) → KeepsTo gate may requests s → station_gate s' ≡ station_gate s → SomeCloses requests → ClosesTo s.station answer s'.station
      → KeepsTo gate may requests s'
  closed closing.First was same said to = closed_by to.0 was same said to.1
  closed closing.Already was same said to = closed_by to.0 was same said to.1
