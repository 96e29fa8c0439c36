-- What a Pass knows after it was heard.
use Rattle.std.proofs.Common.{◌≡◌, ◌≢◌, ◌⊎◌, inl, inr, ℕ, List, [], ◌∷◌, ◌++◌, Option, Some, sym, ap, ◌∙◌}
use Rattle.std.proofs.lemmas.List.{append_assoc}
use Rattle.apf_words.specs.declared.decision.Decision.{Decision}
use Rattle.apf_words.specs.declared.decision.Decision.TheVariants.{Execute}
use Rattle.apf_model.specs.declared.moves.Stage.TheVariants.{Stands}
use Rattle.apf_gate.specs.declared.record.Asked.{Asked}
use Rattle.apf_gate.specs.declared.record.Entry.{Entry}
use Rattle.apf_gate.specs.declared.record.Knowledge.{Knowledge}
use Rattle.apf_gate.specs.declared.record.State.TheVariants as states
use Rattle.apf_gate.specs.JoinedSteps.{JoinedLoadsDecision}
use Rattle.apf_gate.specs.Records.{told_own, KnowsMore}
use Rattle.apf_gate.specs.Steps.{Both}
use Rattle.apf_gate.specs.Tokens.{PassToken}
use Rattle.apf_gate.specs.Traces.{world_of, ask_by, first_ask, asked_in}
use Rattle.apf_book.specs.BookResults.{SameRequest}
use Rattle.apf_book.specs.LifeBook.{LifeBookView}
use Rattle.apf_book.specs.LifeCalls.{HearsLife}
use Rattle.apf_line.specs.Tokens.{IsRunning}

-- a trace goes on from another one
abbrev pub GoesOnFrom : List Entry → List Entry → Type 0
GoesOnFrom older newer = (more : List Entry) × (more ++ older ≡ newer)

pub goes_on_then : (a b c : List Entry) → GoesOnFrom a b → GoesOnFrom b c → GoesOnFrom a c
goes_on_then a b c first then = (then.0 ++ first.0, append_assoc then.0 first.0 a ∙ (ap (λ (es : List Entry). then.0 ++ es) first.1 ∙ then.1))

pub goes_on_more : (k k' : Knowledge) → KnowsMore k k' → GoesOnFrom k.trace k'.trace
goes_on_more k k' m = (m.trace.0, sym m.trace.1)

ask_stays : (newer older : List Entry) (r : ℕ) (ask : Asked) → asked_in older r ≡ Some ask → asked_in (newer ++ older) r ≡ Some ask
ask_stays [] older r ask is = is
ask_stays (e ∷ newer) older r ask is = ap (λ (x : Option Asked). first_ask x (ask_by e.by e.ask r)) (ask_stays newer older r ask is)

-- what a request asked for is asked still
pub asked_then : (a b : List Entry) (r r' : ℕ) (ask : Asked) → GoesOnFrom a b → r' ≡ r → asked_in a r ≡ Some ask → asked_in b r' ≡ Some ask
asked_then a b r r' ask more same is = ap (asked_in b) same ∙ (ap (λ (es : List Entry). asked_in es r) (sym more.1) ∙ ask_stays more.0 a r ask is)

module _ (both both' : Both) (found : Option Decision) (loads : JoinedLoadsDecision both found both') where
  pub heard_trace : GoesOnFrom both.pass.knows.trace both'.pass.knows.trace
  heard_trace = (loads.3.trace.0, loads.3.trace.1 ∙ sym (ap (λ (b : Both). b.pass.knows.trace) loads.5))

  -- the seats of a Pass stand that was told execute
  pub heard_stands : both.pass.state ≢ states.Over → told_own both.pass ≡ Some Execute → (world_of both'.pass.knows.shape both'.pass.knows.trace).stage both'.pass.number ≡ Stands
  heard_stands not_over told =
      let is : found ≡ Some Execute = loads.4 (λ none. let z = sym told ∙ none in cc) ∙ told in
      ap (λ (b : Both). (world_of b.pass.knows.shape b.pass.knows.trace).stage b.pass.number) loads.5 ∙ loads.6 not_over is

module _ (b b' : LifeBookView) (p p' : PassToken) (same : SameRequest p p') (hears : HearsLife b p b' p') where
  pub hears_trace : GoesOnFrom p.pass.knows.trace p'.pass.knows.trace
  hears_trace = heard_trace (record { pass = p.pass; desk = b.desk.desk }) (record { pass = p'.pass; desk = b'.desk.desk }) hears.answer.0 hears.answer.1

  pub hears_told : (d : Decision) → told_own p.pass ≡ Some d → told_own p'.pass ≡ Some d
  hears_told d told = hears.told_pass (λ none. let z = sym told ∙ none in cc) ∙ told

  -- who executes does so still
  pub hears_running : (p.pass.state ≡ states.Took) ⊎ (p.pass.state ≡ states.InLine) → told_own p.pass ≡ Some Execute → IsRunning p'
  hears_running state told = record {
    state = elim state [ inl took ↦ inl (hears.state ∙ took) | inr in_line ↦ inr (hears.state ∙ in_line) ];
    told = hears_told Execute told;
    stands = heard_stands (record { pass = p.pass; desk = b.desk.desk }) (record { pass = p'.pass; desk = b'.desk.desk }) hears.answer.0 hears.answer.1 (not_over state) told;
  }
    where
      not_over : (p.pass.state ≡ states.Took) ⊎ (p.pass.state ≡ states.InLine) → p.pass.state ≢ states.Over
      not_over (inl took) over = let z = sym took ∙ over in cc
      not_over (inr in_line) over = let z = sym in_line ∙ over in cc
