-- A Station's tries to set a limit.
use Rattle.std.proofs.Common.{◌≡◌, ◌⊎◌, inl, inr, ℕ, Bool, List, [], ◌∷◌, ◌++◌, Option, Some, None, refl, sym, ap, ◌∙◌, subst}
use Rattle.std.proofs.lemmas.List.{append_assoc}
use Rattle.apf_words.specs.Level.{Level}
use Rattle.apf_model.specs.declared.moves.Move.{Move}
use Rattle.apf_model.specs.declared.moves.Move.TheVariants.{SetLimit}
use Rattle.apf_gate.specs.declared.record.Actor.{Actor}
use Rattle.apf_gate.specs.declared.record.Actor.TheVariants.{OfStation}
use Rattle.apf_gate.specs.declared.record.Entry.{Entry}
use Rattle.apf_gate.specs.declared.record.Knowledge.{Knowledge}
use Rattle.apf_gate.specs.declared.record.StationRecord.{StationRecord}
use Rattle.apf_gate.specs.declared.answers.TrySetLimit.{TrySetLimit}
use Rattle.apf_gate.specs.declared.answers.TrySetLimit.TheVariants as set
use Rattle.apf_gate.specs.Traces.{entry, NoneOf}
use Rattle.apf_gate.specs.Steps.{SawLevel}
use Rattle.apf_gate.specs.StationSteps.{StationLoadsLevel, StationExchangesLevel}
use Rattle.apf_gate.specs.StationCalls.{TriesToSet}
use Rattle.apf_level.specs.Limits.{SetsOnly, SetsSince}

none_sets : (number limit : ℕ) (later : List Entry) → NoneOf (OfStation number) later → SetsOnly number limit later
none_sets number limit [] none = tt
none_sets number limit (newest ∷ later) none = ((λ own. absurd (none.0 own)), none_sets number limit later none.1)

sets_both : (number limit : ℕ) (later newer : List Entry) → SetsOnly number limit later → SetsOnly number limit newer → SetsOnly number limit (later ++ newer)
sets_both number limit [] newer first then = then
sets_both number limit (newest ∷ later) newer first then = (first.0, sets_both number limit later newer first.1 then)

pub sets_nothing : (station : StationRecord) (limit : ℕ) → SetsSince station limit station
sets_nothing station limit = record { newer = []; trace = refl; only = tt }

-- one more step of the Station, which sets no other limit
sets_step :
    (station : StationRecord) (limit : ℕ) (before after : StationRecord) (level : Level) (own : Option Move)
    → before.number ≡ station.number → SetsSince station limit before → (own ≡ None) ⊎ (own ≡ Some (SetLimit limit))
    → (known' : Knowledge) → SawLevel (OfStation before.number) before.knows level own known' → after ≡ record before { knows = known' }
    → SetsSince station limit after
sets_step station limit before after level own same since sets known' saw is =
    let who : Actor = OfStation before.number in
    let later : List Entry = entry who own ∷ saw.between in
    let own_is : SetsOnly station.number limit later = (
      (λ by. sets),
      none_sets station.number limit saw.between (subst (λ (n : ℕ). NoneOf (OfStation n) saw.between) same saw.of_others),
    ) in
    record {
      newer = later ++ since.newer;
      trace = ap (λ (s : StationRecord). s.knows.trace) is
          ∙ (ap (λ (k : Knowledge). k.trace) saw.is_after
          ∙ (ap (λ (t : List Entry). later ++ t) since.trace ∙ sym (append_assoc later since.newer station.knows.trace)));
      only = sets_both station.number limit later since.newer own_is since.only;
    }

module _ (station : StationRecord) (limit : ℕ) (before after : StationRecord) (same : before.number ≡ station.number) (since : SetsSince station limit before) where
  loads : (level : Level) → StationLoadsLevel before level after → SetsSince station limit after
  loads level step = sets_step station limit before after level None same since (inl refl) step.0 step.1 step.2

  exchanges : (level : Level) → StationExchangesLevel limit before level after → SetsSince station limit after
  exchanges level step = sets_step station limit before after level (Some (SetLimit limit)) same since (inr refl) step.0 step.1 step.2

loads_same : (before after : StationRecord) (level : Level) → StationLoadsLevel before level after → after.number ≡ before.number
loads_same before after level step = ap (λ (s : StationRecord). s.number) step.2

-- a try that was lost, after others
pub sets_raced : (station : StationRecord) (limit : ℕ) (before after : StationRecord) → before.number ≡ station.number → SetsSince station limit before
    → TriesToSet before limit set.Raced after → (after.number ≡ station.number) × SetsSince station limit after
sets_raced station limit before after same since tries =
    let between = tries.3.0 in
    let there : between.number ≡ station.number = loads_same before between tries.0 tries.3.1 ∙ same in (
      loads_same between after tries.1 tries.3.2 ∙ there,
      loads station limit between after there (loads station limit before between same since tries.0 tries.3.1) tries.1 tries.3.2,
    )

-- the one that set it
pub sets_last : (station : StationRecord) (limit old : ℕ) (waiting : Bool) (before after : StationRecord) → before.number ≡ station.number → SetsSince station limit before
    → TriesToSet before limit (set.Set old waiting) after → SetsSince station limit after
sets_last station limit old waiting before after same since tries =
    let between = tries.3.0 in
    exchanges station limit between after (loads_same before between tries.0 tries.3.1 ∙ same) (loads station limit before between same since tries.0 tries.3.1) tries.0 tries.3.2

-- any try
pub sets_any : (station : StationRecord) (limit : ℕ) (answer : TrySetLimit) (before after : StationRecord) → before.number ≡ station.number → SetsSince station limit before
    → TriesToSet before limit answer after → (after.number ≡ station.number) × SetsSince station limit after
sets_any station limit (set.Set old waiting) before after same since tries =
    let between = tries.3.0 in
    (ap (λ (s : StationRecord). s.number) tries.3.2.2 ∙ (loads_same before between tries.0 tries.3.1 ∙ same), sets_last station limit old waiting before after same since tries)
sets_any station limit set.Raced before after same since tries = sets_raced station limit before after same since tries
