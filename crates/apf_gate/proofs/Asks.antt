-- What each request asks for: what a trace says first of it stands.
use Rattle.std.proofs.Common.{◌≡◌, ◌≢◌, ℕ, List, [], ◌∷◌, ◌++◌, Option, Some, None, refl, sym, ap, ◌∙◌}
use Rattle.apf_gate.specs.declared.record.Actor.{Actor}
use Rattle.apf_gate.specs.declared.record.Actor.TheVariants.{OfPass, OfDesk, OfStation}
use Rattle.apf_gate.specs.declared.record.Asked.{Asked}
use Rattle.apf_gate.specs.declared.record.Entry.{Entry}
use Rattle.apf_words.specs.declared.decision.Decision.{Decision}
use Rattle.apf_gate.specs.declared.record.Knowledge.{Knowledge}
use Rattle.apf_gate.specs.declared.record.PassRecord.{PassRecord}
use Rattle.apf_gate.specs.PassSteps.{PassRenews}
use Rattle.apf_gate.specs.Traces.{renewal, asks_nothing, ask_by, first_ask, asked_in, NoneOf}
use Rattle.apf_gate.proofs.Puts.{put_here, put_else}

-- as the trace goes on it stays
pub ask_stays : (newer older : List Entry) (r : ℕ) (ask : Asked) → asked_in older r ≡ Some ask → asked_in (newer ++ older) r ≡ Some ask
ask_stays [] older r ask is = is
ask_stays (e ∷ newer) older r ask is = ap (λ (x : Option Asked). first_ask x (ask_by e.by e.ask r)) (ask_stays newer older r ask is)

by_other : (who : Actor) (ask : Option Asked) (r : ℕ) → who ≢ OfPass r → ask_by who ask r ≡ None
by_other (OfPass j) ask r ne = put_else asks_nothing j ask r (λ e. ne (sym (ap OfPass e)))
by_other OfDesk ask r ne = refl
by_other (OfStation k) ask r ne = refl

-- of a request of whose Pass there is no step, nothing is said
pub no_ask : (es : List Entry) (r : ℕ) → NoneOf (OfPass r) es → asked_in es r ≡ None
no_ask [] r none = refl
no_ask (e ∷ es) r none = ap (λ (x : Option Asked). first_ask x (ask_by e.by e.ask r)) (no_ask es r none.1) ∙ by_other e.by e.ask r none.0

-- the step that begins it says it
pub ask_begins : (es : List Entry) (r : ℕ) (ask : Asked) → NoneOf (OfPass r) es → asked_in (renewal r ask ∷ es) r ≡ Some ask
ask_begins es r ask none = ap (λ (x : Option Asked). first_ask x (ask_by (OfPass r) (Some ask) r)) (no_ask es r none) ∙ put_here asks_nothing r (Some ask)

-- so the Pass of a request that was begun knows it
pub renewed_asks : (next : ℕ) (ask : Asked) (pass : PassRecord) (found : Option Decision) (pass' : PassRecord) → PassRenews next ask pass found pass' → asked_in pass'.knows.trace pass'.number ≡ Some ask
renewed_asks next ask pass found pass' (known', saw, is) =
    ap (λ (p : PassRecord). asked_in p.knows.trace p.number) is
    ∙ (ap (λ (k : Knowledge). asked_in k.trace next) saw.is_after
    ∙ ask_begins (saw.between ++ pass.knows.trace) next ask saw.is_new)
