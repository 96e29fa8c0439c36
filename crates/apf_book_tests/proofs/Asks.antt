-- What a request asked for stays as its Pass knows more.
use Rattle.std.proofs.Common.{◌≡◌, ℕ, List, [], ◌∷◌, ◌++◌, Option, Some, refl, ap, ◌∙◌}
use Rattle.apf_flow.specs.Sizes.{Sizes}
use Rattle.apf_flow.specs.Deal.{hand_of}
use Rattle.apf_gate.specs.declared.record.Asked.{Asked}
use Rattle.apf_gate.specs.declared.record.Entry.{Entry}
use Rattle.apf_gate.specs.declared.record.Knowledge.{Knowledge}
use Rattle.apf_gate.specs.Records.{KnowsMore}
use Rattle.apf_gate.specs.Traces.{ask_by, first_ask, asked_in}
use Rattle.apf_book.specs.Life.{IsAskedBy}

ask_stays : (newer older : List Entry) (r : ℕ) (ask : Asked) → asked_in older r ≡ Some ask → asked_in (newer ++ older) r ≡ Some ask
ask_stays [] older r ask is = is
ask_stays (e ∷ newer) older r ask is = ap (λ (x : Option Asked). first_ask x (ask_by e.by e.ask r)) (ask_stays newer older r ask is)

pub asked_more : (known known' : Knowledge) (r r' : ℕ) (ask : Asked) → KnowsMore known known' → r' ≡ r → asked_in known.trace r ≡ Some ask → asked_in known'.trace r' ≡ Some ask
asked_more known known' r r' ask more same is = ap (asked_in known'.trace) same ∙ (ap (λ (es : List Entry). asked_in es r) more.trace.1 ∙ ask_stays more.trace.0 known.trace r ask is)

pub is_asked : (sizes : Sizes) (trace : List Entry) (r hash cost : ℕ) → asked_in trace r ≡ Some (record { hash = hash; cost = cost }) → IsAskedBy sizes trace (hand_of sizes hash) cost r
is_asked sizes trace r hash cost is = record { ask = record { hash = hash; cost = cost }; said = is; hand_is = refl; cost_is = refl }
