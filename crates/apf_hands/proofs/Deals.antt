-- The flows of a trace, and one more.
use Rattle.std.proofs.Common.{◌≡◌, ℕ, List, [], ◌∷◌, Option, refl, ap, ◌∙◌}
use Rattle.std.specs.Prelude.{map}
use Rattle.apf_hands.specs.declared.dealt.Dealt.{Dealt}
use Rattle.apf_flow.specs.Sizes.{Sizes}
use Rattle.apf_times.specs.declared.window.Arrival.{Arrival}
use Rattle.apf_traces.specs.declared.request.TraceRequest.{TraceRequest}
use Rattle.apf_hands.specs.Firsts.{hash_of}
use Rattle.apf_hands.specs.Dealt.{flows_of}
use Rattle.apf_hands.specs.Hands.{Flow, flows_in}

-- the hashes of flows are those of the first requests that they were dealt by
dealt_hashes : (flows : List Dealt) → map (λ (d : Dealt). d.first.now.hash) flows ≡ map (λ (f : Flow). f.hash) (flows_of flows)
dealt_hashes [] = refl
dealt_hashes (d ∷ flows) = ap (λ (hs : List ℕ). d.first.now.hash ∷ hs) (dealt_hashes flows)

first_hashes : (sizes : Option Sizes) (firsts : List (Arrival TraceRequest)) → map (λ (f : Flow). f.hash) (flows_in sizes firsts) ≡ map hash_of firsts
first_hashes sizes [] = refl
first_hashes sizes (x ∷ firsts) = ap (λ (hs : List ℕ). x.item.hash ∷ hs) (first_hashes sizes firsts)

pub same_hashes : (sizes : Option Sizes) (flows : List Dealt) (firsts : List (Arrival TraceRequest)) → flows_of flows ≡ flows_in sizes firsts → map (λ (d : Dealt). d.first.now.hash) flows ≡ map hash_of firsts
same_hashes sizes flows firsts same = dealt_hashes flows ∙ ap (λ (fs : List Flow). map (λ (f : Flow). f.hash) fs) same ∙ first_hashes sizes firsts
