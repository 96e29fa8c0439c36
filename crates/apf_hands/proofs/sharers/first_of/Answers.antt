-- The least of the first places, by the chain.
use Rattle.std.proofs.Common.{ℕ, List, [], ◌∷◌, Bor, Option, ◌≡◌, min, refl, sym, ◌∙◌, ap, rules, tests}
use Rattle.std.specs.Prelude.{slice_get}
use Rattle.std.specs.List.{cons_option, filter_map, reduce}
use Rattle.std.specs.Option.{option_map}
use Rattle.std.proofs.lemmas.Iterator.Adapters.{option_map_id}
use Rattle.std.proofs.lemmas.Iterator.{YieldsList-from_slice}
use Rattle.std.proofs.lemmas.Iterator.Consumers.{YieldsList-from_filter_map, min_from_yields_List}
use Rattle.apf_hands.specs.Holders.{first_places, lists_of}
use Rattle.apf_hands.proofs.sharers.first_of.Goals as goal

abbrev first_at : Bor (List ℕ) → Option ℕ
first_at rest = slice_get rest.now 0

firsts_of : (rests : List (Bor (List ℕ))) → filter_map first_at rests ≡ first_places (lists_of rests)
firsts_of [] = refl
firsts_of (rest ∷ rests) = ap (λ (ps : List ℕ). cons_option (slice_get rest.now 0) ps) (firsts_of rests)

pub returns : goal.returns
returns c =
    let least : option_map (λ (x : ℕ). x) c.min.result ≡ reduce min (filter_map first_at c.args.rests.now) =
    min_from_yields_List _ _ c.min.ensures.ran (YieldsList-from_filter_map _ first_at (YieldsList-from_slice c.args.rests.now cc) c.filter_map.ensures.closure (λ x r q k. search (rules, tests))) in
    sym (option_map_id c.min.result) ∙ least ∙ ap (λ (ps : List ℕ). reduce min ps) (firsts_of c.args.rests.now)
