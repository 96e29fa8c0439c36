-- The first key of the map that is unknown.
use Rattle.std.proofs.Common.{◌≡◌, List, Option, Some, None, String, Global, Bor, refl, rules, tests, length, ◌∙◌, string_bytes, ap}
use Rattle.std.specs.List.{find}
use Rattle.std.specs.Prelude.{not, option_map}
use Rattle.std.specs.Map.Iter.{TakesFirst, deref}
use Rattle.std.proofs.lemmas.Iterator.Consumers.{YieldsList-from_shown}
use Rattle.std.proofs.lemmas.Iterator.Search.{find_from_yields_List}
use Rattle.apf_explain.specs.Keys.{is_key_of}
use Rattle.apf_explain.proofs.Unknown.{find-keys_of}
use Rattle.apf_explain.proofs.keys.Keys.unknown_of.Goals as goal

mapped : (o : Option (Bor (String Global))) → option_map (λ (name : Bor (String Global)). string_bytes name.now) o ≡ option_map string_bytes (option_map deref o)
mapped (Some name) = refl
mapped None = refl

pub returns : goal.returns
returns c =
    mapped c.find.result
    ∙ ap (option_map string_bytes) (find_from_yields_List (λ name. not (is_key_of c.args.self (string_bytes name))) _ _ c.find.result c.find.ensures.ran
    (YieldsList-from_shown (TakesFirst deref) deref (λ s. s) (λ s t h. ap length h.0) (λ s x t h. h) c.keys.result)
    (λ x b q k. search (rules, tests)))
    ∙ ap (λ (names : List (String Global)). option_map string_bytes (find (λ name. not (is_key_of c.args.self (string_bytes name))) names)) c.keys.ensures.rest
    ∙ find-keys_of (is_key_of c.args.self) c.args.members.now.entries
