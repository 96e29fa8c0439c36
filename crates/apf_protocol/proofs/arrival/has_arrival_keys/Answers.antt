use Rattle.std.proofs.Common.{rules, tests, length, ◌∙◌, string_bytes, ap}
use Rattle.std.specs.List.{list_all}
use Rattle.std.specs.Map.Iter.{TakesFirst, deref}
use Rattle.std.proofs.lemmas.Iterator.Consumers.{YieldsList-from_shown}
use Rattle.std.proofs.lemmas.Iterator.Search.{all_from_yields_List}
use Rattle.apf_explain.specs.Keys.{is_arrival_key}
use Rattle.apf_protocol.proofs.arrival.has_arrival_keys.Goals as goal

pub returns : goal.returns
returns c =
    all_from_yields_List (λ name. is_arrival_key (string_bytes name)) _ _ c.all.result c.all.ensures.ran
    (YieldsList-from_shown (TakesFirst deref) deref (λ s. s) (λ s t h. ap length h.0) (λ s x t h. h) c.keys.result)
    (λ x b q k. search (rules, tests))
    ∙ ap (list_all (λ name. is_arrival_key (string_bytes name))) c.keys.ensures.rest ∙ c.every_key_is_a_member.ensures is_arrival_key _
