use Rattle.std.proofs.Common.{◌≡◌, drop, map, string_bytes}
use Rattle.serde_json.specs.View.{items_view}
use Rattle.apf_objects.specs.Values.{each_from, text_of, texts_of}
use Rattle.apf_objects.proofs.Lists.{with_front}
use Rattle.apf_objects.proofs.value.texts_of.Given as goal

abbrev pub invariant-loop-item : goal.invariant-loop-item
invariant-loop-item l =
    with_front (map string_bytes l.texts.items)
    (each_from (λ i d. text_of l.place l.key d) l.item-index (items_view (drop l.item-index l.items)))
    ≡ texts_of l.place l.key (items_view l.items)
