use Rattle.std.proofs.Common.{◌≡◌, ◌++◌, drop}
use Rattle.serde_json.specs.View.{items_view}
use Rattle.apf_values.specs.Texts.{texts_of, texts_read}
use Rattle.apf_values.proofs.texts.in_tree.Given as goal

abbrev pub invariant-loop-item : goal.invariant-loop-item
invariant-loop-item l = texts_read l.texts.items ++ texts_of (items_view (drop l.item-index l.items)) ≡ texts_of (items_view l.items)
