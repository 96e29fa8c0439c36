use Rattle.std.proofs.Common.{◌≡◌, ◌++◌, ℕ, Some, length}
use Rattle.json.specs.Find.{InItems}
use Rattle.json.specs.Json as json
use Rattle.serde_json.specs.Data.{Items}
use Rattle.serde_json.specs.Read.{of_items}
use Rattle.apf_values.specs.Texts.{texts_of, texts_read}
use Rattle.apf_values.proofs.texts.on_tape.Given as goal

-- the texts that were read, with those that are left, are those of the whole
abbrev pub invariant-items : goal.invariant-items
invariant-items l =
    (js : json.Items) (ds : Items) → InItems l.initial.items js → of_items js ≡ Some ds
    → (left : json.Items) × (rest : Items) × InItems l.items left × (of_items left ≡ Some rest) × (texts_read l.texts.items ++ texts_of rest ≡ texts_of ds)

abbrev pub decreases-items : goal.decreases-items
decreases-items l = length l.items
