-- What the fault of an arrival's object says of the text and the value that it is shown with.
use Rattle.std.specs.Prelude.{◌≡◌, ℕ, List, Some, None, Err, codes}
use Rattle.serde_json.specs.Data.{Data}
use Rattle.serde_json.specs.Read.{read}
use Rattle.apf_words.specs.Limits.{max_cost, max_width}
use Rattle.apf_explain.specs.Shown.{IsUnwanted, NamesUnknown, IsFlowTold}
use Rattle.apf_explain.specs.declared.keys.Keys.TheVariants.{OfArrival}
use Rattle.apf_explain.specs.declared.wanted.Wanted.TheVariants.{Whole}
use Rattle.apf_protocol.specs.Lines.{object_text}
use Rattle.apf_protocol.specs.Objects.{arrival_in}
use Rattle.apf_protocol.specs.declared.fault.FaultKind.{FaultKind}
use Rattle.apf_protocol.specs.declared.fault.FaultKind.TheVariants.{NotJson, UnknownKey, BadFlow, BadWidth, BadCost}

-- what the fault of an object that is this value says of it: the key whose value may not stand there, and what has to
abbrev pub IsValueShown : Data → FaultKind → Type 0
IsValueShown d UnknownKey = NamesUnknown OfArrival d
IsValueShown d BadFlow = IsFlowTold d
IsValueShown d BadWidth = IsUnwanted (codes "width") (Whole 1 max_width) d
IsValueShown d BadCost = IsUnwanted (codes "cost") (Whole 1 max_cost) d
IsValueShown d kind = ⊥

-- the text is no JSON, or its value has the fault
abbrev pub IsObjectShown : List ℕ → FaultKind → Type 0
IsObjectShown object NotJson = read object ≡ None
IsObjectShown object kind = (d : Data) × (read object ≡ Some d) × IsValueShown d kind

-- each fault of the text of an object is shown by it
abbrev pub IsEveryFaultShown : Type 0
IsEveryFaultShown =
    (object : List ℕ) (kind : FaultKind) → object_text object ≡ Some object → arrival_in object ≡ Err kind → IsObjectShown object kind
