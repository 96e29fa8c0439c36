-- The flows that are known while a trace is gone through.
use Rattle.std.specs.Prelude.{◌≡◌, ◌≢◌, ℕ, List, [], ◌∷◌, ◌++◌, length, Option, Some, None}

-- a hash that is known has its flow, and one that is not begins a flow with this request
abbrev pub FindsFlowBy : Option ℕ → (old new : ℕ → Option ℕ) (firsts firsts' : List ℕ) (hash request flow : ℕ) → Type 0
FindsFlowBy (Some known) old new firsts firsts' hash request flow =
    (flow ≡ known) × (firsts' ≡ firsts) × ((other : ℕ) → new other ≡ old other)
FindsFlowBy None old new firsts firsts' hash request flow =
    (flow ≡ length firsts) × (firsts' ≡ firsts ++ request ∷ []) × (new hash ≡ Some flow) × ((other : ℕ) → other ≢ hash → new other ≡ old other)

abbrev pub FindsFlow : (old new : ℕ → Option ℕ) (firsts firsts' : List ℕ) (hash request flow : ℕ) → Type 0
FindsFlow old new firsts firsts' hash request flow = FindsFlowBy (old hash) old new firsts firsts' hash request flow
