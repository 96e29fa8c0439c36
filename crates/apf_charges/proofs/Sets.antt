-- Where a flow stands in a set, and the set without it.
use Rattle.std.proofs.Common.{◌≡◌, ◌≢◌, ℕ, zero, suc, ◌<◌, List, [], ◌∷◌, length, get_or, Some, None, refl, ap, ◌∙◌, arith}
use Rattle.std.specs.Prelude.{if◌then◌else◌}
use Rattle.std.specs.List.{remove}
use Rattle.std.proofs.lemmas.Bool.{eq-eqb, ne_eqb}
use Rattle.apf_charges.specs.declared.known.Known.{Known}
use Rattle.apf_charges.specs.Table.{flow_at, mean_in, others}

-- a flow that stands nowhere is not known, and all are others
pub mean_nowhere : (flow : ℕ) (set : List Known) → ((k : ℕ) → k < length set → flow_at set k ≢ flow) → mean_in flow set ≡ None
mean_nowhere flow [] none = refl
mean_nowhere flow (k ∷ ks) none =
    ap (λ b. if b then Some k.mean else mean_in flow ks) (ne_eqb k.flow flow (none 0 (omega arith)))
    ∙ mean_nowhere flow ks (λ i inside. none (suc i) (omega arith))

pub others_nowhere : (flow : ℕ) (set : List Known) → ((k : ℕ) → k < length set → flow_at set k ≢ flow) → others flow set ≡ set
others_nowhere flow [] none = refl
others_nowhere flow (k ∷ ks) none =
    ap (λ b. if b then ks else (k ∷ others flow ks)) (ne_eqb k.flow flow (none 0 (omega arith)))
    ∙ ap (λ (xs : List Known). k ∷ xs) (others_nowhere flow ks (λ i inside. none (suc i) (omega arith)))

-- the first place of a flow has its mean, and the others are without it
pub mean_here : (flow : ℕ) (set : List Known) (at : ℕ) (d : Known) → at < length set → flow_at set at ≡ flow → ((k : ℕ) → k < at → flow_at set k ≢ flow) → mean_in flow set ≡ Some (get_or set at d).mean
mean_here flow [] at d inside is first = absurd (omega (arith, inside))
mean_here flow (k ∷ ks) zero d inside is first = ap (λ b. if b then Some k.mean else mean_in flow ks) (eq-eqb k.flow flow is)
mean_here flow (k ∷ ks) (suc at) d inside is first =
    ap (λ b. if b then Some k.mean else mean_in flow ks) (ne_eqb k.flow flow (first 0 (omega arith)))
    ∙ mean_here flow ks at d (omega (arith, inside)) is (λ i l. first (suc i) (omega (arith, l)))

pub others_here : (flow : ℕ) (set : List Known) (at : ℕ) → at < length set → flow_at set at ≡ flow → ((k : ℕ) → k < at → flow_at set k ≢ flow) → others flow set ≡ remove set at
others_here flow [] at inside is first = absurd (omega (arith, inside))
others_here flow (k ∷ ks) zero inside is first = ap (λ b. if b then ks else (k ∷ others flow ks)) (eq-eqb k.flow flow is)
others_here flow (k ∷ ks) (suc at) inside is first =
    ap (λ b. if b then ks else (k ∷ others flow ks)) (ne_eqb k.flow flow (first 0 (omega arith)))
    ∙ ap (λ (xs : List Known). k ∷ xs) (others_here flow ks at (omega (arith, inside)) is (λ i l. first (suc i) (omega (arith, l))))
