-- Pairs of flows, one flow after another.
use Rattle.std.proofs.Common.{◌≡◌, ◌∙◌, ℕ, suc, ◌+◌, List, ◌∷◌, ◌++◌, Some, add-one, ap, append_assoc}
use Rattle.std.specs.Prelude.{option_and_then, slice_get}
use Rattle.apf_cluster_tables.specs.Pairs.{FlowSaid, alone_by, alone_from, pairs_from, partner_of, told_pair}
use Rattle.apf_cluster_tables.specs.declared.pairs.FlowPair.{FlowPair}

-- what comes of one flow stands behind what came of those before, and in front of what comes of the others
one_more : (of : ℕ → List FlowPair) (i : ℕ) (old new it whole : List FlowPair) → new ≡ old ++ it → old ++ (it ++ of (suc i)) ≡ whole → new ++ of (i + 1) ≡ whole
one_more of i old new it whole is before =
    ap (λ (ps : List FlowPair). ps ++ of (i + 1)) is ∙ (append_assoc old it (of (i + 1)) ∙ (ap (λ (n : ℕ). old ++ (it ++ of n)) (add-one i) ∙ before))

pub pairs_more : (own others : List FlowSaid) (i : ℕ) (f : FlowSaid) (rest : List FlowSaid) (old new whole : List FlowPair)
    → new ≡ old ++ told_pair (Some f) (option_and_then (slice_get others) (partner_of own others i f)) → old ++ pairs_from own others i (f ∷ rest) ≡ whole → new ++ pairs_from own others (i + 1) rest ≡ whole
pairs_more own others i f rest old new whole is before =
    one_more (λ n. pairs_from own others n rest) i old new (told_pair (Some f) (option_and_then (slice_get others) (partner_of own others i f))) whole is before

pub alone_more : (own others : List FlowSaid) (i : ℕ) (f : FlowSaid) (rest : List FlowSaid) (old new whole : List FlowPair)
    → new ≡ old ++ alone_by (partner_of own others i f) f → old ++ alone_from own others i (f ∷ rest) ≡ whole → new ++ alone_from own others (i + 1) rest ≡ whole
alone_more own others i f rest old new whole is before = one_more (λ n. alone_from own others n rest) i old new (alone_by (partner_of own others i f) f) whole is before
