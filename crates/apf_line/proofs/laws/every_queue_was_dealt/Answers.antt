-- A queue is of the hand that was asked for.
use Rattle.std.proofs.Common.{◌≡◌, ℕ, List, Option, Some, sym, ap, ◌∙◌, subst}
use Rattle.std.specs.Prelude.{slice_get}
use Rattle.apf_flow.specs.Deal.{hand_of}
use Rattle.apf_gate.specs.declared.record.Asked.{Asked}
use Rattle.apf_line.proofs.laws.every_queue_was_dealt.Goals as goal

some_is : (a b : Asked) → ◌≡◌ {A = Option Asked} (Some a) (Some b) → a ≡ b
some_is a b is = cc

pub returns : goal.returns
returns c = λ k trace v r q older ask is of.
    let by = of.asks.0 in
    let same : by.ask ≡ ask = some_is by.ask ask (sym by.said ∙ is) in
    let shortest = of.fair.0.0.1 in
    (shortest.place, subst (λ (xs : List ℕ). slice_get xs shortest.place ≡ Some q) (by.hand_is ∙ ap (λ (a : Asked). hand_of k.sizes a.hash) same) shortest.is_dealt)
