-- What is printed in one round, and in more.
use Rattle.std.proofs.Common.{◌≡◌, ℕ, ◌<◌, List, Option, arith}
use Rattle.apf_cli.specs.Runs.{PrintsRun, PrintsRounds, PrintsBook}

pub batch_prints : (holds : (name bytes : List ℕ) → Type 0) (config requests : List ℕ) (workers rounds : ℕ) (before after : Option (List ℕ)) → rounds ≡ 1
    → PrintsRun holds config requests workers before after → PrintsBook holds config requests workers rounds before after
batch_prints holds config requests workers rounds before after is prints = record {
  one = λ e. prints;
  more = λ low. absurd (let bad : ⊥ = omega (arith, is, low) in bad);
}

pub rounds_print : (holds : (name bytes : List ℕ) → Type 0) (config requests : List ℕ) (workers rounds : ℕ) (before after : Option (List ℕ)) → 1 < rounds
    → PrintsRounds holds config requests workers rounds before after → PrintsBook holds config requests workers rounds before after
rounds_print holds config requests workers rounds before after low prints = record {
  one = λ is. absurd (let bad : ⊥ = omega (arith, is, low) in bad);
  more = λ e. prints;
}
