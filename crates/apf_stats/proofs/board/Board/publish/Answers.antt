-- The writer's step keeps the rule.
use Rattle.std.proofs.Common.{◌≡◌, ℕ, List, [], ◌∷◌, rules, ap, sym, subst}
use Rattle.apf_stats.specs.Numbers.{IsBelow, numbers_of}
use Rattle.apf_stats.specs.Traces.{shown}
use Rattle.apf_stats.proofs.Steps.{publishes}
use Rattle.apf_stats.proofs.board.Board.publish.Goals as goal

pub swap_as-requires : goal.swap_as-requires
swap_as-requires g c =
    let numbers : List ℕ = c.from.result ∷ c.from-2.result ∷ c.from-3.result ∷ c.from-4.result ∷ [] in
    let same : numbers ≡ numbers_of c.args.stats = (search rules) in
    let up = subst (λ (before : List ℕ). IsBelow before numbers) (sym (ap (λ b. shown b.trace) c.self.view_is)) (subst (IsBelow (shown c.args.self.now.trace)) (sym same) c.requires.up) in
    (search rules, (search rules, (search rules, publishes _ _ numbers c.self.invariant.1 up (search rules))))
