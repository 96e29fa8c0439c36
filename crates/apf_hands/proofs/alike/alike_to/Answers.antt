-- There is a queue.
use Rattle.std.proofs.Common.{◌≡◌, ℕ, ◌<◌, List, [], ◌∷◌, length, refl, sym, ◌∙◌, arith, rules}
use Rattle.std.proofs.lemmas.Bool.Decides.{nat_tests}
use Rattle.apf_hands.specs.Alike.{hashes_at, hashes_for}
use Rattle.apf_hands.proofs.alike.alike_to.Goals as goal

for_some : (hashes : List ℕ → List ℕ) (queues : List ℕ) → 0 < length queues → hashes_for hashes queues ≡ hashes queues
for_some hashes [] some = absurd (omega arith)
for_some hashes (q ∷ queues) some = refl

pub returns : goal.returns
returns c =
    let some : 0 < length c.args.queues.now = first_of (search rules, grind (arith, nat_tests)) in
    c.alike_at.ensures ∙ sym (for_some (hashes_at c.args.alike.now) c.args.queues.now some)
