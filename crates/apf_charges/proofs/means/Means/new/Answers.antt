use Rattle.std.proofs.Common.{◌≡◌, ℕ, ap, ◌∙◌, List, [], arith}
use Rattle.std.specs.Prelude.{replicate}
use Rattle.apf_charges.specs.declared.known.Known.{Known}
use Rattle.apf_charges.specs.declared.mean.Mean.{Mean}
use Rattle.apf_charges.specs.Table.{Table, set_count}
use Rattle.apf_charges.proofs.means.Means.new.Goals as goal

abbrev table_of : List (List Known) → Mean → Table
table_of sets firsts = record { sets = sets; firsts = firsts }

pub returns : goal.returns
returns g c =
    let all : c.loop-set._set ≡ set_count = omega (arith, c.loop-set-test.false, c.loop-set.auto._set-end) in
    let sets = c.loop-set.invariant ∙ ap (λ (n : ℕ). replicate {A = List Known} n []) all in
    let firsts = c.none-2.ensures in
    ap (λ (xs : List (List Known)). table_of xs c.none-2.result) sets ∙ ap (λ (m : Mean). table_of (replicate {A = List Known} set_count []) m) firsts
