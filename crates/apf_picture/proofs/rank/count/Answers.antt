-- The standing of the request's flow has it too.
use Rattle.std.proofs.Common.{rules, ◌≡◌, ◌+◌, ◌<◌, ◌≤◌, ℕ, List, length, set, refl, sym, ap, ◌∙◌, subst, arith}
use Rattle.std.specs.Prelude.{slice_index_or}
use Rattle.std.proofs.lemmas.List.FromFn.{get_or-map-range_with_len}
use Rattle.apf_picture.specs.declared.rank.Standing.{Standing}
use Rattle.apf_picture.specs.declared.scene.Outcome.{Outcome}
use Rattle.apf_picture.specs.Ranks.{standing_of, standings_of}
use Rattle.apf_picture.proofs.Standing.{length-standings, counted_here, counted_past}
use Rattle.apf_picture.proofs.rank.count.Goals as goal

pub returns-then-place-len-clause-counts : goal.returns-then-place-len-clause-counts
returns-then-place-len-clause-counts c = λ n outcomes of is.
    let old : List Standing = c.args.standings.now.items in
    let f : ℕ = c.args.flow in
    let o : Outcome = c.args.outcome.now in
    let s : Standing = c.index-standing.result.now in
    let long : length old ≡ n = ap (λ (xs : List Standing). length xs) is ∙ length-standings outcomes of n in
    let inside : f < n = subst (λ (k : ℕ). f < k) long (search rules) in
    let wait : c.from.result ≡ o.wait = (search rules) in
    let at : s ≡ standing_of outcomes of f = c.index-standing.ensures ∙ (ap (λ (xs : List Standing). slice_index_or xs f s) is ∙ get_or-map-range_with_len (standing_of outcomes of) 0 n f f s inside (omega arith)) in
    let counted = counted_here o outcomes f of n inside s at in
    ap (λ (w : ℕ). set old f (record { flow = s.flow; waited = s.waited + w; requests = s.requests + 1 })) wait
    ∙ (ap (λ (xs : List Standing). set xs f (record { flow = s.flow; waited = s.waited + o.wait; requests = s.requests + 1 })) is ∙ counted)

pub returns-else-place-len-clause-counts : goal.returns-else-place-len-clause-counts
returns-else-place-len-clause-counts c = λ n outcomes of is.
    let long : length c.args.standings.now.items ≡ n = ap (λ (xs : List Standing). length xs) is ∙ length-standings outcomes of n in
    let past : length c.args.standings.now.items ≤ c.args.flow = (search rules) in
    is ∙ counted_past c.args.outcome.now outcomes c.args.flow of n (subst (λ (k : ℕ). k ≤ c.args.flow) long past)
