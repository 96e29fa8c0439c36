-- The period of one level more ended.
use Rattle.std.proofs.Common.{◌≡◌, ◌∙◌, ◌<◌, ◌≤◌, ℕ, suc, List, [], ◌∷◌, length, set, Some, refl, sym, ap, subst, arith, add-one, length-append}
use Rattle.std.specs.Prelude.{All, slice_get}
use Rattle.std.proofs.lemmas.List.{length-set}
use Rattle.std.proofs.lemmas.Option.{slice_get_read}
use Rattle.apf_lending.specs.Claims.{IsClaim}
use Rattle.apf_lending.specs.declared.claim.Claim.{Claim}
use Rattle.apf_cluster.specs.Runs.{IsAlive}
use Rattle.apf_cluster.specs.declared.lanes.LevelLane.{LevelLane}
use Rattle.apf_cluster.proofs.Ending.{Ended, FirstSo, all_claims, all_so, ended_more, get_other}
use Rattle.apf_cluster.proofs.Zips.{all_set}
use Rattle.apf_cluster.proofs.lending.end_all.Goals as goal

pub loop-level-preserved : goal.loop-level-preserved
loop-level-preserved c =
    let i = c.loop-level.invariant in
    let at = c.args.at in
    let before : List LevelLane = c.args.lanes.now.items in
    let lanes : List LevelLane = c.loop-level.lanes.items in
    let claims : List Claim = c.loop-level.claims.items in
    let claim : Claim = c.in_ok-claim.claim in
    let n : ℕ = c.loop-level.level in
    let low : n < length lanes = let t = c.loop-level-test.true in let e = c.len-level-end.ensures in let s = i.still in omega (arith, t, e, s) in
    let was : LevelLane = c.index_mut.result.now in
    let is : LevelLane = c.end_on.new.level in
    let here : slice_get lanes n ≡ Some was = slice_get_read lanes (length lanes) n was refl low c.index_mut.ensures.value in
    record {
      many = let m = i.many in let l = ap (λ (l : List Claim). length l) c.in-Ok.ensures.items in let a = length-append claims (claim ∷ []) in omega (arith, m, l, a);
      still = length-set lanes n is ∙ i.still;
      range = subst (All IsClaim) (sym c.in-Ok.ensures.items) (all_claims claims claim i.range c.in_ok-claim.ensures.range);
      in_time = all_set (λ (v : LevelLane). v.lane.state.slots.time ≤ at) lanes n is c.in_ok-claim.ensures.time i.in_time;
      lived = all_set IsAlive lanes n is c.in_ok-claim.ensures.lived i.lived;
      each = subst (λ (k : ℕ). FirstSo (Ended at c.push.new.self.items) k before (set lanes n is)) (sym (add-one n))
          (subst (λ (l : List Claim). FirstSo (Ended at l) (suc n) before (set lanes n is)) (sym c.in-Ok.ensures.items)
          (ended_more at n before lanes claims claim was is (sym i.many) low (i.rest n (omega arith)) here c.in_ok-claim.ensures.goes c.in_ok-claim.ensures.same i.each));
      rest = λ j above. get_other lanes n j is (λ e. absurd (omega (arith, e, above))) ∙ i.rest j (omega (arith, above));
    }

pub returns-clause-ended : goal.returns-clause-ended
returns-clause-ended c =
    let i = c.loop-level.invariant in
    let before : List LevelLane = c.args.lanes.now.items in
    let lanes : List LevelLane = c.loop-level.lanes.items in
    let n : ℕ = c.loop-level.level in
    let all : length lanes ≤ n = let t = c.loop-level-test.false in let e = c.len-level-end.ensures in let s = i.still in omega (arith, t, e, s) in
    record {
      many = let m = i.many in let s = i.still in let few = c.loop-level.auto.level-end in let e = c.len-level-end.ensures in omega (arith, m, s, all, few, e);
      still = i.still;
      each = all_so (Ended c.args.at c.loop-level.claims.items) before lanes n i.still all i.each;
    }
