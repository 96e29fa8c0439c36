-- One level more was set its limit.
use Rattle.std.proofs.Common.{◌≡◌, ◌∙◌, ◌<◌, ◌≤◌, ℕ, List, length, set, Some, refl, sym, subst, arith, add-one}
use Rattle.std.specs.Prelude.{slice_get}
use Rattle.std.proofs.lemmas.List.{length-set}
use Rattle.std.proofs.lemmas.Option.{slice_get_read}
use Rattle.apf_cluster.specs.Runs.{IsAlive, IsSetBy}
use Rattle.apf_cluster.specs.declared.lanes.LevelLane.{LevelLane}
use Rattle.apf_cluster.proofs.Ending.{FirstSo, Set, all_so, get_other, set_more_so}
use Rattle.apf_cluster.proofs.Zips.{all_set}
use Rattle.apf_cluster.proofs.lending.set_all.Goals as goal

pub loop-level-preserved : goal.loop-level-preserved
loop-level-preserved c =
    let i = c.loop-level.invariant in
    let at = c.args.at in
    let limits : List ℕ = c.args.limits.now in
    let before : List LevelLane = c.args.lanes.now.items in
    let lanes : List LevelLane = c.loop-level.lanes.items in
    let n : ℕ = c.loop-level.level in
    let low : n < length lanes = let t = c.loop-level-test.true in let e = c.len-level-end.ensures in let s = i.still in omega (arith, t, e, s) in
    let was : LevelLane = c.index_mut.result.now in
    let is : LevelLane = c.set_one.new.level in
    let here : slice_get lanes n ≡ Some was = slice_get_read lanes (length lanes) n was refl low c.index_mut.ensures.value in
    let done : Set at limits n was is = subst (λ (l : ℕ). IsSetBy was.is_lent (record { at = at; limit = l }) was is) c.given-limit.ensures.is c.in_ok-set_one.ensures.set in
    record {
      still = length-set lanes n is ∙ i.still;
      in_time = all_set (λ (v : LevelLane). v.lane.state.slots.time ≤ at) lanes n is c.in_ok-set_one.ensures.time i.in_time;
      lived = all_set IsAlive lanes n is c.in_ok-set_one.ensures.lived i.lived;
      each = subst (λ (k : ℕ). FirstSo (Set at limits) k before (set lanes n is)) (sym (add-one n))
          (set_more_so at n limits before lanes was is low (i.rest n (omega arith)) here done i.each);
      rest = λ j above. get_other lanes n j is (λ e. absurd (omega (arith, e, above))) ∙ i.rest j (omega (arith, above));
    }

pub returns-clause-set : goal.returns-clause-set
returns-clause-set c =
    let i = c.loop-level.invariant in
    let lanes : List LevelLane = c.loop-level.lanes.items in
    let n : ℕ = c.loop-level.level in
    let all : length lanes ≤ n = let t = c.loop-level-test.false in let e = c.len-level-end.ensures in let s = i.still in omega (arith, t, e, s) in
    record {
      still = i.still;
      each = all_so (Set c.args.at c.args.limits.now) c.args.lanes.now.items lanes n i.still all i.each;
    }
