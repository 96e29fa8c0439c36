-- The requests are counted from the last one on.
use Rattle.std.proofs.Common.{rules, ◌≡◌, ◌+◌, ◌-◌, ◌<◌, ◌≤◌, ℕ, suc, List, [], ◌∷◌, length, drop, get_or, refl, sym, ap, ◌∙◌, subst, arith}
use Rattle.std.specs.Prelude.{All}
use Rattle.std.proofs.Math.Seq.{drop-cons, drop-length}
use Rattle.apf_picture.specs.declared.rank.Standing.{Standing}
use Rattle.apf_picture.specs.declared.scene.Outcome.{Outcome}
use Rattle.apf_picture.specs.Ranks.{IsOfSome, standings_of}
use Rattle.apf_picture.proofs.Standing.{length-standings, no_outcome, none_yet, known}
use Rattle.apf_picture.proofs.rank.standings.Goals as goal

-- none was counted: no request is left behind the last one
pub loop-counted-init : goal.loop-counted-init
loop-counted-init c =
    let os : List Outcome = c.args.outcomes.now in
    let fs : List ℕ = c.args.of.now in
    let each : length fs ≡ length os = c.requires.each in
    let no_outcomes : drop (length fs) os ≡ [] = subst (λ (n : ℕ). drop n os ≡ []) (sym each) (drop-length os) in
    let whole : length fs - 0 ≡ length fs = omega arith in
    let items = c.in_ok-standings.standings.items in
    let is : items ≡ standings_of [] [] c.args.flows = (search rules) in
    record {
      all = subst (λ (m : ℕ). items ≡ standings_of (drop m os) (drop m fs) c.args.flows) (sym whole) (is ∙ (ap (λ (xs : List Outcome). standings_of xs [] c.args.flows) (sym no_outcomes) ∙ ap (λ (ys : List ℕ). standings_of (drop (length fs) os) ys c.args.flows) (sym (drop-length fs))));
      some = λ k d low. subst (λ (s : Standing). IsOfSome 0 s) (sym (ap (λ (xs : List Standing). get_or xs k d) is)) (none_yet c.args.flows k d (subst (λ (xs : List Standing). k < length xs) is low));
    }

pub loop-counted-preserved : goal.loop-counted-preserved
loop-counted-preserved c =
    let os : List Outcome = c.args.outcomes.now in
    let fs : List ℕ = c.args.of.now in
    let each : length fs ≡ length os = c.requires.each in
    let counted : ℕ = c.loop-counted.counted in
    let low : counted < length fs = c.loop-counted-test.true in
    let n : ℕ = length fs - 1 - counted in
    let same : length fs - (counted + 1) ≡ n = omega (arith, low) in
    let next : length fs - counted ≡ suc n = omega (arith, low) in
    let inside : n < length fs = omega (arith, low) in
    let f : ℕ = get_or fs n 0 in
    let o : Outcome = get_or os n no_outcome in
    let far : c.loop-counted.standings.items ≡ standings_of (drop (suc n) os) (drop (suc n) fs) c.args.flows = subst (λ (m : ℕ). c.loop-counted.standings.items ≡ standings_of (drop m os) (drop m fs) c.args.flows) next c.loop-counted.invariant.all in
    let now : c.count.new.standings.items ≡ standings_of (o ∷ drop (suc n) os) (f ∷ drop (suc n) fs) c.args.flows = c.count.ensures.counts c.args.flows (drop (suc n) os) (drop (suc n) fs) far in
    record {
      all = subst (λ (m : ℕ). c.count.new.standings.items ≡ standings_of (drop m os) (drop m fs) c.args.flows) (sym same) (now ∙ (ap (λ (xs : List Outcome). standings_of xs (f ∷ drop (suc n) fs) c.args.flows) (sym (drop-cons os n no_outcome (subst (λ (k : ℕ). n < k) each inside))) ∙ ap (λ (ys : List ℕ). standings_of (drop n os) ys c.args.flows) (sym (drop-cons fs n 0 inside))));
      some = c.count.ensures.after;
    }

pub returns-clause-count : goal.returns-clause-count
returns-clause-count c =
    let long : length c.loop-counted.standings.items ≡ c.args.flows = ap (λ (xs : List Standing). length xs) c.loop-counted.invariant.all ∙ length-standings _ _ c.args.flows in
    (search rules)

pub returns-clause-known : goal.returns-clause-known
returns-clause-known c = subst (λ (xs : List Standing). All (λ (s : Standing). s.flow < c.args.flows) xs) (sym c.loop-counted.invariant.all) (known _ _ c.args.flows)
