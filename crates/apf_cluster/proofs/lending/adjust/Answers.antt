-- One period more ended.
use Rattle.std.proofs.Common.{◌≡◌, ◌*◌, ℕ, suc, List, sym, ap, ◌∙◌, subst, add-one}
use Rattle.apf_lending.specs.Divisions.{IsDivision}
use Rattle.apf_lending.specs.declared.claim.Claim.{Claim}
use Rattle.apf_cluster.specs.Lending.{Adjustment, period}
use Rattle.apf_cluster.specs.Runs.{AreSet, Reaches, course_of, nominal_of_all}
use Rattle.apf_cluster.specs.declared.lanes.LevelLane.{LevelLane}
use Rattle.apf_cluster.proofs.Coming.{adjusted}
use Rattle.apf_cluster.proofs.lending.adjust.Goals as goal

pub returns-clause-reaches : goal.returns-clause-reaches
returns-clause-reaches c =
    let claims : List Claim = c.in_ok-claims.claims.items in
    let limits : List ℕ = c.in_ok-limits.limits.items in
    let a : Adjustment = record { claims = claims; limits = limits } in
    let n = c.args.periods in
    let at : ℕ = c.in_ok-at.at in
    let lanes : List LevelLane = c.args.lanes.now.items in
    let mids : List LevelLane = c.end_all.new.lanes.items in
    let after : List LevelLane = c.set_all.new.lanes.items in
    let is : at ≡ period * suc n = c.in_ok-at.ensures.end in
    let ended = c.in_ok-claims.ensures.ended in
    let done : AreSet at limits mids after = subst (λ (l : List ℕ). AreSet at l mids after) c.as_slice-3.ensures.value c.in_ok-set_all.ensures.set in
    let seats : ℕ = c.in_ok-seats.seats in
    let seats_are : seats ≡ nominal_of_all lanes = c.in_ok-seats.ensures.is ∙ ap (λ (l : List LevelLane). nominal_of_all l) c.as_slice.ensures.value in
    let divided : IsDivision seats claims limits = subst (λ (l : List Claim). IsDivision seats l limits) c.as_slice-2.ensures.value c.in_ok-limits.ensures in
    λ told reaches. subst (λ (p : ℕ). Reaches (course_of c.args.way) told after p) (sym (add-one n))
    (adjusted (course_of c.args.way) told a at n lanes mids after is ended done
    (λ total levels same many. record { many = ended.many ∙ sym many; divided = subst (λ (k : ℕ). IsDivision k claims limits) (seats_are ∙ sym same) divided }) reaches)
