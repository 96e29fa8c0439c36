use Rattle.std.proofs.Common.{◌≡◌, ℕ, ◌≤◌, ◌-◌, List, [], refl, sym, ◌∙◌, subst}
use Rattle.apf_lending.specs.Demands.{AreAsked, Stretch, then_asked}
use Rattle.apf_lender.specs.Periods.{EndsPeriod, AskingView}
use Rattle.apf_lender.proofs.Following.{begins, observed_of}
use Rattle.apf_lender.proofs.asking.Asking.end.Goals as goal

pub returns-clause-ends : goal.returns-clause-ends
returns-clause-ends c =
    let at = c.args.at in
    let seats = c.seats-seats.result in
    let was : AskingView = record { bounds = c.self.inside.bounds; demand = c.self.inside.demand; smoothed = c.self.inside.smoothed } in
    let is : AskingView = record { bounds = c.self.inside.bounds; demand = c.new-self-inside.result; smoothed = c.smoothed_with-self-inside.result } in
    let forward : was.demand.since ≤ at = subst (λ (a : AskingView). a.demand.since ≤ at) (sym c.self.view_is) c.requires.forward in
    let new = c.new-self-inside.ensures in
    let claim = c.claim_of-claim.result in
    let same : seats ≡ was.demand.seats = c.seats-seats.ensures.value in
    let changes : (ss : List Stretch) → AreAsked ss was.demand.seats was.demand.since was.demand → AreAsked (then_asked ss was.demand.seats (at - was.demand.since)) was.demand.seats at c.change.new.self =
    λ ss asked. subst (λ (n : ℕ). AreAsked (then_asked ss was.demand.seats (at - was.demand.since)) n at c.change.new.self) same (c.change.ensures.asked ss asked) in
    let seats_are : c.change.new.self.seats ≡ was.demand.seats = c.change.ensures.seats ∙ same in
    let next : is.demand.seats ≡ was.demand.seats = new.asked.now ∙ same in
    let ends : EndsPeriod at was is claim = record {
      forward = forward;
      bounds = refl;
      began = new.began;
      since = new.asked.until;
      seats = next;
      follows = λ seats_at f. begins seats_at at was is forward new.began new.asked.until next (subst (λ (n : ℕ). AreAsked [] n at is.demand) same new.asked) f;
      claims = λ seats_at f. record {
        observed = c.observed-observed.result;
        is = observed_of seats_at at was c.change.new.self c.observed-observed.result forward changes c.change.ensures.since seats_are (λ ss asked. c.observed-observed.ensures.observed ss asked) f;
        smoothed = c.smoothed_with-self-inside.ensures.value;
        claims = c.claim_of-claim.ensures.value;
      };
    } in
    subst (λ (a : AskingView). EndsPeriod at a is claim) c.self.view_is ends
