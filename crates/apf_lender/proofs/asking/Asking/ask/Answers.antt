use Rattle.std.proofs.Common.{refl, subst, rules}
use Rattle.apf_lender.specs.Periods.{AsksFor, AskingView, MayAsk}
use Rattle.apf_lender.proofs.Following.{follows_on}
use Rattle.apf_lender.proofs.asking.Asking.ask.Goals as goal

pub returns-clause-asks : goal.returns-clause-asks
returns-clause-asks c =
    let was : AskingView = record { bounds = c.self.inside.bounds; demand = c.self.inside.demand; smoothed = c.self.inside.smoothed } in
    let is : AskingView = record { bounds = c.self.inside.bounds; demand = c.change.new.self; smoothed = c.self.inside.smoothed } in
    let may : MayAsk c.args.at c.args.seats c.self.inside.demand = search rules in
    let asks : AsksFor c.args.at c.args.seats was is = record {
      forward = may.forward;
      bounds = refl;
      smoothed = refl;
      began = c.change.ensures.began;
      since = c.change.ensures.since;
      seats_are = c.change.ensures.seats;
      follows = λ one other follows same now. follows_on one other c.args.at c.args.seats was is may.forward c.change.ensures.began c.change.ensures.since c.change.ensures.seats (λ ss asked. c.change.ensures.asked ss asked) follows same now;
    } in
    subst (λ (a : AskingView). AsksFor c.args.at c.args.seats a is) c.self.view_is asks
