-- The report is of the Passes that are left of the requests, and of the operators' Stations.
use Rattle.std.proofs.Common.{List, subst, sym}
use Rattle.apf_gate.specs.Tokens.{StationToken}
use Rattle.apf_session.specs.Operators.{KeepsOrder}
use Rattle.apf_session.specs.Ends.{FirstCancels}
use Rattle.apf_session.proofs.Concluding.{ends}
use Rattle.apf_session.proofs.session.Session.end.Goals as goal

pub returns : goal.returns
returns g c =
    ends g.K.Naming.level c.args.self.requests.items c.settle_all.new.requests.items c.args.self.operators.items c.in_ok-stations.stations.items c.in_ok-dones-in-Ok.dones.items c.end.result
    c.settle_all.ensures.count c.settle_all.ensures.numbers c.settle_all.ensures.told
    c.in_ok-dones-in-Ok.ensures.count c.in_ok-dones-in-Ok.ensures.left
    (subst (KeepsOrder c.args.self.operators.items) (sym c.in_ok-stations.ensures.same) c.settle_all.ensures.operators)
    (subst (λ (l : List StationToken). FirstCancels c.args.self.requests.items c.args.self.operators.items l) (sym c.in_ok-stations.ensures.same) c.settle_all.ensures.cancels)
    c.end.ensures.ended c.end.ensures.count c.end.ensures.sums c.end.ensures.stats
