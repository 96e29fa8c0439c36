-- The report is of the operators' Stations.
use Rattle.std.proofs.Common.{List, subst, sym}
use Rattle.std.specs.Prelude.{Result, Ok, Err, IfOk}
use Rattle.std.specs.declared.alloc.AllocError.{AllocError}
use Rattle.apf_gate.specs.Tokens.{PassToken, StationToken}
use Rattle.apf_line.specs.declared.report.Report.{Report}
use Rattle.apf_line.specs.Levels.{LifeId}
use Rattle.apf_line.specs.Reports.{Ended}
use Rattle.apf_session.specs.declared.life.token.Token.{Token}
use Rattle.apf_session.specs.Operators.{KeepsOrder}
use Rattle.apf_session.specs.LifeEnds.{FirstCancels, SessionEnds}
use Rattle.apf_session.proofs.life.session.Session.end.Goals as goal

-- the end of a session, of what is known of the end of its level
ends : (k : LifeId) (held : List Token) (operators stations : List StationToken) (slots : List PassToken) (result : Result Report AllocError)
    → KeepsOrder operators stations → FirstCancels held operators stations → IfOk result (Ended k slots stations) → IfOk result (SessionEnds k held operators)
ends k held operators stations slots (Ok r) order cancels ended = record { slots = slots; stations = stations; ended = ended; order = order; cancels = cancels }
ends k held operators stations slots (Err e) order cancels ended = ended

pub returns : goal.returns
returns g c =
    ends g.K.Naming.level c.args.self.slots.items c.args.self.operators.items c.in_ok-stations.stations.items c.in_ok-dones-in-Ok.dones.items c.end.result
    (subst (KeepsOrder c.args.self.operators.items) (sym c.in_ok-stations.ensures.same) c.settle_all.ensures.operators)
    (subst (λ (l : List StationToken). FirstCancels c.args.self.slots.items c.args.self.operators.items l) (sym c.in_ok-stations.ensures.same)
    (subst (λ (l : List Token). FirstCancels l c.args.self.operators.items c.settle_all.new.operators.items) c.as_slice.ensures.value c.settle_all.ensures.cancels))
    c.end.ensures
