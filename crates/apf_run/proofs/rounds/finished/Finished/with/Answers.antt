use Rattle.std.proofs.Common.{rules, ◌≡◌, ℕ, ◌∷◌, ◌++◌, [], List, sym, subst}
use Rattle.apf_files.specs.declared.requests.Request.{Request}
use Rattle.apf_gate.specs.Tokens.{GateId, PassToken, StationToken}
use Rattle.apf_run.specs.RoundsRuns.{AreFinished}
use Rattle.apf_run.proofs.RoundsReturned.{one_more}
use Rattle.apf_run.proofs.rounds.finished.Finished.with.Goals as goal

pub invariant_of-result : goal.invariant_of-result
invariant_of-result g c =
    let gate : GateId = g.K.Naming.level.gate in
    let requests : List Request = g.K.Plan.requests in
    let rounds : ℕ = g.K.Plan.rounds in
    let dones : c.add_all.new.dones.items ≡ c.self.inside.dones.items ++ c.args.worker.slots = search rules in
    let stations : c.push.new.self.items ≡ c.self.inside.stations.items ++ c.args.worker.station ∷ [] = search rules in
    subst (λ (ds : List PassToken). AreFinished gate requests rounds (record { dones = ds; stations = c.push.new.self.items })) (sym dones)
    (subst (λ (ss : List StationToken). AreFinished gate requests rounds (record { dones = c.self.inside.dones.items ++ c.args.worker.slots; stations = ss })) (sym stations)
    (one_more gate requests rounds (record { dones = c.self.inside.dones.items; stations = c.self.inside.stations.items }) c.args.worker c.self.invariant c.into_parts-station.ensures.load c.requires.rounds))
