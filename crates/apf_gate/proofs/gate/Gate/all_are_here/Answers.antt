use Rattle.std.proofs.Common.{◌≡◌, refl, ap, subst}
use Rattle.apf_gate.specs.declared.record.DeskRecord.{DeskRecord}
use Rattle.apf_gate.specs.Records.{level_of}
use Rattle.apf_gate.specs.Traces.{world_of}
use Rattle.apf_gate.specs.Gauges.{IsShape, AreLaws}
use Rattle.apf_gate.specs.Rule.{desk_of}
use Rattle.apf_gate.specs.Tokens.{GateId, DeskToken}
use Rattle.apf_gate.specs.Ends.{handed_in}
use Rattle.apf_gate.specs.Whole.{IsOne}
use Rattle.apf_gate.proofs.gate.Gate.all_are_here.Goals as goal

pub returns-clause-here : goal.returns-clause-here
returns-clause-here g c =
    let i = c.self.invariant in
    let gate : GateId = c.args.self.now in
    let d : desk_of c.desk.inside.seat.me.0 ≡ c.args.desk.now.desk = ap (λ (t : DeskToken). t.desk) c.desk.view_is in
    let one : IsOne gate.shape (handed_in c.args.desk.now.desk c.args.passes.items c.args.stations.items) =
    subst (λ (o : DeskRecord). IsOne gate.shape (handed_in o c.args.passes.items c.args.stations.items)) d c.look_at_all.ensures.one in (
      level_of gate.shape.widths (world_of gate.shape one.account.trace),
      record {
        account = one.account;
        sound = one.sound;
        slots = one.slots;
        shape = subst (λ (x : GateId). IsShape x.shape) c.self.view_is i.shape;
        laws = subst (λ (x : GateId). AreLaws x.shape) c.self.view_is i.laws;
        level_is = refl;
        stand = one.stand;
        apart = one.apart;
        all_passes = c.requires.all_passes;
        all_stations = c.requires.all_stations;
      },
    )
