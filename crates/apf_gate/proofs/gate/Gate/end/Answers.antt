use Rattle.std.proofs.Common.{rules, ◌≡◌, ℕ, ◌+◌, ◌<◌, List, length, sym, ap, ◌∙◌, subst}
use Rattle.std.specs.Prelude.{slice_index}
use mathlib.Core.Option.{some}
use Rattle.apf_gate.specs.declared.record.Shape.{Shape}
use Rattle.apf_gate.specs.Records.{level_of}
use Rattle.apf_gate.specs.Traces.{world_of}
use Rattle.apf_gate.specs.Rule.{IsRuled, IsRecord, IsKeptAt, desk_of}
use Rattle.apf_gate.specs.Gauges.{shape_in}
use Rattle.apf_gate.specs.Tokens.{GateId, DeskToken}
use Rattle.apf_gate.specs.Ends.{EndsWith, stations_before, handed_in}
use Rattle.apf_gate.proofs.Packing.{level_in_range}
use Rattle.apf_gate.proofs.Lists.{every_map}
use Rattle.apf_gate.specs.Slots.{mark_of}
use Rattle.apf_gate.proofs.Packing.{batch_word}
use Rattle.apf_gate.proofs.Spreading.{slots_in}
use Rattle.apf_gate.proofs.gate.Gate.end.Goals as goal

pub read-requires-clause-level : goal.read-requires-clause-level
read-requires-clause-level g c =
    let i = c.self.invariant in
    let own : Shape = shape_in c.self.inside.gauge.lives c.self.inside.gauge.numbers c.self.inside.gauge.limit c.self.inside.gauge.response c.self.inside.gauge.widths.items c.self.inside.gauge.stations in
    let f = c.close_with.ensures.values.2 in
    let h : IsRuled own f.0 = subst (λ (s : Shape). IsRuled s f.0) i.same_key f.1.0 in
    (level_of own.widths (world_of own h.account.trace), ap (λ (ws : List ℕ). slice_index ws 0) (sym f.2) ∙ h.packs.level, level_in_range own i.shape i.laws f.0 h)

pub returns : goal.returns
returns g c =
    let i = c.self.invariant in
    let own : Shape = shape_in c.self.inside.gauge.lives c.self.inside.gauge.numbers c.self.inside.gauge.limit c.self.inside.gauge.response c.self.inside.gauge.widths.items c.self.inside.gauge.stations in
    let batch : length own.widths ≡ own.slots = subst (λ (x : GateId). length x.shape.widths ≡ x.shape.slots) (sym c.self.view_is) c.requires.batch in
    let count : length c.self.inside.gauge.widths.items ≡ c.len-count.result = search rules in
    let n : length own.widths ≡ c.len-count.result = batch ∙ (slots_in c.self.inside.gauge.lives c.self.inside.gauge.numbers c.self.inside.gauge.limit c.self.inside.gauge.response c.self.inside.gauge.widths.items c.self.inside.gauge.stations ∙ count) in
    let f = c.close_with.ensures.values.2 in
    let h : IsRuled own f.0 = subst (λ (s : Shape). IsRuled s f.0) i.same_key f.1.0 in
    let all = handed_in (desk_of c.desk.inside.seat.me.0) c.args.passes.items c.args.stations.items in
    let view : c.gather_stations-seat.result.me.0 ≡ all = ap (λ x. x.0) c.gather_stations-seat.ensures.view ∙ ap (λ x. stations_before c.args.stations.items x.0) c.gather_passes-seat.ensures.view in
    let kept = h.views c.gather_stations-seat.result.id all (f.1.1 ∙ ap some view) in
    let ended : EndsWith (record { table = c.args.self.table; shape = own }) (desk_of c.desk.inside.seat.me.0) c.args.passes.items c.args.stations.items c.read.result = record {
      account = h.account;
      sound = h.sound;
      slots = h.slots;
      shape = i.shape;
      batch = batch;
      laws = i.laws;
      level = c.read.ensures.level (level_of own.widths (world_of own h.account.trace)) (ap (λ (ws : List ℕ). slice_index ws 0) (sym f.2) ∙ h.packs.level) (level_in_range own i.shape i.laws f.0 h);
      count = c.read.ensures.count ∙ sym n;
      decided = λ r l. c.read.ensures.decisions r (mark_of r) ((world_of own h.account.trace).decision r) (subst (λ k. r < k) n l) (ap (λ (ws : List ℕ). slice_index ws (r + 1)) (sym f.2) ∙ batch_word own i.shape f.0 h batch r l);
      stand = every_map (IsKeptAt own h.account c.gather_stations-seat.result.id) (IsRecord own h.account) all (λ x k. k.1) kept.0;
      apart = kept.1;
      all_passes = c.requires.all_passes ∙ sym (ap (λ (x : GateId). length x.shape.widths) c.self.view_is);
      all_stations = c.requires.all_stations ∙ sym (ap (λ (x : GateId). x.shape.stations) c.self.view_is);
    } in
    subst (λ (x : GateId × DeskToken). EndsWith x.0 x.1.desk c.args.passes.items c.args.stations.items c.read.result) (λ k. (record { table = c.args.self.table; shape = (c.self.view_is k).shape }, c.desk.view_is k)) ended
