use Rattle.std.proofs.Common.{rules, ◌≡◌, ℕ, ◌+◌, ◌<◌, List, ◌++◌, length, sym, ap, ◌∙◌, subst}
use Rattle.std.specs.Prelude.{slice_index}
use mathlib.Core.Option.{some}
use Rattle.apf_gate.specs.declared.record.Shape.{Shape}
use Rattle.apf_gate.specs.Records.{level_of}
use Rattle.apf_gate.specs.Traces.{world_of}
use Rattle.apf_gate.specs.Rule.{IsRuled, IsRecord, IsKeptAt, desk_of}
use Rattle.apf_gate.specs.Gauges.{shape_in}
use Rattle.apf_gate.specs.Tokens.{GateId, DeskToken}
use Rattle.apf_gate.specs.Ends.{stations_before, handed_in}
use Rattle.apf_gate.specs.LifeEnds.{LifeView, pasts, presents, LifeEndsWith}
use Rattle.apf_gate.specs.Counted.{AreCounts}
use Rattle.apf_gate.proofs.Counting.{counts_both}
use Rattle.apf_gate.proofs.Packing.{level_in_range}
use Rattle.apf_gate.proofs.Lists.{every_map}
use Rattle.apf_gate.specs.Slots.{mark_of}
use Rattle.apf_gate.proofs.Spreading.{slots_in}
use Rattle.apf_gate.proofs.gate.Gate.end_for_life.Goals as goal

pub read-words-requires-clause-level : goal.read-words-requires-clause-level
read-words-requires-clause-level g c =
    let i = c.self.invariant in
    let own : Shape = shape_in c.self.inside.gauge.lives c.self.inside.gauge.numbers c.self.inside.gauge.limit c.self.inside.gauge.response c.self.inside.gauge.widths.items c.self.inside.gauge.stations in
    let f = c.close_with.ensures.values.2 in
    let h : IsRuled own f.0 = subst (λ (s : Shape). IsRuled s f.0) i.same_key f.1.0 in
    (level_of own.widths (world_of own h.account.trace), ap (λ (ws : List ℕ). slice_index ws 0) (sym f.2) ∙ h.packs.level, level_in_range own i.shape i.laws f.0 h)

pub returns : goal.returns
returns g c =
    let i = c.self.invariant in
    let own : Shape = shape_in c.self.inside.gauge.lives c.self.inside.gauge.numbers c.self.inside.gauge.limit c.self.inside.gauge.response c.self.inside.gauge.widths.items c.self.inside.gauge.stations in
    let count : length c.self.inside.gauge.widths.items ≡ c.len-count.result = search rules in
    let n : own.slots ≡ c.len-count.result = slots_in c.self.inside.gauge.lives c.self.inside.gauge.numbers c.self.inside.gauge.limit c.self.inside.gauge.response c.self.inside.gauge.widths.items c.self.inside.gauge.stations ∙ count in
    let f = c.close_with.ensures.values.2 in
    let h : IsRuled own f.0 = subst (λ (s : Shape). IsRuled s f.0) i.same_key f.1.0 in
    let all = handed_in (desk_of c.desk.inside.seat.me.0) c.args.passes.items c.args.stations.items in
    let view : c.gather_stations-seat.result.me.0 ≡ all = ap (λ x. x.0) c.gather_stations-seat.ensures.view ∙ ap (λ x. stations_before c.args.stations.items x.0) c.gather_passes-seat.ensures.view in
    let kept = h.views c.gather_stations-seat.result.id all (f.1.1 ∙ ap some view) in
    let level : c.read-words.result.level ≡ level_of own.widths (world_of own h.account.trace) =
    c.read-words.ensures.level (level_of own.widths (world_of own h.account.trace)) (ap (λ (ws : List ℕ). slice_index ws 0) (sym f.2) ∙ h.packs.level) (level_in_range own i.shape i.laws f.0 h) in
    let words : LifeView = record { level = c.read-words.result.level; decisions = c.read-words.result.decisions; counts = c.add_all.new.self } in
    let counts = subst (λ k. AreCounts k (pasts c.args.passes.items ++ presents h.account.current 0 c.read-words.result.decisions)) (sym c.add_all.ensures)
    (counts_both _ _ (pasts c.args.passes.items) (presents h.account.current 0 c.read-words.result.decisions) (subst (λ l. AreCounts c.counts_before-counts.result (pasts l)) c.as_slice.ensures.value c.counts_before-counts.ensures.counts) (subst (λ ds. AreCounts c.counts_now.result (presents h.account.current 0 ds)) c.decisions.ensures (c.counts_now.ensures.counts h.account.current))) in
    let ended : LifeEndsWith (record { table = c.args.self.table; shape = own }) (desk_of c.desk.inside.seat.me.0) c.args.passes.items c.args.stations.items words = record {
      ended = record {
        account = h.account;
        sound = h.sound;
        slots = h.slots;
        shape = i.shape;
        laws = i.laws;
        level_is = level;
        stand = every_map (IsKeptAt own h.account c.gather_stations-seat.result.id) (IsRecord own h.account) all (λ x k. k.1) kept.0;
        apart = kept.1;
        all_passes = c.requires.all_passes ∙ sym (ap (λ (x : GateId). x.shape.slots) c.self.view_is);
        all_stations = c.requires.all_stations ∙ sym (ap (λ (x : GateId). x.shape.stations) c.self.view_is);
      };
      count = c.read-words.ensures.count ∙ sym n;
      decided = λ r l. c.read-words.ensures.decisions r (mark_of (h.account.current r)) ((world_of own h.account.trace).decision (h.account.current r)) (subst (λ k. r < k) n l) (ap (λ (ws : List ℕ). slice_index ws (r + 1)) (sym f.2) ∙ h.packs.decisions r l);
      counts = counts;
    } in
    subst (LifeEndsWith c.args.self c.args.desk.desk c.args.passes.items c.args.stations.items) (sym c.with_counts.ensures)
    (subst (λ (x : GateId × DeskToken). LifeEndsWith x.0 x.1.desk c.args.passes.items c.args.stations.items words) (λ k. (record { table = c.args.self.table; shape = (c.self.view_is k).shape }, c.desk.view_is k)) ended)
