use Rattle.std.proofs.Common.{rules, ◌≡◌, ◌<◌, ◌≤◌, ◌^◌, [], ◌∷◌, ◌++◌, length, arith, refl, sym, ap, ◌∙◌, subst, add-one}
use Rattle.atomic_table.specs.Table.{Me}
use Rattle.std.specs.Prelude.{List}
use Rattle.apf_model.specs.World.{width}
use Rattle.apf_gate.specs.declared.record.Record.{Record}
use Rattle.apf_gate.specs.declared.record.Record.TheVariants.{Pass}
use Rattle.apf_gate.specs.Records.{new_pass, own_width}
use Rattle.apf_gate.specs.Rule.{pass_of, first_alone, without_first}
use Rattle.apf_gate.specs.Tokens.{GateId}
use Rattle.apf_gate.proofs.Opening.{pass_dealt}
use Rattle.apf_gate.proofs.Puts.{any_default}
use Rattle.apf_gate.proofs.Seats.{cuts}
use Rattle.apf_gate.specs.Slots.{slot_of, round_of}
use Rattle.apf_gate.specs.Counted.{AreCounts}
use Rattle.apf_gate.proofs.Counting.{counts_none}
use Rattle.apf_gate.specs.Gauges.{shape_in}
use Rattle.apf_gate.proofs.Spreading.{slots_in, first_width}
use Rattle.apf_gate.proofs.gate.Gate.deal_passes.Goals as goal

pub split_seat-requires : goal.split_seat-requires
split_seat-requires g c =
    let i = c.self.invariant in
    let v = c.loop-r.invariant.view in
    let k = c.self.inside.gauge in
    let slots = slots_in k.lives k.numbers k.limit k.response k.widths.items k.stations in
    let first : c.loop-r.r < length k.widths.items = search rules in
    let below : c.loop-r.r < c.args.self.now.shape.slots = subst (λ (x : GateId). c.loop-r.r < x.shape.slots) c.self.view_is (subst (λ n. c.loop-r.r < n) (sym slots) first) in
    (search rules, omega (arith, i.has_words), cuts _ _ _ _ _ (ap (λ x. x.0) v ∙ pass_dealt _ c.loop-r.r below))

pub invariant_of-pass : goal.invariant_of-pass
invariant_of-pass g c =
    let v = c.loop-r.invariant.view in
    let shape = c.args.self.now.shape in
    let k = c.self.inside.gauge in
    let slots = slots_in k.lives k.numbers k.limit k.response k.widths.items k.stations in
    let first : c.loop-r.r < length k.widths.items = search rules in
    let below : c.loop-r.r < shape.slots = subst (λ (x : GateId). c.loop-r.r < x.shape.slots) c.self.view_is (subst (λ n. c.loop-r.r < n) (sym slots) first) in
    let dealt : c.split_seat.result.me ≡ (Pass (new_pass shape c.loop-r.r) ∷ [], []) =
    c.split_seat.ensures.4 ∙ (λ k. (first_alone ((ap (λ x. x.0) v ∙ pass_dealt shape c.loop-r.r below) k), [])) in
    let own = c.self.invariant.shape in
    let few = own.few_slots in
    let all = own.all_slots in
    let at : slot_of c.loop-r.r ≡ c.loop-r.r = omega (arith, slots) in
    let inside : c.loop-r.r < length (shape_in k.lives k.numbers k.limit k.response k.widths.items k.stations).widths = omega (arith, slots) in
    let small_number : c.loop-r.r < 2 ^ 75 = (let many = own.few_numbers in omega arith) in
    let in_slot : slot_of c.loop-r.r < (shape_in k.lives k.numbers k.limit k.response k.widths.items k.stations).slots = subst (λ n. n < (shape_in k.lives k.numbers k.limit k.response k.widths.items k.stations).slots) (sym at) (subst (λ n. c.loop-r.r < n) (sym slots) first) in
    let wide = c.index.ensures ∙ (any_default k.widths.items c.loop-r.r c.index.result.now first ∙ first_width k.lives k.numbers k.widths.items c.loop-r.r inside first) in
    let same = ap (λ (x : GateId). width x.shape.widths c.loop-r.r) c.self.view_is in
    let small = (own.widths c.loop-r.r inside).1 in record {
      alone = subst (λ (x : Me (Unit {0}) (List Record)). x ≡ (Pass (pass_of x.0) ∷ [], [])) (sym dealt) refl;
      same_number = ap (λ (x : Me (Unit {0}) (List Record)). (pass_of x.0).number) (sym dealt);
      same_width = wide ∙ (same ∙ ap (λ (x : Me (Unit {0}) (List Record)). own_width (pass_of x.0)) (sym dealt));
      inside = subst (λ (x : Me (Unit {0}) (List Record)). (pass_of x.0).number < length (pass_of x.0).knows.shape.widths) (sym dealt) (subst (λ (x : GateId). c.loop-r.r < length x.shape.widths) c.self.view_is inside);
      in_slot = subst (λ (x : Me (Unit {0}) (List Record)). slot_of (pass_of x.0).number < (pass_of x.0).knows.shape.slots) (sym dealt) (subst (λ (x : GateId). slot_of c.loop-r.r < x.shape.slots) c.self.view_is in_slot);
      small = small_number;
      narrow = subst (λ x. x ≤ 20000) (sym wide) small;
      counted = subst (λ (x : Me (Unit {0}) (List Record)). AreCounts c.none.result (pass_of x.0).past) (sym dealt) (subst (λ k. AreCounts k []) (sym c.none.ensures) counts_none);
      few = subst (λ (x : Me (Unit {0}) (List Record)). length (pass_of x.0).past ≤ round_of c.loop-r.r) (sym dealt) (omega arith);
    }

pub loop-r-preserved : goal.loop-r-preserved
loop-r-preserved g c =
    let v = c.loop-r.invariant.view in
    let shape = c.args.self.now.shape in
    let k = c.self.inside.gauge in
    let slots = slots_in k.lives k.numbers k.limit k.response k.widths.items k.stations in
    let first : c.loop-r.r < length k.widths.items = search rules in
    let below : c.loop-r.r < shape.slots = subst (λ (x : GateId). c.loop-r.r < x.shape.slots) c.self.view_is (subst (λ n. c.loop-r.r < n) (sym slots) first) in
    let dealt : c.split_seat.result.me ≡ (Pass (new_pass shape c.loop-r.r) ∷ [], []) =
    c.split_seat.ensures.4 ∙ (λ k. (first_alone ((ap (λ x. x.0) v ∙ pass_dealt shape c.loop-r.r below) k), [])) in
    let table : c.split_seat.result.table_id ≡ c.args.self.now.table = search rules in record {
      table = search rules;
      view = c.split_seat.ensures.2 ∙ (λ k. (without_first ((ap (λ x. x.0) v ∙ pass_dealt shape c.loop-r.r below) k), (v k).1));
      passes = rw add-one (c.in_ok-push.ensures.items ∙ (λ k. c.loop-r.invariant.passes k ++ record { table = table k; pass = pass_of (dealt k).0 } ∷ []));
    }
