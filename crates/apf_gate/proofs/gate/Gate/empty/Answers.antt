use Rattle.std.proofs.Common.{rules, ◌≡◌, ◌+◌, false, length, set, replicate, arith, sym, ap, ◌∙◌, subst, length-set}
use Rattle.apf_words.specs.Level.{packed}
use Rattle.apf_words.specs.Limits.{max_width}
use Rattle.apf_gate.specs.declared.record.Shape.{Shape}
use Rattle.apf_gate.specs.Traces.{opening_of}
use Rattle.apf_gate.specs.Gauges.{shape_in, IsShape, AreLaws}
use Rattle.std.proofs.lemmas.List.{length-replicate}
use Rattle.std.specs.declared.snapshot.Snapshot.{Snapshot}
use Rattle.apf_gate.specs.declared.rule.Gauge.{Gauge}
use Rattle.apf_gate.proofs.Opening.{begins}
use Rattle.apf_gate.proofs.gate.Gate.empty.Goals as goal

pub of_words-requires : goal.of_words-requires
of_words-requires g c =
    let safe = c.every_schedule_is_safe.ensures in
    let sums = c.every_world_adds_up.ensures in
    let items : c.in_ok-from_slice.field-0.items ≡ c.args.widths.now = search rules in
    let zeros : c.in_ok-words.words.items ≡ replicate (length c.args.widths.now + 1) 0 = search rules in
    let s : Shape = shape_in c.args.lives c.args.numbers c.args.limit c.args.response c.in_ok-from_slice.field-0.items c.args.stations in
    let shape : IsShape s = subst (λ ws. IsShape (shape_in c.args.lives c.args.numbers c.args.limit c.args.response ws c.args.stations)) (sym items) c.requires in
    let laws : AreLaws s = record {
      sums = λ w. (sums s.widths w).change;
      few_wait = λ w. (sums s.widths w).few_wait;
      nobody_waits = λ w. (sums s.widths w).nobody_waits;
      nobody_stands = λ w. (sums s.widths w).nobody_stands;
      bounded = λ ms schedule l. (safe (opening_of s) ms schedule).bounded max_width shape.widths l (omega arith);
    } in
    rw (c.of.ensures) (begins s shape laws _ (c.as_slice.ensures.value ∙ (λ k. set ((zeros ∙ ap (λ ws. replicate (length ws + 1) 0) (sym items)) k) 0 ((c.pack.ensures.value ∙ ap packed c.opening.ensures) k))))

pub invariant_of-result : goal.invariant_of-result
invariant_of-result g c =
    let safe = c.every_schedule_is_safe.ensures in
    let sums = c.every_world_adds_up.ensures in
    let items : c.in_ok-from_slice.field-0.items ≡ c.args.widths.now = search rules in
    let zeros : c.in_ok-words.words.items ≡ replicate (length c.args.widths.now + 1) 0 = search rules in
    let s : Shape = shape_in c.args.lives c.args.numbers c.args.limit c.args.response c.in_ok-from_slice.field-0.items c.args.stations in
    let shape : IsShape s = subst (λ ws. IsShape (shape_in c.args.lives c.args.numbers c.args.limit c.args.response ws c.args.stations)) (sym items) c.requires in
    let board = c.in_ok-board.ensures in
    let first = packed (record { closed = false; waiters = 0; seats = 0; limit = c.args.limit }) in
    let made : c.as_slice.result.now ≡ set (replicate (s.slots + 1) 0) 0 first =
    c.as_slice.ensures.value ∙ (λ k. set ((zeros ∙ ap (λ ws. replicate (length ws + 1) 0) (sym items)) k) 0 ((c.pack.ensures.value ∙ ap packed c.opening.ensures) k)) in record {
      has_words = board.0 ∙ (ap length made ∙ (length-set (replicate (s.slots + 1) 0) 0 first ∙ length-replicate (s.slots + 1) 0));
      no_slots = search rules;
      same_key = ap (λ (k : Snapshot (Gauge g.row.A.Denot)). shape_in k.value.lives k.value.numbers k.value.limit k.value.response k.value.widths.items k.value.stations) board.5 ∙ ap (λ (v : Gauge g.row.A.Denot). shape_in v.lives v.numbers v.limit v.response v.widths.items v.stations) c.of.ensures;
      shape = shape;
      laws = record {
        sums = λ w. (sums s.widths w).change;
        few_wait = λ w. (sums s.widths w).few_wait;
        nobody_waits = λ w. (sums s.widths w).nobody_waits;
        nobody_stands = λ w. (sums s.widths w).nobody_stands;
        bounded = λ ms schedule l. (safe (opening_of s) ms schedule).bounded max_width shape.widths l (omega arith);
      };
    }
