use Rattle.std.proofs.Common.{rules, ◌∙◌, length, All, sym, ap, subst}
use Rattle.apf_gate.specs.declared.record.Shape.{Shape}
use Rattle.apf_session.specs.Openings.{IsNew}
use Rattle.apf_session.specs.LifeOpenings.{IsFirstOf}
use Rattle.apf_session.proofs.Opened.{are_first, all_numbers, are_new}
use Rattle.apf_session.proofs.life.opening.Opening.new.Goals as goal

pub invariant_of-result : goal.invariant_of-result
invariant_of-result c =
    record {
      desk_is = search rules;
      limit_is = search rules;
      response_is = search rules;
      numbers_are = ap (λ (s : Shape). length s.widths) c.in_ok-gate.ensures.shape ∙ all_numbers c.as_slice.result.now;
      passes_are = search rules;
      passes_first = subst (All (IsFirstOf c.in_ok-gate.gate)) (sym c.in_ok-gate.ensures.passes) (are_first c.in_ok-gate.gate (length c.as_slice.result.now) c.in_ok-gate.ensures.is_shape.few_slots);
      passes_count = search rules;
      stations_are = search rules;
      stations_new = subst (All (IsNew c.in_ok-gate.gate)) (sym c.in_ok-gate.ensures.stations) (are_new c.in_ok-gate.gate c.args.stations);
      stations_count = search rules;
      can_open = search rules;
    }
