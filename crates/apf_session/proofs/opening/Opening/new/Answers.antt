use Rattle.std.proofs.Common.{rules, ◌≡◌, length, refl, All, sym, ap, subst, arith}
use Rattle.std.proofs.lemmas.Option.{get_or_from_slice_get}
use Rattle.apf_gate.specs.declared.record.Shape.{Shape}
use Rattle.apf_gate.specs.Tokens.{PassToken}
use Rattle.apf_session.specs.Openings.{IsNew}
use Rattle.apf_session.proofs.Opened.{are_new}
use Rattle.apf_session.proofs.opening.Opening.new.Goals as goal

pub invariant_of-result : goal.invariant_of-result
invariant_of-result c =
    record {
      desk_is = search rules;
      is_a_batch = subst (λ (s : Shape). length s.widths ≡ s.slots) (sym c.in_ok-gate.ensures.shape) refl;
      limit_is = search rules;
      widths_are = search rules;
      response_is = search rules;
      passes_are = search rules;
      passes_numbered = λ i d low. ap (λ (t : PassToken). t.pass.number) (get_or_from_slice_get c.in_ok-gate.passes.items i _ d (c.in_ok-gate.ensures.each_pass i (let count = c.in_ok-gate.ensures.counts.0 in omega (arith, low, count))));
      stations_are = search rules;
      stations_new = subst (All (IsNew c.in_ok-gate.gate)) (sym c.in_ok-gate.ensures.stations) (are_new c.in_ok-gate.gate c.args.stations);
      passes_count = search rules;
      stations_count = search rules;
      is_shape = search rules;
      few_stations = search rules;
      few = search rules;
      window_is = search rules;
      reader_is = search rules;
      nothing_published = search rules;
      nothing_read = search rules;
    }
