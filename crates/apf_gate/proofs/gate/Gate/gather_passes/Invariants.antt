use Rattle.std.proofs.Common.{◌≡◌, [], ◌∷◌, ◌++◌, List}
use Rattle.apf_gate.specs.declared.record.Record.TheVariants.{Desk}
use Rattle.apf_gate.specs.Rule.{Every, desk_of}
use Rattle.apf_gate.specs.Tokens.{PassToken, pass_gate}
use Rattle.apf_gate.specs.Ends.{passes_before}
use Rattle.apf_gate.proofs.gate.Gate.gather_passes.Given as goal

abbrev pub invariant-loop-pass : goal.invariant-loop-pass
invariant-loop-pass g l = record {
  table : l.seat.table_id ≡ l.self.table;
  own : Every (λ t. pass_gate t ≡ l.self) l.passes.items;
  view : (rest : List PassToken) × (l.passes.items ++ rest ≡ l.fn.passes.items) × (l.seat.me ≡ (passes_before rest (Desk (desk_of l.fn.seat.me.0) ∷ []), []));
}

abbrev pub decreases-loop-pass : goal.decreases-loop-pass
decreases-loop-pass g l = goal.left-loop-pass g l
