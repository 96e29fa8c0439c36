use Rattle.std.proofs.Common.{rules, arith, ◌≡◌, length, sym, ap, ◌∙◌, subst}
use Rattle.std.specs.Prelude.{slice_get, All, IfOk, OnOk, Result, Ok, Err}
use Rattle.apf_gate.specs.declared.record.State.TheVariants.{Fresh}
use Rattle.apf_gate.specs.Gauges.{shape_of, max_numbers, IsShape}
use Rattle.apf_gate.specs.Tokens.{PassToken, StationToken, pass_gate, station_gate}
use Rattle.apf_gate.proofs.NewTokens.{all_passes, all_stations, length_passes, length_stations, pass_at, station_at}
use Rattle.apf_gate.proofs.Spreading.{life_is_shape}
use Rattle.apf_gate.proofs.gate.Gate.open_for_life.Goals as goal

ok_const : {X E : Type 0} (P : Type 0) (r : Result X E) → P → OnOk r P
ok_const P (Ok x) p = p
ok_const P (Err e) p = tt

pub laid-requires : goal.laid-requires
laid-requires g c =
    let shape : IsShape (shape_of c.args.limit c.args.response c.args.widths.now c.args.stations) = search rules in
    life_is_shape max_numbers c.args.limit c.args.response c.args.widths.now c.args.stations shape (let few = shape.few_slots in omega arith) (omega arith)

pub returns-clause-is_shape : goal.returns-clause-is_shape
returns-clause-is_shape g c = ok_const _ c.laid.result (
    let shape : IsShape (shape_of c.args.limit c.args.response c.args.widths.now c.args.stations) = search rules in
    life_is_shape max_numbers c.args.limit c.args.response c.args.widths.now c.args.stations shape (let few = shape.few_slots in omega arith) (omega arith))

-- a promise of an answer that follows from another
ok_map : {X E : Type 0} (P Q : X → Type 0) (r : Result X E) → ((x : X) → P x → Q x) → IfOk r P → IfOk r Q
ok_map P Q (Ok x) f k = f x k
ok_map P Q (Err e) f k = tt

ok_both : {X E : Type 0} (P Q : X → Type 0) (r : Result X E) → IfOk r P → IfOk r Q → IfOk r (λ x. P x × Q x)
ok_both P Q (Ok x) a b = (a, b)
ok_both P Q (Err e) a b = tt

pub returns-clause-each_pass : goal.returns-clause-each_pass
returns-clause-each_pass g c = ok_map _ _ c.laid.result (λ o is r l. ap (λ xs. slice_get xs r) is ∙ pass_at o.0 (length c.args.widths.now) r l) c.laid.ensures.passes

pub returns-clause-each_station : goal.returns-clause-each_station
returns-clause-each_station g c = ok_map _ _ c.laid.result (λ o is k l. ap (λ xs. slice_get xs k) is ∙ station_at o.0 c.args.stations k l) c.laid.ensures.stations

pub returns-clause-counts : goal.returns-clause-counts
returns-clause-counts g c = ok_map _ _ c.laid.result (λ o is. (ap length is.0 ∙ length_passes o.0 (length c.args.widths.now), ap length is.1 ∙ length_stations o.0 c.args.stations)) (ok_both _ _ c.laid.result c.laid.ensures.passes c.laid.ensures.stations)

pub returns-clause-fresh : goal.returns-clause-fresh
returns-clause-fresh g c = ok_map _ _ c.laid.result (λ o is. subst (All (λ (t : PassToken). (pass_gate t ≡ o.0) × (t.pass.state ≡ Fresh))) (sym is) (all_passes o.0 (length c.args.widths.now))) c.laid.ensures.passes

pub returns-clause-own : goal.returns-clause-own
returns-clause-own g c = ok_map _ _ c.laid.result (λ o is. subst (All (λ (t : StationToken). station_gate t ≡ o.0)) (sym is) (all_stations o.0 c.args.stations)) c.laid.ensures.stations
