use Rattle.std.proofs.Common.{◌≡◌, List, [], ◌∷◌, arith, refl, sym, ap, ◌∙◌, subst}
use Rattle.apf_gate.specs.declared.record.Shape.{Shape}
use Rattle.apf_gate.specs.declared.record.Record.{Record}
use Rattle.apf_gate.specs.declared.record.Record.TheVariants.{Desk}
use Rattle.apf_gate.specs.Rule.{desk_of, first_alone, last_alone}
use Rattle.apf_gate.specs.Tokens.{GateId}
use Rattle.apf_gate.specs.Ends.{handed_in, passes_before, stations_before}
use Rattle.apf_gate.specs.Whole.{IsOne}
use Rattle.apf_gate.proofs.Seats.{cuts, cuts_last, last_of}
use Rattle.apf_gate.proofs.Whole.{looks_at_all, desk_last}
use Rattle.apf_gate.proofs.gate.Gate.look_at_all.Goals as goal

pub split_seat-lent-requires : goal.split_seat-lent-requires
split_seat-lent-requires g c =
    let i = c.self.invariant in
    let m = c.requires.desk in
    (m.same_table ∙ sym (ap (λ (x : GateId). x.table) c.self.view_is), omega (arith, i.has_words), rw (m.alone) (cuts _ _ _ (Desk (desk_of c.args.desk.now.me.0)) [] refl))

pub load-requires : goal.load-requires
load-requires g c =
    let i = c.self.invariant in
    let m = c.requires.desk in
    let d = desk_of c.args.desk.now.me.0 in
    let lent : c.split_seat-lent.result.me ≡ (Desk d ∷ [], []) = c.split_seat-lent.ensures.4 ∙ (λ k. (first_alone (m.alone k).0, [])) in
    let some : c.gather_passes-some.result.me ≡ (passes_before c.args.passes.items (Desk d ∷ []), []) = c.gather_passes-some.ensures.view ∙ (λ k. (passes_before c.args.passes.items (Desk (desk_of (lent k).0) ∷ []), [])) in
    let all : c.gather_stations-all.result.me ≡ (handed_in d c.args.passes.items c.args.stations.items, []) = c.gather_stations-all.ensures.view ∙ (λ k. (stations_before c.args.stations.items (some k).0, [])) in
    (c.gather_stations-all.ensures.table ∙ sym (ap (λ (x : GateId). x.table) c.self.view_is), omega (arith, i.has_words), rw (all) (looks_at_all _ _ _ _ _ d (desk_last c.args.passes.items c.args.stations.items (Desk d))))

pub split_seat-requires : goal.split_seat-requires
split_seat-requires g c =
    let i = c.self.invariant in
    let m = c.requires.desk in
    let d = desk_of c.args.desk.now.me.0 in
    let lent : c.split_seat-lent.result.me ≡ (Desk d ∷ [], []) = c.split_seat-lent.ensures.4 ∙ (λ k. (first_alone (m.alone k).0, [])) in
    let some : c.gather_passes-some.result.me ≡ (passes_before c.args.passes.items (Desk d ∷ []), []) = c.gather_passes-some.ensures.view ∙ (λ k. (passes_before c.args.passes.items (Desk (desk_of (lent k).0) ∷ []), [])) in
    let all : c.gather_stations-all.result.me ≡ (handed_in d c.args.passes.items c.args.stations.items, []) = c.gather_stations-all.ensures.view ∙ (λ k. (stations_before c.args.stations.items (some k).0, [])) in
    let now : c.load.new.seat.me ≡ (handed_in d c.args.passes.items c.args.stations.items, []) = c.load.ensures.2.0 ∙ all in
    (c.load.ensures.0 ∙ (c.gather_stations-all.ensures.table ∙ sym (ap (λ (x : GateId). x.table) c.self.view_is)), omega (arith, i.has_words), cuts_last _ _ _ _ (Desk d) (ap (λ x. x.0) now ∙ desk_last c.args.passes.items c.args.stations.items (Desk d)))

pub returns-clause-same : goal.returns-clause-same
returns-clause-same g c =
    let m = c.requires.desk in
    let d = desk_of c.args.desk.now.me.0 in
    let lent : c.split_seat-lent.result.me ≡ (Desk d ∷ [], []) = c.split_seat-lent.ensures.4 ∙ (λ k. (first_alone (m.alone k).0, [])) in
    let some : c.gather_passes-some.result.me ≡ (passes_before c.args.passes.items (Desk d ∷ []), []) = c.gather_passes-some.ensures.view ∙ (λ k. (passes_before c.args.passes.items (Desk (desk_of (lent k).0) ∷ []), [])) in
    let all : c.gather_stations-all.result.me ≡ (handed_in d c.args.passes.items c.args.stations.items, []) = c.gather_stations-all.ensures.view ∙ (λ k. (stations_before c.args.stations.items (some k).0, [])) in
    let now : c.load.new.seat.me ≡ (handed_in d c.args.passes.items c.args.stations.items, []) = c.load.ensures.2.0 ∙ all in
    let own : last_alone c.load.new.seat.me.0 ≡ Desk d ∷ [] = ap (λ x. last_alone x.0) now ∙ (ap last_alone (desk_last c.args.passes.items c.args.stations.items (Desk d)) ∙ last_of (stations_before c.args.stations.items (passes_before c.args.passes.items [])) (Desk d)) in
    c.split_seat.ensures.4 ∙ ((λ k. (own k, [])) ∙ sym m.alone)

pub returns-clause-one : goal.returns-clause-one
returns-clause-one g c =
    let m = c.requires.desk in
    let d = desk_of c.args.desk.now.me.0 in
    let lent : c.split_seat-lent.result.me ≡ (Desk d ∷ [], []) = c.split_seat-lent.ensures.4 ∙ (λ k. (first_alone (m.alone k).0, [])) in
    let some : c.gather_passes-some.result.me ≡ (passes_before c.args.passes.items (Desk d ∷ []), []) = c.gather_passes-some.ensures.view ∙ (λ k. (passes_before c.args.passes.items (Desk (desk_of (lent k).0) ∷ []), [])) in
    let all : c.gather_stations-all.result.me ≡ (handed_in d c.args.passes.items c.args.stations.items, []) = c.gather_stations-all.ensures.view ∙ (λ k. (stations_before c.args.stations.items (some k).0, [])) in
    let own : last_alone c.gather_stations-all.result.me.0 ≡ Desk d ∷ [] = ap (λ x. last_alone x.0) all ∙ (ap last_alone (desk_last c.args.passes.items c.args.stations.items (Desk d)) ∙ last_of (stations_before c.args.stations.items (passes_before c.args.passes.items [])) (Desk d)) in
    let shape = ap (λ l. (desk_of l).knows.shape) own ∙ c.requires.shape in
    subst (λ (x : Shape × List Record). IsOne x.0 x.1) (λ k. (shape k, (all k).0)) c.load.ensures.2.1
