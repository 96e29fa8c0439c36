use Rattle.std.proofs.Common.{rules, ◌≡◌, List, [], ◌∷◌, ◌++◌, arith, sym, ap, ◌∙◌, subst}
use Rattle.apf_gate.specs.declared.record.Record.TheVariants.{Pass, Desk}
use Rattle.apf_gate.specs.Rule.{Every, desk_of}
use Rattle.apf_gate.specs.Tokens.{GateId, PassToken, pass_gate}
use Rattle.apf_gate.specs.Ends.{passes_before}
use Rattle.apf_gate.proofs.Lists.{every_all}
use Rattle.apf_gate.proofs.Gathering.{every_front, every_last, regrouped}
use Rattle.apf_gate.proofs.Seats.{joins}
use Rattle.apf_gate.proofs.gate.Gate.gather_passes.Goals as goal

pub loop-pass-init : goal.loop-pass-init
loop-pass-init g c = record {
  table = c.requires.table;
  own = every_all (λ (t : PassToken). pass_gate t ≡ c.args.self.now) c.args.passes.items c.requires.own;
  view = ([], search rules, c.requires.view);
}

pub join_seat-requires : goal.join_seat-requires
join_seat-requires g c =
    let i = c.self.invariant in
    let m = c.pass.invariant in
    let own = subst (λ (l : List PassToken). Every (λ t. pass_gate t ≡ c.args.self.now) l) c.in-Some.ensures.items c.loop-pass.invariant.own in
    let mine = every_last (λ (t : PassToken). pass_gate t ≡ c.args.self.now) c.pop.new.self.items c.in-Some.pass own in
    let table = sym (ap (λ (x : GateId). x.table) c.self.view_is) in
    (c.loop-pass.invariant.table ∙ table, ap (λ (t : PassToken). t.table) c.pass.view_is ∙ (ap (λ (x : GateId). x.table) mine ∙ table), ap (λ x. x.1) m.alone, omega (arith, i.has_words), rw (m.alone) (joins _ _ _ _ _))

pub loop-pass-preserved : goal.loop-pass-preserved
loop-pass-preserved g c =
    let m = c.pass.invariant in
    let v = c.loop-pass.invariant.view in
    let own = subst (λ (l : List PassToken). Every (λ t. pass_gate t ≡ c.args.self.now) l) c.in-Some.ensures.items c.loop-pass.invariant.own in record {
      table = search rules;
      own = every_front (λ (t : PassToken). pass_gate t ≡ c.args.self.now) c.pop.new.self.items c.in-Some.pass own;
      view = (
        c.in-Some.pass ∷ v.0,
        regrouped c.pop.new.self.items c.in-Some.pass v.0 ∙ (ap (λ l. l ++ v.0) (sym c.in-Some.ensures.items) ∙ v.1),
        c.join_seat.ensures.2 ∙ (λ k. ((m.alone k).0 ++ (v.2 k).0, (v.2 k).1)) ∙ (λ k. (Pass (c.pass.view_is k).pass ∷ passes_before v.0 (Desk (desk_of c.args.seat.me.0) ∷ []), [])),
      );
    }
