-- A request came of a flow that has a row, or for which there is no room.
use Rattle.std.proofs.Common.{◌≡◌, ℕ, ◌+◌, ◌<◌, ◌≤◌, true, false, List, [], ◌∷◌, ◌++◌, length, get_or, refl, sym, ap, ◌∙◌, subst, arith}
use Rattle.std.specs.Prelude.{nat_eq}
use Rattle.std.proofs.lemmas.List.Quantifiers.{position-Some}
use Rattle.apf_rows.specs.declared.row.Row.{Row}
use Rattle.apf_rows.specs.Accounts.{AccountView}
use Rattle.apf_rows.specs.Rows.{AreRows, HaveMet, NamesRow, RowsView, is_among}
use Rattle.apf_rows.proofs.Flows.{any_default, as_many, kept_set, rows_kept}
use Rattle.apf_rows.proofs.Meeting.{found_met, full_met}
use Rattle.apf_rows.proofs.rows.Rows.meet.Goals as goal

-- the row of the request's flow
module _ (c : goal.In_ok-meet-in-Some) where
  abbrev pub v : RowsView
  v = record { flows = c.self.inside.flows.keys; rows = c.self.inside.rows.items; others = c.self.inside.others; all = c.self.inside.all }

  is : nat_eq c.args.came.now.item.hash (get_or c.self.inside.flows.keys c.in-Some.place 0) ≡ true
  is = (position-Some (nat_eq c.args.came.now.item.hash) c.self.inside.flows.keys c.in-Some.place 0 (sym c.in-Some.ensures.index)).1

  low : c.in-Some.place < length c.self.inside.rows.items
  low =
      let l = (position-Some (nat_eq c.args.came.now.item.hash) c.self.inside.flows.keys c.in-Some.place 0 (sym c.in-Some.ensures.index)).0 in
      let n = as_many c.self.inside.rows.items c.self.inside.flows.keys c.self.invariant.hashes in omega arith

  at : c.index_mut.result.now ≡ get_or c.self.inside.rows.items c.in-Some.place c.meet.new.self
  at = c.index_mut.ensures.value ∙ any_default c.self.inside.rows.items c.in-Some.place c.index_mut.result.now c.meet.new.self low

  same : c.meet.new.self.hash ≡ (get_or c.self.inside.rows.items c.in-Some.place c.meet.new.self).hash
  same = c.in_ok-meet-in-Some.ensures.hash ∙ ap (λ (r : Row). r.hash) at

pub invariant_of-self-in-Some : goal.invariant_of-self-in-Some
invariant_of-self-in-Some c =
    let i = c.self.invariant in
    let b = i.below c.in-Some.place c.index_mut.result.now (low c) in
    let a = ap (λ (r : Row). r.account.sums.requests) c.index_mut.ensures.value in
    let n = ap (λ (x : AccountView). x.sums.requests) c.in_ok-meet-in-Some.ensures.account in
    kept_set c.self.inside.flows.keys c.self.inside.rows.items c.self.inside.others c.self.inside.all c.self.inside.all c.in-Some.place c.meet.new.self i (same c) (omega arith) (omega arith)

pub returns-in_ok-meet-in-Some-clause-met : goal.returns-in_ok-meet-in-Some-clause-met
returns-in_ok-meet-in-Some-clause-met c before met =
    let names = subst (λ (r : Row). NamesRow c.args.came.now r c.meet.new.self) (at c) c.in_ok-meet-in-Some.ensures.named in
    found_met before c.args.came.now (v c) c.in-Some.place c.meet.new.self c.self.invariant (low c) (is c) (same c) names (subst (HaveMet before) (sym c.self.view_is) met)

pub returns-in_ok-meet-in-Some-clause-rows : goal.returns-in_ok-meet-in-Some-clause-rows
returns-in_ok-meet-in-Some-clause-rows c told are =
    rows_kept told (v c) c.in-Some.place c.meet.new.self (same c) (c.in_ok-meet-in-Some.ensures.account ∙ ap (λ (r : Row). r.account) (at c)) (low c) (subst (AreRows told) (sym c.self.view_is) are)

pub returns-in-None-2-clause-met : goal.returns-in-None-2-clause-met
returns-in-None-2-clause-met c before met =
    let w : RowsView = record { flows = c.self.inside.flows.keys; rows = c.self.inside.rows.items; others = c.self.inside.others; all = c.self.inside.all } in
    let full = c.if-len-lt-MOST_FLOWS.false in
    let many = c.len.ensures.len in
    subst (HaveMet (before ++ c.args.came.now ∷ [])) c.self.view_is
    (full_met before c.args.came.now w c.self.invariant (sym c.in-None-2.ensures.found) (omega arith) (subst (HaveMet before) (sym c.self.view_is) met))
