-- One request more, in its flow's row or in that of the others.
use Rattle.std.proofs.Common.{◌≡◌, ℕ, ◌+◌, ◌<◌, ◌≤◌, true, false, List, [], ◌∷◌, ◌++◌, length, get_or, refl, sym, ap, ◌∙◌, subst, arith}
use Rattle.std.specs.Prelude.{nat_eq}
use Rattle.std.proofs.lemmas.List.Quantifiers.{position-Some}
use Rattle.apf_rows.specs.declared.row.Row.{Row}
use Rattle.apf_rows.specs.Accounts.{AccountView}
use Rattle.apf_rows.specs.Rows.{AreRows, HaveMet, IsNamed, RowsView, is_among}
use Rattle.apf_rows.proofs.Flows.{Adds, any_default, as_many, kept_set, others_added, rows_added}
use Rattle.apf_rows.proofs.Meeting.{named_set}
use Rattle.apf_rows.proofs.rows.Rows.add.Goals as goal

-- the row of the request's flow, and with the request
module _ (c : goal.In_ok-add-in-Some) where
  abbrev pub v : RowsView
  v = record { flows = c.self.inside.flows.keys; rows = c.self.inside.rows.items; others = c.self.inside.others; all = c.self.inside.all }

  abbrev pub old : Row
  old = c.index_mut.result.now

  abbrev pub row : Row
  row = record { hash = old.hash; first = old.first; names = old.names; account = c.add-in-Some.new.self }

  is : nat_eq c.args.ended.now.hold.asked.hash (get_or c.self.inside.flows.keys c.in-Some.place 0) ≡ true
  is = (position-Some (nat_eq c.args.ended.now.hold.asked.hash) c.self.inside.flows.keys c.in-Some.place 0 (sym c.in-Some.ensures.index)).1

  low : c.in-Some.place < length c.self.inside.rows.items
  low =
      let l = (position-Some (nat_eq c.args.ended.now.hold.asked.hash) c.self.inside.flows.keys c.in-Some.place 0 (sym c.in-Some.ensures.index)).0 in
      let n = as_many c.self.inside.rows.items c.self.inside.flows.keys c.self.invariant.hashes in omega arith

  at : old ≡ get_or c.self.inside.rows.items c.in-Some.place row
  at = c.index_mut.ensures.value ∙ any_default c.self.inside.rows.items c.in-Some.place old row low

  same : row.hash ≡ (get_or c.self.inside.rows.items c.in-Some.place row).hash
  same = ap (λ (r : Row). r.hash) at

pub invariant_of-self-in-Continue-branch-2 : goal.invariant_of-self-in-Continue-branch-2
invariant_of-self-in-Continue-branch-2 c =
    let i = c.self.invariant in
    let b = i.below c.in-Some.place (old c) (low c) in
    let a = ap (λ (r : Row). r.account.sums.requests) (c.index_mut.ensures.value) in
    let n = c.in_ok-add.ensures.requests in
    let m = c.in_ok-add-in-Some.ensures.requests in
    kept_set c.self.inside.flows.keys c.self.inside.rows.items c.self.inside.others c.self.inside.all c.add.new.self c.in-Some.place (row c) i (same c) (omega arith) (omega arith)

pub returns-in_ok-add-in-Some-clause-added : goal.returns-in_ok-add-in-Some-clause-added
returns-in_ok-add-in-Some-clause-added c told are =
    let adds = subst (λ (r : Row). Adds c.args.ended.now r.account c.add-in-Some.new.self) (at c) c.in_ok-add-in-Some.ensures.added in
    rows_added told c.args.ended.now (v c) c.in-Some.place (row c) c.add.new.self c.self.invariant (low c) (is c) (same c) adds c.in_ok-add.ensures.added (subst (AreRows told) (sym c.self.view_is) are)

pub returns-in_ok-add-in-Some-clause-met : goal.returns-in_ok-add-in-Some-clause-met
returns-in_ok-add-in-Some-clause-met c came met =
    let was = subst (HaveMet came) (sym c.self.view_is) met in
    let named = subst (IsNamed came) (sym c.index_mut.ensures.value) (was.named c.in-Some.place (old c) (low c)) in
    named_set came (v c) c.in-Some.place (row c) c.add.new.self
    (record { first = named.first; among = named.among; flow = named.flow; is_line = named.is_line; named = named.named; least = named.least }) was

pub returns-in_ok-add-in-None-clause-added : goal.returns-in_ok-add-in-None-clause-added
returns-in_ok-add-in-None-clause-added c told are =
    let w : RowsView = record { flows = c.self.inside.flows.keys; rows = c.self.inside.rows.items; others = c.self.inside.others; all = c.self.inside.all } in
    others_added told c.args.ended.now w c.add-in-None.new.self c.add.new.self c.self.invariant (sym c.in-None.ensures.found) c.in_ok-add-in-None.ensures.added c.in_ok-add.ensures.added (subst (AreRows told) (sym c.self.view_is) are)
