-- A flow has its first row.
use Rattle.std.proofs.Common.{◌≡◌, ℕ, ◌<◌, Bool, false, List, [], ◌∷◌, ◌++◌, length, refl, sym, ap, ◌∙◌, subst, arith}
use Rattle.std.specs.Prelude.{if◌then◌else◌}
use Rattle.apf_rows.specs.declared.row.Row.{Row}
use Rattle.apf_rows.specs.Accounts.{IsAccount}
use Rattle.apf_rows.specs.Rows.{AreRows, HaveMet, RowsView, is_among, max_flows}
use Rattle.apf_rows.proofs.Flows.{rows_begun}
use Rattle.apf_rows.proofs.Meeting.{begun_met}
use Rattle.apf_rows.proofs.rows.Rows.begin.Goals as goal

module _ (c : goal.In_ok-push) where
  abbrev pub v : RowsView
  v = record { flows = c.self.inside.flows.keys; rows = c.self.inside.rows.items; others = c.self.inside.others; all = c.self.inside.all }

  abbrev pub row : Row
  row = c.in_ok-row.row

  absent : is_among c.self.inside.flows.keys c.args.came.now.item.hash ≡ false
  absent = ap (λ (w : RowsView). is_among w.flows c.args.came.now.item.hash) c.self.view_is ∙ c.requires.absent

  room : length c.self.inside.flows.keys < max_flows
  room = let e = ap (λ (w : RowsView). length w.flows) c.self.view_is in let r = c.requires.room in omega arith

  flows_are : c.insert.new.self.keys ≡ c.self.inside.flows.keys ++ c.in_ok-row.row.hash ∷ []
  flows_are =
      c.in_ok-insert.ensures.keys ∙ ap (λ (b : Bool). if b then c.self.inside.flows.keys else c.self.inside.flows.keys ++ c.args.came.now.item.hash ∷ []) absent
      ∙ ap (λ (h : ℕ). c.self.inside.flows.keys ++ h ∷ []) (sym c.in_ok-row.ensures.hash)

  rows_are : c.push.new.self.items ≡ c.self.inside.rows.items ++ c.in_ok-row.row ∷ []
  rows_are = c.in_ok-push.ensures.items ∙ ap (λ (l : List Row). l ++ c.in_ok-row.row ∷ []) c.in_ok-reserve.ensures.items

pub returns-clause-met : goal.returns-clause-met
returns-clause-met c before met =
    let came = c.args.came.now in
    subst (λ (fs : List ℕ). HaveMet (before ++ came ∷ []) (record { flows = fs; rows = c.push.new.self.items; others = c.self.inside.others; all = c.self.inside.all })) (sym (flows_are c))
    (subst (λ (rs : List Row). HaveMet (before ++ came ∷ []) (record { flows = (v c).flows ++ (row c).hash ∷ []; rows = rs; others = c.self.inside.others; all = c.self.inside.all })) (sym (rows_are c))
    (begun_met before came (v c) (row c) c.self.invariant (absent c) (room c) c.in_ok-row.ensures.hash c.in_ok-row.ensures.first c.in_ok-row.ensures.names (subst (HaveMet before) (sym c.self.view_is) met)))

pub returns-clause-rows : goal.returns-clause-rows
returns-clause-rows c told are =
    subst (λ (fs : List ℕ). AreRows told (record { flows = fs; rows = c.push.new.self.items; others = c.self.inside.others; all = c.self.inside.all })) (sym (flows_are c))
    (subst (λ (rs : List Row). AreRows told (record { flows = (v c).flows ++ (row c).hash ∷ []; rows = rs; others = c.self.inside.others; all = c.self.inside.all })) (sym (rows_are c))
    (rows_begun told (v c) (row c) c.self.invariant (ap (is_among c.self.inside.flows.keys) c.in_ok-row.ensures.hash ∙ absent c) (room c) c.in_ok-row.ensures.nobody (subst (AreRows told) (sym c.self.view_is) are)))
