-- The rows come to a table.
use Rattle.std.proofs.Common.{◌≡◌, List, sym, subst}
use Rattle.apf_rows.specs.declared.account.Figures.{Figures}
use Rattle.apf_rows.specs.Accounts.{AreFigures, IsAccount}
use Rattle.apf_rows.specs.Rows.{AreRows, HaveMet, RowsView, of_others}
use Rattle.apf_rows.proofs.Tabling.{table_of}
use Rattle.apf_rows.proofs.rows.Rows.close.Goals as goal

pub returns : goal.returns
returns c came told met are =
    let v : RowsView = record { flows = c.self.inside.flows.keys; rows = c.self.inside.rows.items; others = c.self.inside.others; all = c.self.inside.all } in
    let was = subst (AreRows told) (sym c.self.view_is) are in
    let e = c.in_ok-of.ensures in
    table_of came told v e.each.0 c.in_ok-of.field-0 c.self.invariant (subst (HaveMet came) (sym c.self.view_is) met) was e.each.1 e.each.2 e.order
    (subst (AreFigures (of_others v.flows told)) (sym e.others) (c.figures-others.ensures.figures (of_others v.flows told) was.others))
    (subst (AreFigures told) (sym e.all) (c.figures-all.ensures.figures told was.all))
