-- Which of the two firsts is the first of all.
use Rattle.std.proofs.Common.{◌≡◌, true, false, heap_items, refl, sym, ◌∙◌, subst, arith}
use Rattle.std.specs.declared.cmp.Reverse.{Reverse}
use Rattle.apf_times.specs.declared.window.Arrival.{Arrival}
use Rattle.apf_times.specs.Windows.{precedes}
use Rattle.apf_times.proofs.Windows.{before_all, none_late, same_first}
use Rattle.apf_times.proofs.window.is_late_first.Goals as goal

pub returns-in-Some-Some-clause-late : goal.returns-in-Some-Some-clause-late
returns-in-Some-Some-clause-late g c lower x is =
    let top = c.in-Some-Some.field-0-0.now in
    let first = c.in-Some-Some.first.now in
    let stored = c.args.late.now.data.ok.0 in
    let some = c.in-Some-Some.ensures.variant.0 refl in
    let same : x ≡ top = same_first (heap_items c.args.late.now) x top (omega arith) is c.in-Some-Some.ensures.lookup in
    before_all x.0 c.args.in_order.now.items first c.in-Some-Some.ensures'.lookup
    (subst (λ (z : Reverse (Arrival g.row.T.Denot)). precedes z.0.place first.place ≡ true) (sym same) (sym c.is_before.ensures ∙ lower)) c.requires.order

pub returns-in-Some-Some-clause-in_order : goal.returns-in-Some-Some-clause-in_order
returns-in-Some-Some-clause-in_order g c no_lower x is some =
    let top = c.in-Some-Some.field-0-0.now in
    let first = c.in-Some-Some.first.now in
    let same : x ≡ first = same_first c.args.in_order.now.items x first some is c.in-Some-Some.ensures'.lookup in
    none_late x top (heap_items c.args.late.now)
    (subst (λ (z : Arrival g.row.T.Denot). precedes top.0.place z.place ≡ false) (sym same) (sym c.is_before.ensures ∙ no_lower)) (c.in-Some-Some.ensures.greatest c.requires.heap)
