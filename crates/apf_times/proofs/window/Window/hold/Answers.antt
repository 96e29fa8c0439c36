-- One more is held, in order or late.
use Rattle.std.proofs.Common.{List, IsPermutation, ◌∷◌, heap_items, refl, sym, ap, ◌∙◌, subst}
use Rattle.std.specs.declared.cmp.Reverse.{Reverse}
use Rattle.apf_times.specs.declared.window.Arrival.{Arrival}
use Rattle.apf_times.specs.Windows.{all_held}
use Rattle.apf_times.specs.WindowRuns.{AreInPlace}
use Rattle.apf_times.proofs.Handings.{in_place}
use Rattle.apf_times.proofs.Windows.{joins_in_order, joins_late}
use Rattle.apf_times.proofs.window.Window.hold.Goals as goal

pub invariant_of-self : goal.invariant_of-self
invariant_of-self g c =
    let behind = c.if-is_behind.ensures refl c.self.invariant.0 in
    (subst (λ (l : List (Arrival g.row.T.Denot)). AreInPlace l) (sym c.in_ok-push_back.ensures.items) (in_place c.self.inside.in_order.items c.args.arrival c.self.invariant.0 behind), c.self.invariant.1)

pub returns-in_ok-push_back-clause-joins : goal.returns-in_ok-push_back-clause-joins
returns-in_ok-push_back-clause-joins g c =
    let xs = c.self.inside.in_order.items in
    let ys = heap_items c.self.inside.late in
    let more : IsPermutation (c.args.arrival ∷ all_held xs ys) (all_held c.push_back.new.self.items ys) =
    subst (λ (l : List (Arrival g.row.T.Denot)). IsPermutation (c.args.arrival ∷ all_held xs ys) (all_held l ys)) (sym c.in_ok-push_back.ensures.items) (joins_in_order xs ys c.args.arrival) in
    subst (λ (l : List (Arrival g.row.T.Denot)). IsPermutation (c.args.arrival ∷ l) (all_held c.push_back.new.self.items ys)) (ap (λ v. v.held) c.self.view_is ∙ c.make_room.ensures.held) more

pub returns-in_ok-push-clause-joins : goal.returns-in_ok-push-clause-joins
returns-in_ok-push-clause-joins g c =
    let xs = c.self.inside.in_order.items in
    let added : Reverse (Arrival g.row.T.Denot) = record { 0 = c.args.arrival } in
    subst (λ (l : List (Arrival g.row.T.Denot)). IsPermutation (c.args.arrival ∷ l) (all_held xs (heap_items c.push.new.self))) (ap (λ v. v.held) c.self.view_is ∙ c.make_room.ensures.held)
    (joins_late xs (heap_items c.self.inside.late) (heap_items c.push.new.self) added c.in_ok-push.ensures.permutation)
