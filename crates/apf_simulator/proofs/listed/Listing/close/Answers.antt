-- All of them, in the order of their lines.
use Rattle.std.proofs.Common.{◌≡◌, List, sym, ◌∙◌, subst, arith, rules}
use Rattle.std.specs.Prelude.{IsPermutation}
use Rattle.std.proofs.lemmas.List.Sorted.{length_permutation}
use Rattle.apf_simulator.specs.Hearing.{Holds}
use Rattle.apf_simulator.specs.declared.held.Held.{Held}
use Rattle.apf_simulator.specs.declared.held.TimeWindow.{TimeWindow}
use Rattle.apf_simulator.proofs.Showing.{as_many}
use Rattle.apf_simulator.proofs.Windowed.{listed}
use Rattle.apf_simulator.proofs.listed.Listing.close.Goals as goal

pub returns-clause-listed : goal.returns-clause-listed
returns-clause-listed c = λ before now turns holds.
    let same : c.args.self.window ≡ c.args.window = search rules in
    listed c.args.window before now turns c.args.self.held (subst (λ (w : TimeWindow). Holds w before now turns c.args.self.held) same holds) c.put_in_order.new.held.items (record { requests = c.in_ok-requests.requests; ends = c.in_ok-requests.ends; end = c.args.end })
    (subst (λ (l : List Held). IsPermutation l c.put_in_order.new.held.items) (c.into_vec-held.ensures ∙ c.keep.ensures) c.put_in_order.ensures.same) c.put_in_order.ensures.in_order c.in_ok-requests.ensures

pub returns-clause-few : goal.returns-clause-few
returns-clause-few c =
    let many = as_many c.put_in_order.new.held.items c.in_ok-requests.requests.items c.in_ok-requests.ends.items c.in_ok-requests.ensures in
    let a = many.0 in
    let same = length_permutation c.into_vec-held.result.items c.put_in_order.new.held.items c.put_in_order.ensures.same in
    let low = c.if-len.false in
    let is = c.len.ensures in
    omega arith

pub returns-clause-each : goal.returns-clause-each
returns-clause-each c =
    let many = as_many c.put_in_order.new.held.items c.in_ok-requests.requests.items c.in_ok-requests.ends.items c.in_ok-requests.ensures in
    many.1 ∙ sym many.0
