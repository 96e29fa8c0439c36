-- All came, and were put into the order of their lines.
use Rattle.std.proofs.Common.{List, map, sym, subst}
use Rattle.std.specs.Prelude.{nat_eq}
use Rattle.std.specs.List.{IsDistinct}
use Rattle.std.specs.List.Sorted.{IsPermutation}
use Rattle.apf_hands.specs.Firsts.{HaveCome, hash_of}
use Rattle.apf_hands.proofs.Meeting.{Came, distinct_moved, firsts_moved}
use Rattle.apf_hands.proofs.firsts.read_firsts.Goals as goal

pub returns : goal.returns
returns g c = λ read.
    let was = g.R.Read.remaining c.args.input.now in
    let left = g.R.Read.remaining c.meet_all.new.input in
    let size = c.args.reader.now.window.size in
    let firsts = c.into_firsts-requests.result.items in
    let same : IsPermutation firsts c.put_in_order.new.firsts.items = c.put_in_order.ensures.same in
    let come : HaveCome size was left firsts = subst (HaveCome size was left) (sym c.into_firsts-requests.ensures.firsts) (c.in_ok-meet_all.ensures read) in
    record {
      come = firsts_moved size was left firsts c.put_in_order.new.firsts.items same come;
      distinct = distinct_moved firsts c.put_in_order.new.firsts.items same (subst (λ (l : List Came). IsDistinct nat_eq (map hash_of l)) (sym c.into_firsts-requests.ensures.firsts) c.into_firsts-requests.ensures.distinct);
      order = c.put_in_order.ensures.in_order;
    }

pub invariant_of-result : goal.invariant_of-result
invariant_of-result g c = record {
  distinct = distinct_moved c.into_firsts-requests.result.items c.put_in_order.new.firsts.items c.put_in_order.ensures.same
      (subst (λ (l : List Came). IsDistinct nat_eq (map hash_of l)) (sym c.into_firsts-requests.ensures.firsts) c.into_firsts-requests.ensures.distinct);
}
