-- The lower line comes first.
use Rattle.std.proofs.Common.{◌≡◌, ℕ, ◌+◌, ◌∙◌, Bool, true, false, cond, refl, sym, rules}
use Rattle.std.specs.Prelude.{slice_index_or, nat_lt, ◌==◌}
use Rattle.std.specs.Ordering.{nat_cmp, is_lt}
use Rattle.std.specs.declared.cmp.Ordering.TheVariants.{Less, Equal, Greater}
use Rattle.std.proofs.lemmas.List.Sorted.{answers_always}
use Rattle.apf_times.specs.declared.window.Arrival.{Arrival}
use Rattle.apf_traces.specs.declared.request.TraceRequest.{TraceRequest}
use Rattle.apf_hands.proofs.firsts.put_in_order.Goals as goal

by_tests : (p q : Bool) → is_lt (cond p Less (cond q Equal Greater)) ≡ p
by_tests true q = refl
by_tests false true = refl
by_tests false false = refl

one_order : (a b : ℕ) → is_lt (nat_cmp a b) ≡ nat_lt a b
one_order a b = by_tests (nat_lt a b) (a == b)

pub returns-clause-in_order : goal.returns-clause-in_order
returns-clause-in_order c = λ k d low high.
    let firsts = c.sort_unstable_by_key.new.self.items in
    let later = slice_index_or firsts (k + 1) d in
    let earlier = slice_index_or firsts k d in
    let sorted = c.sort_unstable_by_key.ensures.sorted (λ (first : Arrival TraceRequest). first.place.line) (answers_always _ _ _ (λ f a r g h. search rules)) in
    sym (one_order later.place.line earlier.place.line) ∙ sorted k d low high
