-- A request that leaves its queue makes those that wait fewer.
use Rattle.std.proofs.Common.{◌≡◌, ℕ, zero, suc, ◌<◌, ◌≤◌, Bool, true, false, not, cond, List, [], ◌∷◌, length, drop, Option, Some, None, refl, sym, subst, arith}
use Rattle.std.specs.Prelude.{Contains, slice_get, slice_index_or, slice_set, sum_by, count_by, IfSome, ◌↔◌, ◌==◌}
use Rattle.std.proofs.lemmas.Bool.{eq-eqb, false≢true}
use Rattle.std.proofs.lemmas.List.Sums.{sum_by-cons, length-filter, count_by-le-length}
use Rattle.apf_queue.specs.View.{QueuesView, queue_in, struck}
use Rattle.apf_queue.specs.RingsView.{without}
use Rattle.apf_book.specs.Life.{LifeState, how_many}
use Rattle.apf_book.proofs.Lists.{first_none}

fewer_in : (qs : List (List ℕ)) (q : ℕ) (xs : List ℕ) → length xs < length (slice_index_or qs q []) → sum_by (λ (rs : List ℕ). length rs) (slice_set qs q xs) < sum_by (λ (rs : List ℕ). length rs) qs
fewer_in [] q xs l = absurd (omega (arith, l))
fewer_in (y ∷ ys) zero xs l =
    let a = sum_by-cons (λ (rs : List ℕ). length rs) xs ys in
    let b = sum_by-cons (λ (rs : List ℕ). length rs) y ys in omega (arith, l)
fewer_in (y ∷ ys) (suc q) xs l =
    let a = sum_by-cons (λ (rs : List ℕ). length rs) y (slice_set ys q xs) in
    let b = sum_by-cons (λ (rs : List ℕ). length rs) y ys in
    let c = fewer_in ys q xs l in omega arith

behind_first : (xs : List ℕ) (r : ℕ) → slice_get xs 0 ≡ Some r → length (drop 1 xs) < length xs
behind_first [] r e = absurd (first_none e)
behind_first (x ∷ xs) r e = omega arith

pub fewer_dispatched : (s t : QueuesView) (q r : ℕ) → t.queues ≡ slice_set s.queues q (drop 1 (queue_in s q)) → slice_get (queue_in s q) 0 ≡ Some r → how_many t < how_many s
fewer_dispatched s t q r is first =
    subst (λ (qs : List (List ℕ)). sum_by (λ (rs : List ℕ). length rs) qs < how_many s) (sym is) (fewer_in s.queues q (drop 1 (queue_in s q)) (behind_first (queue_in s q) r first))

none_if : (b : Bool) → b ≡ true → ◌≡◌ {A = ℕ} (cond (not b) 1 0) 0
none_if true e = refl
none_if false e = absurd (false≢true e)

at_most_one : (b : Bool) → ◌≤◌ (cond {A = ℕ} b 1 0) 1
at_most_one true = omega arith
at_most_one false = omega arith

counts_less : (r : ℕ) (xs : List ℕ) (i : ℕ) → i < length xs → slice_index_or xs i r ≡ r → count_by (λ (j : ℕ). not (r == j)) xs < length xs
counts_less r [] i l e = absurd (omega (arith, l))
counts_less r (x ∷ xs) zero l e =
    let p : ℕ → Bool = λ (j : ℕ). not (r == j) in
    let a = sum_by-cons (λ (j : ℕ). cond (p j) 1 0) x xs in
    let b = count_by-le-length p xs in
    let here = none_if (r == x) (eq-eqb r x (sym e)) in omega arith
counts_less r (x ∷ xs) (suc i) l e =
    let p : ℕ → Bool = λ (j : ℕ). not (r == j) in
    let a = sum_by-cons (λ (j : ℕ). cond (p j) 1 0) x xs in
    let b = counts_less r xs i (omega (arith, l)) e in
    let one = at_most_one (p x) in omega arith

shorter : (r : ℕ) (xs : List ℕ) → Contains xs r → length (without r xs) < length xs
shorter r xs c = let a = length-filter (λ (j : ℕ). not (r == j)) xs in let b = counts_less r xs c.0 c.1 c.2 in omega arith

pub fewer_struck : (o : Option ℕ) (s : LifeState) (t : LifeState) (slot : ℕ) → ((q : ℕ) → (o ≡ Some q) ↔ Contains (queue_in s.queues q) slot) → IfSome o (λ q. t.queues ≡ struck s.queues q slot) → IfSome o (λ q. how_many t.queues < how_many s.queues)
fewer_struck None s t slot stood is = tt
fewer_struck (Some q) s t slot stood is =
    subst (λ (x : QueuesView). how_many x < how_many s.queues) (sym is)
    (fewer_in s.queues.queues q (without slot (queue_in s.queues q)) (shorter slot (queue_in s.queues q) ((stood q).0 (refl {a = Some q}))))
