-- The rings as they are made: each node alone.
use Rattle.std.proofs.Common.{◌≡◌, ℕ, zero, suc, ◌+◌, ◌<◌, ◌^◌, List, [], length, get_or, replicate, Option, None, Some, refl, sym, ap, ap₂, ◌∙◌, subst, arith}
use Rattle.std.specs.Prelude.{take}
use Rattle.std.proofs.lemmas.List.{length-replicate, take-replicate}
use Rattle.apf_queue.specs.declared.nodes.Node.{Node}
use Rattle.apf_queue.specs.Nodes.{AreLinked, next_nodes, previous_nodes, queues_of, costs_of, alone_nodes}
use Rattle.apf_queue.specs.RingsView.{RingsView, AreRings, rings_from, ring_at}
use Rattle.apf_queue.proofs.Columns.{alone_queues, alone_costs, alone_next, alone_previous, alone_count}
use Rattle.apf_queue.proofs.RingLists.{AreRings-ring_at, rings_from_is}

-- the first numbers, in order
pub record AreNumbersBelow (n : ℕ) (xs : List ℕ) : Type 0 where
  pub count : length xs ≡ n
  pub own : (i : ℕ) → i < n → get_or xs i 0 ≡ i

get_or-replicate_default : {A : Type 0} (n i : ℕ) (a : A) → get_or (replicate n a) i a ≡ a
get_or-replicate_default zero i a = refl
get_or-replicate_default (suc n) zero a = refl
get_or-replicate_default (suc n) (suc i) a = get_or-replicate_default n i a

alone_linked : (n : ℕ) (next previous : List ℕ) → AreNumbersBelow n next → AreNumbersBelow n previous → AreLinked next previous
alone_linked n next previous a b =
    let lt = λ (i : ℕ) (l : i < length next). subst (λ (m : ℕ). i < m) a.count l in
    let na = λ (i : ℕ) (l : i < length next). a.own i (lt i l) in
    let nb = λ (i : ℕ) (l : i < length next). b.own i (lt i l) in
    record {
      same_len = a.count ∙ sym b.count;
      next_in = λ i l. subst (λ (m : ℕ). m < length next) (sym (na i l)) l;
      previous_in = λ i l. subst (λ (m : ℕ). m < length next) (sym (nb i l)) l;
      back = λ i l. ap (λ j. get_or previous j 0) (na i l) ∙ nb i l;
      forth = λ i l. ap (λ j. get_or next j 0) (nb i l) ∙ na i l;
    }

module _ (requests queues : ℕ) (next previous : List ℕ) (fits : requests + queues < 2 ^ 32) (is_next : AreNumbersBelow (requests + queues) next) (is_previous : AreNumbersBelow (requests + queues) previous) where
  opening : AreRings requests next previous (replicate (requests + queues) None) (replicate queues 0) (λ _. [])
  opening =
      let count : length (replicate {A = ℕ} queues 0) ≡ queues = length-replicate queues 0 in
      let none = λ (r : ℕ). get_or-replicate_default {A = Option ℕ} (requests + queues) r None in
      record {
        linked = alone_linked (requests + queues) next previous is_next is_previous;
        one_node_each = is_next.count ∙ ap (λ m. requests + m) (sym count);
        nodes_fit = subst (λ (m : ℕ). requests + m < 2 ^ 32) (sym count) fits;
        one_queue_each = length-replicate (requests + queues) None ∙ sym is_next.count;
        ring = λ q l. is_next.own (requests + q) (omega arith);
        apart = λ q l. tt;
        counted = λ q l. get_or-replicate_default queues q 0;
        owned = λ q l r c. absurd (let l2 : c.0 < 0 = c.1 in omega arith);
        found = λ q r e. absurd (let f : ◌≡◌ {A = Option ℕ} None (Some q) = sym (none r) ∙ e in cc);
        alone = λ r l e. is_next.own r (omega arith);
      }

  pub opening_rings : AreRings requests next previous (replicate (requests + queues) None) (replicate queues 0) (ring_at requests next (replicate queues 0))
  opening_rings = AreRings-ring_at _ _ _ _ _ _ opening

  pub opening_seen : (costs : List ℕ) → costs ≡ replicate requests 0
      → ◌≡◌ {A = RingsView} (record { queues = rings_from next requests (replicate queues 0); costs = costs; requests = requests }) (record { queues = replicate queues []; costs = replicate requests 0; requests = requests })
  opening_seen costs none_charged =
      ap₂ (λ (qs : List (List ℕ)) (cs : List ℕ). let v : RingsView = record { queues = qs; costs = cs; requests = requests } in v)
      (rings_from_is requests next previous (replicate (requests + queues) None) (replicate queues 0) (λ _. []) opening (replicate queues [])
      (length-replicate queues [] ∙ sym (length-replicate queues 0)) (λ q l. get_or-replicate_default {A = List ℕ} queues q [])) none_charged

-- the rings of nodes that are each alone
module _ (requests queues : ℕ) (nodes : List Node) (fits : requests + queues < 2 ^ 32) (are : nodes ≡ alone_nodes (requests + queues)) where
  next_below : AreNumbersBelow (requests + queues) (next_nodes nodes)
  next_below = rw are (record { count = alone_count (λ (n : Node). n.next) (requests + queues); own = alone_next (requests + queues) })

  previous_below : AreNumbersBelow (requests + queues) (previous_nodes nodes)
  previous_below = rw are (record { count = alone_count (λ (n : Node). n.previous) (requests + queues); own = alone_previous (requests + queues) })

  none_stands : queues_of nodes ≡ replicate (requests + queues) None
  none_stands = rw are (alone_queues (requests + queues))

  none_charged : take requests (costs_of nodes) ≡ replicate requests 0
  none_charged = rw are (ap (take requests) (alone_costs (requests + queues)) ∙ take-replicate requests (requests + queues) 0 (omega arith))

  pub opening_nodes : AreRings requests (next_nodes nodes) (previous_nodes nodes) (queues_of nodes) (replicate queues 0) (ring_at requests (next_nodes nodes) (replicate queues 0))
  opening_nodes = rw none_stands (opening_rings requests queues (next_nodes nodes) (previous_nodes nodes) fits next_below previous_below)

  pub opening_nodes_seen : ◌≡◌ {A = RingsView} (record { queues = rings_from (next_nodes nodes) requests (replicate queues 0); costs = take requests (costs_of nodes); requests = requests })
      (record { queues = replicate queues []; costs = replicate requests 0; requests = requests })
  opening_nodes_seen = opening_seen requests queues (next_nodes nodes) (previous_nodes nodes) fits next_below previous_below (take requests (costs_of nodes)) none_charged
